-- By the rule that the variables break.
use Rattle.std.proofs.Common.{refl}
use Rattle.efl_tree.specs.Views.{vars_of}
use Rattle.efl_blocks.proofs.MemberLemmas.{numbers_later}
use Rattle.efl_declarations.proofs.SeenLemmas.{sizes_seen}
use Rattle.efl_declarations.proofs.types.see_sizes.Goals as goal

pub returns : goal.returns
returns c =
    let y = c.args.types.now in
    let z = record y { numbers = c.variables_rule.new.numbers } in
    sizes_seen y z c.args.place c.args.formals.now c.args.seen (vars_of c.args.list.now) c.in_ok-rule.rule c.fault_by-own.result c.or.result
    (numbers_later y z c.in_ok-rule.ensures.kept refl) c.in_ok-rule.ensures.first c.fault_by-own.ensures c.or.ensures
