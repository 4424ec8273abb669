-- The type, and then the variables.
use Rattle.std.proofs.lemmas.Result.{IfOk-weaker}
use Rattle.efl_tree.specs.Views.{type_of, vars_of}
use Rattle.efl_declarations.specs.Sees.{SeesSizes, SeesList}
use Rattle.efl_declarations.proofs.SeenLemmas.{list_seen}
use Rattle.efl_declarations.proofs.types.see_list.Goals as goal

pub returns : goal.returns
returns c =
    let y = c.args.types.now in
    let z = c.see_type.new.types in
    let w = c.see_sizes.new.types in
    let before = c.args.block.now in
    let after = c.see_type.new.block in
    let beyond = c.args.beyond.now in
    let p = c.args.place in
    let formals = c.args.formals.now in
    let vs = vars_of c.args.list.now in
    let s = c.in_ok-seen.seen in
    IfOk-weaker c.see_sizes.result (λ f. SeesSizes z p formals s vs w f) (λ f. SeesList y before beyond p formals (type_of c.args.kind.now) vs w after f)
    (λ f sized. list_seen y z w before after beyond p formals (type_of c.args.kind.now) vs s f c.in_ok-seen.ensures sized)
    c.see_sizes.ensures
