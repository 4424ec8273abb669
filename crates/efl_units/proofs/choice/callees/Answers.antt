-- One name more is listed.
use Rattle.std.proofs.Common.{◌∙◌, sym, ap}
use Rattle.std.specs.List.{enumerate_from}
use Rattle.std.proofs.Math.ListN.{drop_of_length-le}
use Rattle.efl_tree.specs.Views.{procedure_of}
use Rattle.efl_room.proofs.Rows.{next_member}
use Rattle.efl_naming.specs.Choice.{procedure_name}
use Rattle.efl_units.proofs.Mapped.{mapped_more, mapped_over}
use Rattle.efl_units.proofs.choice.callees.Goals as goal

pub loop-number-preserved : goal.loop-number-preserved
loop-number-preserved c =
    let i = c.loop-number.number in
    let next = ap (enumerate_from i) (next_member c.args.procedures.now i c.index-procedures-number.result c.loop-number-test.true c.index-procedures-number.is) in
    mapped_more (λ x. procedure_name x.0 (procedure_of x.1)) _ _ _ _ _ _ next c.in_ok-push.ensures.items c.in_ok-name.ensures ∙ c.loop-number.invariant

pub returns : goal.returns
returns c =
    let last = ap (enumerate_from c.loop-number.number) (drop_of_length-le c.args.procedures.now c.loop-number-test.false) in
    sym (mapped_over (λ x. procedure_name x.0 (procedure_of x.1)) _ _ last) ∙ c.loop-number.invariant
