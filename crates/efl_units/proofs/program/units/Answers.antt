-- The unit of one procedure more is listed.
use Rattle.std.proofs.Common.{◌≡◌, ◌<◌, ◌≤◌, ◌∙◌, get_or, length, refl, sym, ap, map, subst}
use Rattle.std.specs.List.{enumerate_from}
use Rattle.std.proofs.Math.ListN.{drop_of_length-le}
use Rattle.efl_tree.specs.Views.{procedure_of, program_of}
use Rattle.efl_lowered.specs.Lowering.{unit_of}
use Rattle.efl_naming.specs.Choice.{naming_of}
use Rattle.efl_room.proofs.Rows.{next_member}
use Rattle.efl_units.proofs.Mapped.{mapped_at, mapped_more, mapped_over}
use Rattle.efl_units.proofs.program.units.Goals as goal

pub loop-number-preserved : goal.loop-number-preserved
loop-number-preserved c = λ are bodies.
    let p = program_of c.args.program.now in
    let us = c.args.program.now.procedures.items in
    let i = c.loop-number.number in
    let u = c.procedure-item.result in
    let same = c.deref-procedure-items.ensures.value in
    let below = subst (λ xs. i < length xs) same c.loop-number-test.true in
    let here = subst (λ xs. u ≡ get_or xs i u) same c.procedure-item.is in
    let before = c.loop-number.invariant are bodies in
    let put = c.in_ok-put_unit.ensures in
    let is = mapped_at procedure_of us i u below here in
    let unit = put.put p are bodies (c.in_ok-typed.ensures are) before.names is in
    let next = ap (λ xs. enumerate_from i (map procedure_of xs)) (next_member us i u below here) in
    record {
      names = put.kept p before.names;
      listed = mapped_more (λ x. unit_of (naming_of p) p x.0 x.1) _ _ _ _ _ _ next unit refl ∙ before.listed;
    }

pub returns : goal.returns
returns c = λ are bodies.
    let p = program_of c.args.program.now in
    let done = subst (λ xs. length xs ≤ c.loop-number.number) c.deref-procedure-items.ensures.value c.loop-number-test.false in
    let last = ap (λ xs. enumerate_from c.loop-number.number (map procedure_of xs)) (drop_of_length-le c.args.program.now.procedures.items done) in
    sym (mapped_over (λ x. unit_of (naming_of p) p x.0 x.1) _ _ last) ∙ (c.loop-number.invariant are bodies).listed
