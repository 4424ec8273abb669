-- One unit more has its number.
use Rattle.std.proofs.Common.{◌∙◌, ap, sym}
use Rattle.std.specs.Prelude.{if◌then◌else◌, Some, None}
use Rattle.std.specs.Option.{option_or}
use Rattle.f66_tree.specs.Views.{routine_of}
use Rattle.f66_program.specs.Calls.{is_called}
use Rattle.linker.proofs.NumberLemmas.{named_more}
use Rattle.linker.proofs.numbers.numbers_of.Goals as goal

pub loop-number-preserved : goal.loop-number-preserved
loop-number-preserved c = λ q.
    let i = c.loop-number.number in
    let unit = c.index-units-number.result in
    c.in_ok-note_unit.ensures q ∙ ap (λ o. option_or o (if is_called q (routine_of unit).header then Some i else None)) (c.loop-number.invariant q)
    ∙ sym (named_more routine_of q c.args.units.now i unit c.loop-number-test.true c.index-units-number.is)
