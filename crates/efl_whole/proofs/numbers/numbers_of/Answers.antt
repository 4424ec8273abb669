-- One procedure more has its number.
use Rattle.std.proofs.Common.{◌∙◌, ap, sym}
use Rattle.std.specs.Prelude.{if◌then◌else◌, Some, None}
use Rattle.std.specs.Option.{option_or}
use Rattle.std.specs.Str.{bytes_eq}
use Rattle.rule_table.specs.Words.{is_some_and}
use Rattle.efl_tree.specs.Views.{procedure_of}
use Rattle.efl_whole.proofs.NumberLemmas.{numbered_more}
use Rattle.efl_whole.proofs.numbers.numbers_of.Goals as goal

pub loop-number-preserved : goal.loop-number-preserved
loop-number-preserved c = λ x.
    let i = c.loop-number.number in
    let u = c.index-procedures-number.result in
    c.in_ok-note_name.ensures x ∙ ap (λ o. option_or o (if is_some_and (bytes_eq x) (procedure_of u).name then Some i else None)) (c.loop-number.invariant x)
    ∙ sym (numbered_more x c.args.procedures.now i u c.loop-number-test.true c.index-procedures-number.is)
