-- One letter more has a number, or the whole name has none.
use Rattle.std.proofs.Common.{◌+◌, reverse, sym, ap, ◌∙◌}
use Rattle.std.proofs.lemmas.List.{take_all}
use Rattle.efl_scoped.specs.Seen.{table_of}
use Rattle.efl_variables.specs.Keys.{list_number}
use Rattle.efl_variables.proofs.FindLemmas.{found_more, none_later}
use Rattle.efl_variables.proofs.keys.find_name.Goals as goal

pub loop-letter-preserved : goal.loop-letter-preserved
loop-letter-preserved c =
    let l = c.loop-letter in
    found_more (table_of c.args.numbers.now) c.args.name.now l.letter-index 0 l.number c.loop-letter-test.true l.invariant ∙ sym c.find.ensures ∙ c.in_ok-number.was

pub returns-in_err-number : goal.returns-in_err-number
returns-in_err-number c =
    let l = c.loop-letter in
    let f = table_of c.args.numbers.now in
    c.from_residual.ensures
    ∙ sym (none_later f c.args.name.now (l.letter-index + 1) (found_more f c.args.name.now l.letter-index 0 l.number c.loop-letter-test.true l.invariant ∙ sym c.find.ensures ∙ c.in_err-number.was))

pub returns : goal.returns
returns c =
    let l = c.loop-letter in
    sym l.invariant ∙ ap (λ xs. list_number (table_of c.args.numbers.now) (reverse xs)) (take_all l.letter-index c.args.name.now c.loop-letter-test.false)
