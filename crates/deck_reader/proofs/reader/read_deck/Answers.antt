-- The fault of cards or lines goes before those of units.
use Rattle.std.proofs.Common.{rules, ◌≡◌, Err, sym, subst}
use Rattle.std.specs.Prelude.{IfErr}
use Rattle.deck_reader.specs.Answers.{IsDeckRefusal, deck_units}
use Rattle.deck_reader.proofs.CheckLemmas.{line_refusal}
use Rattle.deck_reader.proofs.reader.read_deck.Goals as goal

pub returns-in_err-units-clause-refused : goal.returns-in_err-units-clause-refused
returns-in_err-units-clause-refused c =
    let gone : c.from_residual.result ≡ Err c.in_err-units.field-0.0 = search rules in
    subst (λ r. IfErr r (IsDeckRefusal (deck_units c.args.bytes.now))) (sym gone) (line_refusal (deck_units c.args.bytes.now) c.in_err-units.field-0.0 c.in_err-units.ensures.refused)
