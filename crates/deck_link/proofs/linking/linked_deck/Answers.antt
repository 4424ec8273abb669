-- The units that were read link, or their fault is that of the deck.
use Rattle.std.proofs.Common.{rules, ◌≡◌, Err, map, sym, subst}
use Rattle.std.specs.Prelude.{IfOk, IfErr}
use Rattle.f66_tree.specs.Views.{routine_of}
use Rattle.linker.specs.Rules.{program_of}
use Rattle.deck_reader.specs.Answers.{deck_units}
use Rattle.deck_link.specs.Ending.{end_of}
use Rattle.deck_link.specs.Linking.{IsAccepted, IsRefusedProgram, IsRefusedDeck}
use Rattle.deck_link.proofs.EndLemmas.{read_is_short}
use Rattle.deck_link.proofs.LinkLemmas.{lines_refused, program_refused, units_told, accepted_told, refused_told}
use Rattle.deck_link.proofs.linking.linked_deck.Goals as goal

pub returns-in_err-units-clause-refused : goal.returns-in_err-units-clause-refused
returns-in_err-units-clause-refused c =
    let finish = end_of c.args.bytes.now in
    let gone : c.from_residual.result ≡ Err c.in_err-units.field-0.0 = search rules in
    subst (λ r. IfErr r (IsRefusedDeck (deck_units c.args.bytes.now) finish)) (sym gone) (lines_refused (deck_units c.args.bytes.now) finish c.in_err-units.field-0.0 c.in_err-units.ensures.refused)

pub end_of-requires : goal.end_of-requires
end_of-requires c = record { few = read_is_short c.args.bytes.now (map routine_of c.in_ok-units.units.items) c.in_ok-units.ensures.units }

pub returns-clause-units : goal.returns-clause-units
returns-clause-units c = units_told (λ us. us.items) c.in_ok-units.units.items (deck_units c.args.bytes.now) c.in_ok-units.ensures.units c.linked_units.result c.linked_units.ensures.same

pub returns-clause-accepted : goal.returns-clause-accepted
returns-clause-accepted c =
    subst (λ finish. IfOk c.linked_units.result (λ us. IsAccepted (program_of us.items finish))) c.end_of.ensures
    (accepted_told (λ us. us.items) c.in_ok-units.units.items c.end_of.result c.linked_units.result c.linked_units.ensures.same c.linked_units.ensures.accepted)

pub returns-clause-refused : goal.returns-clause-refused
returns-clause-refused c =
    let finish = c.end_of.result in
    let units = c.in_ok-units.units.items in
    refused_told (IsRefusedProgram (program_of units finish)) (IsRefusedDeck (deck_units c.args.bytes.now) (end_of c.args.bytes.now))
    (λ e h. subst (λ p. IsRefusedDeck (deck_units c.args.bytes.now) p e) c.end_of.ensures (program_refused (deck_units c.args.bytes.now) units finish c.in_ok-units.ensures.units e h))
    c.linked_units.result c.linked_units.ensures.refused
