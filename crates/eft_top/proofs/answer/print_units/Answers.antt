-- Why `print_units` keeps its clauses.
use Rattle.std.proofs.Common.{◌≡◌, List, None, sym, ap, subst, ◌∙◌, map, rules}
use Rattle.std.specs.List.{All}
use Rattle.std.proofs.lemmas.Option.{none-some}
use Rattle.deck.specs.Decks.{HasCardLabels}
use Rattle.deck.specs.LongTexts.{fault_of_deck, Refuses}
use Rattle.ground.specs.declared.fault.Refusal.TheVariants as refusals
use Rattle.f66_tree.specs.declared.unit.Unit.{Unit as AUnit}
use Rattle.f66_tree.specs.Views.{routine_of}
use Rattle.eft_top.proofs.Decks.{deck_fits, all_labels_fit}
use Rattle.eft_top.proofs.answer.print_units.Goals as goal

pub write_deck-requires : goal.write_deck-requires
write_deck-requires g c = record { labels = subst (λ (us : List AUnit). All HasCardLabels us) (sym c.deref.ensures.value) (all_labels_fit c.args.units.now.items c.requires.sound) }

pub unreachable-requires : goal.unreachable-requires
unreachable-requires g c =
    let fault = c.in-Err-Fault.field-0-0 in
    let units = map routine_of c.deref.result.now in
    let refused : Refuses (fault_of_deck units) (refusals.Fault fault) = subst (λ r. Refuses (fault_of_deck units) r) c.in-Err-Fault.field-0-is c.in-Err-Fault.ensures.refused in
    let same : fault_of_deck units ≡ None = ap (λ (us : List AUnit). fault_of_deck (map routine_of us)) c.deref.ensures.value ∙ deck_fits (map routine_of c.args.units.now.items) c.requires.printable in
    none-some _ (sym same ∙ refused)

pub returns-in-Ok : goal.returns-in-Ok
returns-in-Ok g c = search rules
