-- What is there, with the cards of what is left, are all the cards.
use Rattle.std.proofs.Common.{◌≡◌, ◌++◌, drop, map}
use Rattle.std.specs.List.{flat_map}
use Rattle.f66_tree.specs.Views.{routine_of}
use Rattle.deck.specs.Decks.{unit_cards}
use Rattle.deck.specs.Fronts.{Begins}
use Rattle.deck.specs.LongTexts.{fault_of_unit, first_fault}
use Rattle.deck.proofs.writer.push_units.Given as goal

abbrev pub invariant-loop-unit : goal.invariant-loop-unit
invariant-loop-unit l = record {
  told : l.out.items ++ flat_map unit_cards (map routine_of (drop l.unit-index l.units)) ≡ l.fn.out.items ++ flat_map unit_cards (map routine_of l.units);
  fault : first_fault fault_of_unit (map routine_of (drop l.unit-index l.units)) ≡ first_fault fault_of_unit (map routine_of l.units);
  begun : Begins l.fn.out.items l.out.items;
}
