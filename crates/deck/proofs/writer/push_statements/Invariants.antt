-- What is there, with the cards of what is left, are all the cards.
use Rattle.std.proofs.Common.{◌≡◌, ◌++◌, drop, map}
use Rattle.std.specs.List.{flat_map}
use Rattle.f66_tree.specs.Views.{line_of}
use Rattle.deck.specs.Decks.{statement_cards}
use Rattle.deck.specs.Fronts.{Begins}
use Rattle.deck.specs.LongTexts.{fault_of_line, first_fault}
use Rattle.deck.proofs.writer.push_statements.Given as goal

abbrev pub invariant-loop-statement : goal.invariant-loop-statement
invariant-loop-statement l = record {
  told : l.out.items ++ flat_map statement_cards (map line_of (drop l.statement-index l.statements)) ≡ l.fn.out.items ++ flat_map statement_cards (map line_of l.statements);
  fault : first_fault fault_of_line (map line_of (drop l.statement-index l.statements)) ≡ first_fault fault_of_line (map line_of l.statements);
  begun : Begins l.fn.out.items l.out.items;
}
