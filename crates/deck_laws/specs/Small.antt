-- Decks of few statements pass no limit on bytes: a statement takes twenty cards at most, which have 1,460 bytes.
use Rattle.std.specs.Prelude.{◌≡◌, ◌<◌, ◌≤◌, List, length, map, None}
use Rattle.std.specs.List.{AllByRecursion}
use Rattle.f66_tree.specs.Syntax.{Routine}
use Rattle.deck.specs.LongTexts.{fault_of_deck}
use Rattle.deck.specs.Written.{statements_of, written_unit}
use Rattle.deck_laws.specs.Whole.{IsShallowUnit}

-- sound units with no more than 90,000 headers and statements, whose deck is written without a refusal
pub record IsSmallDeck (units : List Routine) : Type 0 where
  pub each : AllByRecursion IsShallowUnit units
  pub texts : fault_of_deck units ≡ None
  pub some : 0 < length units
  pub few : length units ≤ 600
  pub statements : statements_of (map written_unit units) ≤ 90000
