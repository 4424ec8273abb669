-- Decks of sound units. Beside soundness they ask what the trees of statements keep and no rule says: in a format only I, L, A and
-- groups have counts, and A has a width of one; and a computed GO TO has a label.
use Rattle.std.specs.Prelude.{◌≡◌, ℕ, ◌<◌, ◌≤◌, List, length, map, None}
use Rattle.std.specs.List.{AllByRecursion}
use Rattle.f66_tree.specs.declared.editing.EditKind.TheVariants as edits
use Rattle.f66_tree.specs.Fields.{Step, Takes, Blanks, Chars, Slash, Fields, NoField, Single, Group}
use Rattle.f66_tree.specs.Syntax.{Act, Computed, When, Format, Line, Routine}
use Rattle.f66_check.specs.Answers.{IsSoundUnit}
use Rattle.deck.specs.Decks.{deck_of}
use Rattle.deck.specs.LongTexts.{fault_of_deck}
use Rattle.deck.specs.Written.{statements_of, written_unit}
use Rattle.deck_laws.specs.Fitting.{IsShallow}

abbrev pub IsWholeStep : ℕ → Step → Type 0
IsWholeStep n (Takes edits.Letter w) = w ≡ 1
IsWholeStep n (Takes edits.Whole w) = Unit {0}
IsWholeStep n (Takes edits.Truth w) = Unit {0}
IsWholeStep n (Blanks m) = n ≡ 1
IsWholeStep n (Chars text) = n ≡ 1
IsWholeStep n Slash = n ≡ 1

abbrev pub AreWholeFields : Fields → Type 0
AreWholeFields NoField = Unit {0}
AreWholeFields (Single n s rest) = IsWholeStep n s × AreWholeFields rest
AreWholeFields (Group n inside rest) = AreWholeFields inside × AreWholeFields rest

abbrev pub IsWhole : Act → Type 0
IsWhole (Computed ls x) = 0 < length ls
IsWhole (When e a) = IsWhole a
IsWhole (Format fs) = AreWholeFields fs
IsWhole _ = Unit {0}

-- a sound unit whose statements have no more than 110 open parentheses each
pub record IsShallowUnit (unit : Routine) : Type 0 where
  pub sound : IsSoundUnit unit
  pub whole : AllByRecursion (λ (line : Line). IsWhole line.act) unit.lines
  pub shallow : AllByRecursion (λ (line : Line). IsShallow line.act) unit.lines

-- such units whose deck is written without a refusal, and passes no limit of decks
pub record IsSoundDeck (units : List Routine) : Type 0 where
  pub each : AllByRecursion IsShallowUnit units
  pub texts : fault_of_deck units ≡ None
  pub some : 0 < length units
  pub few : length units ≤ 600
  pub statements : statements_of (map written_unit units) ≤ 2000000
  pub bytes : length (deck_of units) ≤ 134217728
