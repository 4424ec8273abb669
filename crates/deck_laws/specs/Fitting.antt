-- Which statements pass no limit of a deck's texts, with names of six characters at most and no more than 110 open parentheses, and
-- which units have a deck that passes no limit.
use Rattle.std.specs.Prelude.{◌≡◌, ◌<◌, ◌≤◌, true, false, List, length, map, None, unwrap_or}
use Rattle.std.specs.List.{list_all, AllByRecursion}
use Rattle.f66_tree.specs.Syntax.{Act, Line, Routine}
use Rattle.stmt_text.specs.Texts.{statement_text}
use Rattle.card_reader.specs.Cards.{is_printable}
use Rattle.stmt_reader.specs.Faults.{act_has, too_long}
use Rattle.deck.specs.Decks.{deck_of}
use Rattle.deck.specs.LongTexts.{fault_of_deck}
use Rattle.deck.specs.ReadBack.{IsReadableLine}
use Rattle.deck.specs.Written.{statements_of, written_unit}
use Rattle.deck_laws.specs.Headers.{IsReadableHeader}
use Rattle.deck_laws.specs.Nesting.{act_nesting}

-- no name is longer than six characters
abbrev pub HasShortNames : Act → Type 0
HasShortNames a = act_has too_long a ≡ false

abbrev pub IsShallow : Act → Type 0
IsShallow a = act_nesting a ≤ 110

-- a statement that is read back and passes no limit of texts
pub record IsFittingLine (line : Line) : Type 0 where
  pub readable : IsReadableLine line
  pub names : HasShortNames line.act
  pub shallow : IsShallow line.act

-- a statement whose label has five digits at most, and whose text has no other characters than cards have
pub record IsPrintableLine (line : Line) : Type 0 where
  pub label : unwrap_or line.label 0 ≤ 99999
  pub text : list_all is_printable (statement_text line.act) ≡ true

abbrev pub IsPrintableUnit : Routine → Type 0
IsPrintableUnit unit = AllByRecursion IsPrintableLine unit.lines

-- a unit with such a header and such statements
pub record IsFittingUnit (unit : Routine) : Type 0 where
  pub header : IsReadableHeader unit.header
  pub lines : AllByRecursion IsFittingLine unit.lines

-- units whose deck is written without a refusal, and passes no limit of decks
pub record FitsDeck (units : List Routine) : Type 0 where
  pub each : AllByRecursion IsFittingUnit units
  pub printable : AllByRecursion IsPrintableUnit units
  pub texts : fault_of_deck units ≡ None
  pub some : 0 < length units
  pub few : length units ≤ 600
  pub statements : statements_of (map written_unit units) ≤ 2000000
  pub bytes : length (deck_of units) ≤ 134217728
