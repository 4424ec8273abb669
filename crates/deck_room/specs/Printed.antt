-- The units that a text becomes, and what their printed deck passes.
use Rattle.std.specs.Prelude.{◌≡◌, ◌<◌, ◌≤◌, ◌+◌, ◌*◌, ℕ, List, [], ◌∷◌, length, map, None}
use Rattle.std.specs.List.{AllByRecursion}
use Rattle.ground.specs.declared.place.Place.{Place}
use Rattle.ground.specs.declared.token.Token.{Token}
use Rattle.grammar.specs.Limits.{IsAccepted}
use Rattle.f66_tree.specs.declared.unit.Unit.{Unit as AUnit}
use Rattle.f66_tree.specs.Syntax.{Text, Routine}
use Rattle.f66_tree.specs.Views.{routine_of}
use Rattle.f66_check.specs.Answers.{IsSoundUnit}
use Rattle.rat_tree.specs.Syntax.{RatRoutine, RatProgram}
use Rattle.rat_parse_table.specs.Limits.{meter}
use Rattle.rat_parse_values.specs.Values.{program}
use Rattle.rat_parse.specs.Ratfor.{grammar}
use Rattle.rat_lower.specs.Code.{unit_code}
use Rattle.rat_lower.specs.Served.{AllServe}
use Rattle.deck.specs.Decks.{deck_of}
use Rattle.deck.specs.LongTexts.{fault_of_deck}
use Rattle.deck.specs.Written.{statements_of, written_unit}
use Rattle.deck_laws.specs.Whole.{IsSoundDeck}

-- the unit of FORTRAN, by its labels that are made, its spare name, and the place of the text's end
abbrev pub printed : (ℕ → ℕ) → Text → Place → RatRoutine → Routine
printed made spare last u = record { header = u.header; lines = unit_code made spare u.header u.place last u.body; place = u.place }

-- so of each unit of a text, with labels and a spare name of its own
abbrev pub ArePrinted : Place → List RatRoutine → List Routine → Type 0
ArePrinted last [] [] = Unit {0}
ArePrinted last (u ∷ us) (unit ∷ units) = ((made : ℕ → ℕ) × (spare : Text) × (unit ≡ printed made spare last u)) × ArePrinted last us units
ArePrinted last us units = ⊥

-- they have at most four statements for each token of the text, and three more each, a header among them
abbrev pub PrintedAreFew : Type 0
PrintedAreFew = (ts : List Token) (tree : RatProgram) (last : Place) (units : List Routine) → IsAccepted grammar meter ts (program tree) → ArePrinted last tree.routines units
    → statements_of (map written_unit units) ≤ 4 * length ts + 3 * length units

-- what is asked of units to be printed: there are some, each is sound, and no text is too long
pub record MayBePrinted (units : List Routine) : Type 0 where
  pub some : 0 < length units
  pub each : AllByRecursion IsSoundUnit units
  pub texts : fault_of_deck units ≡ None

-- the deck of such units has at most 500 bytes for each token of the text, and 1,070 for each unit
abbrev pub PrintedAreShort : Type 0
PrintedAreShort = (ts : List Token) (tree : RatProgram) (last : Place) (units : List Routine) → IsAccepted grammar meter ts (program tree) → ArePrinted last tree.routines units
    → MayBePrinted units → length (deck_of units) ≤ 500 * length ts + 1070 * length units

-- So it passes no limit of a deck, where the text has no more than 200,000 tokens.
abbrev pub PrintedPassesNoLimit : Type 0
PrintedPassesNoLimit = (ts : List Token) (tree : RatProgram) (last : Place) (units : List Routine) → IsAccepted grammar meter ts (program tree) → ArePrinted last tree.routines units
    → length ts ≤ 200000 → MayBePrinted units → IsSoundDeck units

-- of a text of one unit it does so whatever its tokens are
abbrev pub OnePassesNoLimit : Type 0
OnePassesNoLimit = (ts : List Token) (tree : RatProgram) (last : Place) (unit : Routine) → IsAccepted grammar meter ts (program tree) → ArePrinted last tree.routines (unit ∷ [])
    → MayBePrinted (unit ∷ []) → IsSoundDeck (unit ∷ [])

-- the units in memory that serve for those of a text may be printed, and their deck passes no limit
abbrev pub ServingPassNoLimit : Type 0
ServingPassNoLimit = (ts : List Token) (tree : RatProgram) (made : List AUnit) → IsAccepted grammar meter ts (program tree) → length ts ≤ 200000 → 0 < length made
    → AllServe tree.routines tree.finish made → IsSoundDeck (map routine_of made)
