-- The statements that a unit becomes: the parser's limit on nesting bounds their open parentheses, and they are whole.
use Rattle.std.specs.Prelude.{ℕ, ◌≤◌, List}
use Rattle.std.specs.List.{AllByRecursion}
use Rattle.ground.specs.declared.place.Place.{Place}
use Rattle.ground.specs.declared.token.Token.{Token}
use Rattle.grammar.specs.Limits.{IsAccepted}
use Rattle.f66_tree.specs.Syntax.{Text, Act, Line}
use Rattle.rat_tree.specs.Syntax.{RatRoutine, RatProgram}
use Rattle.rat_parse_table.specs.Limits.{meter}
use Rattle.rat_parse_values.specs.Values.{program}
use Rattle.rat_parse.specs.Ratfor.{grammar}
use Rattle.rat_lower.specs.Code.{unit_code}
use Rattle.deck_laws.specs.Nesting.{act_nesting}
use Rattle.deck_laws.specs.Whole.{IsWhole}

-- a unit all of whose statements are so, whatever its labels and its spare name are
abbrev pub AllBecome : (Act → Type 0) → RatRoutine → Type 0
AllBecome Good u = (made : ℕ → ℕ) (spare : Text) (last : Place) → AllByRecursion (λ (line : Line). Good line.act) (unit_code made spare u.header u.place last u.body)

-- so is each unit of a program that is accepted
abbrev pub ParsedBecomes : (Act → Type 0) → Type 0
ParsedBecomes Good = (ts : List Token) → (tree : RatProgram) → IsAccepted grammar meter ts (program tree) → AllByRecursion (AllBecome Good) tree.routines

-- at most two open parentheses more than the 100 that a text may have
abbrev pub IsLow : Act → Type 0
IsLow a = act_nesting a ≤ 102

abbrev pub ParsedIsShallow : Type 0
ParsedIsShallow = ParsedBecomes IsLow

abbrev pub ParsedIsWhole : Type 0
ParsedIsWhole = ParsedBecomes IsWhole
