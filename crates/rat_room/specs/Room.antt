-- The parser's limits leave each unit room for its labels and names, and bound the statements that it becomes, and the units.
use Rattle.std.specs.Prelude.{ℕ, ◌≤◌, List, length}
use Rattle.std.specs.List.{All}
use Rattle.ground.specs.declared.place.Place.{Place}
use Rattle.ground.specs.declared.token.Token.{Token}
use Rattle.grammar.specs.Limits.{IsAccepted}
use Rattle.f66_tree.specs.Syntax.{Text}
use Rattle.rat_tree.specs.Syntax.{RatRoutine, RatProgram}
use Rattle.rat_parse_table.specs.Limits.{meter}
use Rattle.rat_parse_values.specs.Values.{program}
use Rattle.rat_parse.specs.Ratfor.{grammar}
use Rattle.rat_lower.specs.Code.{unit_code}
use Rattle.rat_lower.specs.Lowered.{AllHaveRoom}

-- each unit of a program that is accepted has room
abbrev pub ParsedHasRoom : Type 0
ParsedHasRoom = (ts : List Token) → (tree : RatProgram) → IsAccepted grammar meter ts (program tree) → AllHaveRoom tree.routines

-- a unit becomes at most four statements for each of 20,000 tokens and two more, whatever its labels and its spare name are
abbrev pub IsFew : RatRoutine → Type 0
IsFew u = (made : ℕ → ℕ) (spare : Text) (last : Place) → length (unit_code made spare u.header u.place last u.body) ≤ 80002

-- so does each unit of a program that is accepted
abbrev pub ParsedIsFew : Type 0
ParsedIsFew = (ts : List Token) → (tree : RatProgram) → IsAccepted grammar meter ts (program tree) → All IsFew tree.routines

-- a program that is accepted has at most 500 units
abbrev pub ParsedHasFewUnits : Type 0
ParsedHasFewUnits = (ts : List Token) → (tree : RatProgram) → IsAccepted grammar meter ts (program tree) → length tree.routines ≤ 500
