-- How many statements of FORTRAN the commands of a unit become at most.
use Rattle.std.proofs.Common.{◌≡◌, ◌≤◌, ℕ, ◌+◌, arith, List, [], ◌∷◌, length, refl}
use Rattle.ground.specs.declared.place.Place.{Place}
use Rattle.f66_tree.specs.Syntax.{Text, Header, Formulas, Act, Line}
use Rattle.rat_tree.specs.Syntax.{Command, Commands, Clauses}
use Rattle.rat_lower.specs.Code.{unit_code}
use Rattle.rat_room.proofs.Weights.{total}
use Rattle.rat_room.proofs.CodeWeights.{cases_weight, command_weight, commands_weight, clauses_weight, unit_weighs}

-- each statement is one
abbrev one : Act → ℕ
one a = 1

abbrev pub expressions : Formulas → ℕ
expressions es = cases_weight one es

abbrev pub lines_of : Command → ℕ
lines_of c = command_weight one c

abbrev pub lines_in : Commands → ℕ
lines_in ss = commands_weight one ss

-- of the case expressions of clauses, and of their statements
abbrev pub lines_among : Clauses → ℕ
lines_among cs = clauses_weight one cs

counted : (lines : List Line) → total (λ (line : Line). one line.act) lines ≡ length lines
counted [] = refl
counted (line ∷ lines) = omega (arith, counted lines)

-- the declaration of the spare name and the last statement are two more
pub unit_length : (made : ℕ → ℕ) (spare : Text) (h : Header) (first last : Place) (ss : Commands) → length (unit_code made spare h first last ss) ≤ lines_in ss + 2
unit_length made spare h first last ss =
    omega (
      arith,
      counted (unit_code made spare h first last ss),
      unit_weighs one (record { jumps = λ l. refl; guards = λ e l. refl; tests = λ x e l. refl; stores = λ x e. refl; loops = λ l x a b c. refl }) made spare h first last ss,
    )
