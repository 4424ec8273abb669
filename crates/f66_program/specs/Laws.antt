-- What holds of storage association whatever the units are (X3.9-1966, section 10.2.1).
use Rattle.std.specs.Prelude.{◌≡◌, ℕ, List}
use Rattle.std.specs.List.{All}
use Rattle.f66_tree.specs.Syntax.{Routine}
use Rattle.f66_program.specs.Association.{AreBad, IsBadUnit, HasUnits, ties_of}

-- units of which none is bad are not bad together
abbrev pub WellTogether : Type 0
WellTogether = (rs : List Routine) → All (λ r. ¬ IsBadUnit r) rs → ¬ AreBad (ties_of rs)

-- the storage units of a program are counted in one way
abbrev pub OneCount : Type 0
OneCount = (rs : List Routine) (m n : ℕ) → HasUnits rs m → HasUnits rs n → m ≡ n
