-- The mains among the first units of a program.
use Rattle.std.specs.Prelude.{◌≡◌, ◌<◌, ℕ, true, List, Some}
use Rattle.std.specs.List.{slice_get}
use Rattle.f66_tree.specs.Syntax.{Routine}
use Rattle.f66_tree.specs.Units.{is_main}

abbrev pub IsMainAt : List Routine → ℕ → Type 0
IsMainAt rs u = (r : Routine) × (slice_get rs u ≡ Some r) × (is_main r.header ≡ true)

-- one of the first so many units is a main
abbrev pub HasOneMain : List Routine → ℕ → Type 0
HasOneMain rs n = (u : ℕ) × (u < n) × IsMainAt rs u × ((v : ℕ) → v < n → IsMainAt rs v → v ≡ u)

-- none of them is
abbrev pub HasNoMain : List Routine → ℕ → Type 0
HasNoMain rs n = (v : ℕ) → v < n → ¬ IsMainAt rs v
