-- Ranks of the units of a program.
use Rattle.std.specs.Prelude.{◌<◌, ℕ, List, length}
use Rattle.f66_tree.specs.Syntax.{Routine}
use Rattle.f66_program.specs.Calls.{Leads, Reaches}
use Rattle.f66_program.specs.Linking.{Program, IsWhole}

-- each unit has a rank below the number of units, and each call leads to a unit of lesser rank
abbrev pub HaveRanks : List Routine → Type 0
HaveRanks rs = (rank : ℕ → ℕ) × ((u v : ℕ) → Leads rs u v → rank v < rank u) × ((u : ℕ) → u < length rs → rank u < length rs)

-- no calls lead from a unit back to it
abbrev pub HaveNoCycle : List Routine → Type 0
HaveNoCycle rs = (u : ℕ) → ¬ Reaches rs u u

abbrev pub CallsHaveRanks : Type 0
CallsHaveRanks = (rs : List Routine) → HaveNoCycle rs → HaveRanks rs

abbrev pub WholeHasRanks : Type 0
WholeHasRanks = (p : Program) → IsWhole p → HaveRanks p.units
