-- How many storage units the first units of a program have.
use Rattle.std.specs.Prelude.{◌<◌, ◌≤◌, ℕ, suc, List, length, take}
use Rattle.f66_tree.specs.Syntax.{Routine}
use Rattle.f66_program.specs.Association.{HasUnits}

-- units have at most so many
abbrev pub HaveAtMost : ℕ → List Routine → Type 0
HaveAtMost most rs = (total : ℕ) × HasUnits rs total × (total ≤ most)

-- the units up to this one have more
abbrev pub IsLargeAt : ℕ → List Routine → ℕ → Type 0
IsLargeAt most rs u = (total : ℕ) × HasUnits (take (suc u) rs) total × (most < total)

-- they have not
abbrev pub IsSmallAt : ℕ → List Routine → ℕ → Type 0
IsSmallAt most rs u = HaveAtMost most (take (suc u) rs)

-- the first unit up to which there are more
pub record IsFirstLarge (most : ℕ) (rs : List Routine) (u : ℕ) : Type 0 where
  pub inside : u < length rs
  pub large : IsLargeAt most rs u
  pub earlier : (i : ℕ) → i < u → ¬ IsLargeAt most rs i
