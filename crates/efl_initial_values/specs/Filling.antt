-- How far values have gone over the kinds of places.
use Rattle.std.specs.Prelude.{◌≡◌, ℕ, ◌-◌, true, List, [], ◌∷◌, ◌++◌, drop, Option, Some, None, max, ◌+◌}
use Rattle.ground.specs.declared.value.Kind.{Kind}
use Rattle.efl_tree.specs.declared.declaration.EflConst.{EflConst}
use Rattle.efl_scope.specs.DataTypes.{DataType, Scalar, Structured, Array, NoType, Members, NoMember, AndMember}
use Rattle.efl_types.specs.Presets.{misfit}
use Rattle.efl_initial_values.specs.declared.values.Next.{Next}
use Rattle.efl_initial_values.specs.declared.values.Progress.{Progress}

abbrev pub Values : Type 0
Values = List (ℕ × EflConst)

-- the first value has filled so many places
abbrev pub used_up : ℕ → Values → Values
used_up used [] = []
used_up used (c ∷ cs) = (c.0 - used, c.1) ∷ cs

-- the values that are left
abbrev pub left_from : Values → Next → Values
left_from cs n = used_up n.used (drop n.number cs)

-- of kinds and any that follow, one misfits where one of those that follow misfits the values that are left then
abbrev pub PassesOver : Values → Next → List Kind → Option Next → Type 0
PassesOver cs from ks None = (ls : List Kind) → misfit (ks ++ ls) (left_from cs from) ≡ true
PassesOver cs from ks (Some to) = (ls : List Kind) → misfit (ks ++ ls) (left_from cs from) ≡ misfit ls (left_from cs to)

-- the same, where first places are passed over without a value
abbrev pub Passes : Values → Progress → List Kind → Option Progress → Type 0
Passes cs from ks None = (ls : List Kind) → misfit (drop from.skip (ks ++ ls)) (left_from cs from.next) ≡ true
Passes cs from ks (Some to) = (ls : List Kind) → misfit (drop from.skip (ks ++ ls)) (left_from cs from.next) ≡ misfit (drop to.skip ls) (left_from cs to.next)

-- how deep structures stand in structures
abbrev mutual
  pub depth : DataType → ℕ
  depth (Scalar k) = 0
  depth (Structured ms) = depth_in ms + 1
  depth (Array bs t) = depth t
  depth NoType = 0

  pub depth_in : Members → ℕ
  depth_in NoMember = 0
  depth_in (AndMember x t ms) = max (depth t) (depth_in ms)
