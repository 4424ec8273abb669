-- Units with a good association, and the first unit without.
use Rattle.std.specs.Prelude.{◌≡◌, ◌<◌, ◌≤◌, ◌⊎◌, ℕ, List, [], ◌∷◌, Some, ⊤}
use Rattle.std.specs.List.{slice_get}
use Rattle.ground.specs.declared.fault.Fault.{Fault}
use Rattle.ground.specs.declared.fault.Refusal.{Refusal}
use Rattle.ground.specs.declared.fault.Refusal.TheVariants as refusals
use Rattle.f66_tree.specs.Syntax.{Routine}
use Rattle.f66_program.specs.Association.{IsBadUnit, HasUnits}
use Rattle.storage_assoc.specs.Associating.{most_units, IsBadFault, IsLimitFault}

-- the association is good, and there are not too many storage units
pub record IsFit (r : Routine) : Type 0 where
  pub well : ¬ IsBadUnit r
  pub total : ℕ
  pub has : HasUnits (r ∷ []) total
  pub few : total ≤ most_units

-- the fault of the first unit that is not so
pub record IsFirstUnfit (rs : List Routine) (f : Fault) : Type 0 where
  pub number : ℕ
  pub unit : Routine
  pub here : slice_get rs number ≡ Some unit
  pub fault : IsBadFault unit f ⊎ IsLimitFault unit f
  pub earlier : (v : ℕ) (r : Routine) → v < number → slice_get rs v ≡ Some r → IsFit r

-- a refusal tells that fault; want of memory may come at any time
abbrev pub IsUnfitRefusal : List Routine → Refusal → Type 0
IsUnfitRefusal rs (refusals.Fault f) = IsFirstUnfit rs f
IsUnfitRefusal rs refusals.Memory = ⊤
