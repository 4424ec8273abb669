-- The first fault of units one by one: of the rules of their statements, then of their storage.
use Rattle.std.specs.Prelude.{◌≡◌, ◌<◌, ◌⊎◌, ℕ, List, Some, ⊤}
use Rattle.std.specs.List.{slice_get}
use Rattle.ground.specs.declared.fault.Fault.{Fault}
use Rattle.ground.specs.declared.fault.Refusal.{Refusal}
use Rattle.ground.specs.declared.fault.Refusal.TheVariants as refusals
use Rattle.f66_tree.specs.Syntax.{Routine}
use Rattle.f66_flow.specs.declared.scope.Scope.TheVariants.{Whole}
use Rattle.f66_check.specs.Answers.{IsFirstFault, IsSoundUnit}
use Rattle.storage_assoc.specs.Associating.{IsBadFault, IsLimitFault}
use Rattle.associated_units.specs.Fit.{IsFit}

-- a unit without a fault of its own: it breaks no rule, its association is good, and it alone has not too many storage units
pub record IsClean (r : Routine) : Type 0 where
  pub sound : IsSoundUnit r
  pub fit : IsFit r

-- the first rule that a unit breaks, where it is not sound
pub record IsRuleFault (r : Routine) (f : Fault) : Type 0 where
  pub unsound : ¬ IsSoundUnit r
  pub part : ℕ
  pub first : IsFirstFault Whole r part f

-- BadEquivalence comes behind all other faults of its unit, and Limit behind that
abbrev pub IsUnitFault : Routine → Fault → Type 0
IsUnitFault r f = IsRuleFault r f ⊎ (IsSoundUnit r × (IsBadFault r f ⊎ IsLimitFault r f))

-- the fault of the first unit that has one
pub record IsFirstUnitFault (rs : List Routine) (f : Fault) : Type 0 where
  pub number : ℕ
  pub unit : Routine
  pub here : slice_get rs number ≡ Some unit
  pub fault : IsUnitFault unit f
  pub earlier : (v : ℕ) (r : Routine) → v < number → slice_get rs v ≡ Some r → IsClean r

-- a refusal tells the fault; want of memory may come at any time
abbrev pub IsRefusedUnit : Routine → Refusal → Type 0
IsRefusedUnit r (refusals.Fault f) = IsUnitFault r f
IsRefusedUnit r refusals.Memory = ⊤

abbrev pub AreRefusedUnits : List Routine → Refusal → Type 0
AreRefusedUnits rs (refusals.Fault f) = IsFirstUnitFault rs f
AreRefusedUnits rs refusals.Memory = ⊤
