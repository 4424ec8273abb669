-- What the checks of a unit answer: that nothing is at fault, or the first fault.
use Rattle.std.specs.Prelude.{◌≡◌, ℕ, zero, suc, Option, Some, option_map, ⊤}
use Rattle.std.specs.List.{slice_get}
use Rattle.rule_table.specs.FaultRules.{rule_number}
use Rattle.ground.specs.declared.place.Place.{Place}
use Rattle.rule_table.specs.declared.rule.Rule.{Rule}
use Rattle.ground.specs.declared.fault.Fault.{Fault}
use Rattle.ground.specs.declared.fault.Refusal.{Refusal}
use Rattle.ground.specs.declared.fault.Refusal.TheVariants.{Fault as AFault, Memory}
use Rattle.rule_table.specs.First.{IsFirst, IsClean}
use Rattle.rule_table.specs.FaultRules.{fault_of}
use Rattle.f66_tree.specs.Syntax.{Routine}
use Rattle.f66_flow.specs.declared.scope.Scope.{Scope}
use Rattle.f66_flow.specs.declared.scope.Scope.TheVariants.{Whole}
use Rattle.f66_check.specs.UnitChecks.{breaks_unit}

-- the place of a unit's header, or of a statement
abbrev pub place_at : Routine → ℕ → Option Place
place_at u zero = Some u.place
place_at u (suc i) = option_map (λ s. s.place) (slice_get u.lines i)

-- no part of the unit breaks a rule
pub record IsFaultless (w : Scope) (u : Routine) : Type 0 where
  pub clean : IsClean (breaks_unit w u)

-- a sound unit of any kind
abbrev pub IsSoundUnit : Routine → Type 0
IsSoundUnit u = IsFaultless Whole u

-- f is the first fault, and stands at the part with the number n
pub record IsFirstFault (w : Scope) (u : Routine) (n : ℕ) (f : Fault) : Type 0 where
  pub first : (r : Rule) × IsFirst rule_number (breaks_unit w u) n r × (f ≡ fault_of f.place r)
  pub place : place_at u n ≡ Some f.place

-- a refusal by a fault is by the first one, of a unit that is not sound
abbrev pub IsRightRefusal : Routine → Refusal → Type 0
IsRightRefusal u (AFault f) = ((n : ℕ) × IsFirstFault Whole u n f) × ¬ IsSoundUnit u
IsRightRefusal u Memory = ⊤
