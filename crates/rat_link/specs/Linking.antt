-- The first fault of a Ratfor program that its grammar accepts: of its units one by one, then of their storage, then of linking.
use Rattle.std.specs.Prelude.{◌≡◌, ◌<◌, ◌⊎◌, ℕ, Bool, true, false, List, Some, None, ⊤}
use Rattle.std.specs.List.{All, slice_get}
use Rattle.ground.specs.declared.fault.Fault.{Fault}
use Rattle.ground.specs.declared.fault.FaultKind.{FaultKind}
use Rattle.ground.specs.declared.fault.FaultKind.TheVariants.{Limit}
use Rattle.ground.specs.declared.fault.Refusal.{Refusal}
use Rattle.ground.specs.declared.fault.Refusal.TheVariants.{Fault as AFault, Memory}
use Rattle.f66_tree.specs.Syntax.{Routine}
use Rattle.f66_program.specs.Association.{IsBadUnit}
use Rattle.f66_program.specs.Linking.{Program, first_of, place_of_part, IsFirstFault, IsWhole}
use Rattle.storage_assoc.specs.Associating.{IsBadFault}
use Rattle.program_storage.specs.Limits.{HaveAtMost, IsFirstLarge}
use Rattle.rat_tree.specs.Syntax.{RatRoutine, RatProgram}
use Rattle.rat_check.specs.FirstFault.{unit_fault}
use Rattle.rat_said.specs.Said.{said_routine, said_program}

-- ---- one unit ----

-- a unit without a fault of its own: by the rules of its statements, and then by its association
pub record IsClean (u : RatRoutine) : Type 0 where
  pub rules : unit_fault u ≡ None
  pub well : ¬ IsBadUnit (said_routine u)

-- BadEquivalence comes behind all other faults of its unit
abbrev pub IsUnitFault : RatRoutine → Fault → Type 0
IsUnitFault u f = (unit_fault u ≡ Some f) ⊎ ((unit_fault u ≡ None) × IsBadFault (said_routine u) f)

-- the fault of the first unit that has one
pub record IsFirstUnitFault (us : List RatRoutine) (f : Fault) : Type 0 where
  pub number : ℕ
  pub unit : RatRoutine
  pub here : slice_get us number ≡ Some unit
  pub fault : IsUnitFault unit f
  pub earlier : (v : ℕ) (u : RatRoutine) → v < number → slice_get us v ≡ Some u → IsClean u

-- ---- all units ----

-- the storage units of a text
abbrev pub most_of_text : ℕ
most_of_text = 1000000

-- the limit stands at the first statement of the unit with which a program passes it
pub record IsTextLimit (p : Program) (f : Fault) : Type 0 where
  pub kind : f.kind ≡ Limit
  pub number : f.number ≡ 8
  pub unit : ℕ
  pub routine : Routine
  pub first : IsFirstLarge most_of_text p.units unit
  pub here : slice_get p.units unit ≡ Some routine
  pub place : place_of_part routine (first_of routine) ≡ Some f.place

-- behind it the rules of linking are asked in their order
abbrev pub IsLinkFault : Program → Fault → Type 0
IsLinkFault p f = IsTextLimit p f ⊎ (HaveAtMost most_of_text p.units × IsFirstFault p f)

-- units that link: no rule of linking is broken, and there are not too many storage units
pub record IsLinked (p : Program) : Type 0 where
  pub few : HaveAtMost most_of_text p.units
  pub whole : IsWhole p

-- ---- a program ----

abbrev pub AreClean : List RatRoutine → Type 0
AreClean us = All IsClean us

abbrev pub IsFirstFaultOf : RatProgram → Fault → Type 0
IsFirstFaultOf p f = IsFirstUnitFault p.routines f ⊎ (AreClean p.routines × IsLinkFault (said_program p) f)

-- a program without a fault
pub record IsAccepted (p : RatProgram) : Type 0 where
  pub units : AreClean p.routines
  pub linked : IsLinked (said_program p)

-- a refusal tells the fault; want of memory may come at any time
abbrev pub IsRefusalBy : (Fault → Type 0) → Refusal → Type 0
IsRefusalBy Is (AFault f) = Is f
IsRefusalBy Is Memory = ⊤

-- a refusal for the limit
abbrev pub is_limit_kind : FaultKind → Bool
is_limit_kind Limit = true
is_limit_kind _ = false

abbrev pub is_limit_refusal : Refusal → Bool
is_limit_refusal (AFault f) = is_limit_kind f.kind
is_limit_refusal Memory = false
