-- The rules on names and calls in the order in which they are asked.
use Rattle.std.specs.Prelude.{◌<◌, ℕ}
use Rattle.ground.specs.declared.fault.Fault.{Fault}
use Rattle.ground.specs.declared.fault.FaultKind.{FaultKind}
use Rattle.ground.specs.declared.fault.FaultKind.TheVariants.{CommonMismatch}
use Rattle.ground.specs.declared.fault.Refusal.{Refusal}
use Rattle.ground.specs.declared.fault.Refusal.TheVariants as refusals
use Rattle.f66_program.specs.Linking.{Program, rank, IsFirstFault}
use Rattle.linker.specs.Rules.{IsKept}

-- no part breaks one of the rules with smaller ranks
abbrev pub AreKeptBelow : ℕ → Program → Type 0
AreKeptBelow n p = (k : FaultKind) → rank k < n → IsKept k p

-- no part breaks a rule that is asked before those on storage
abbrev pub AreCallsKept : Program → Type 0
AreCallsKept p = AreKeptBelow (rank CommonMismatch) p

-- the first fault of the program, by a rule that is asked before those on storage
pub record IsCallFault (p : Program) (f : Fault) : Type 0 where
  pub first : IsFirstFault p f
  pub on_calls : rank f.kind < rank CommonMismatch

-- a refusal tells that fault; want of memory may come at any time
abbrev pub IsCallRefusal : Program → Refusal → Type 0
IsCallRefusal p (refusals.Fault f) = IsCallFault p f
IsCallRefusal p refusals.Memory = Unit {0}
