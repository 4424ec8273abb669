-- What a search for the facts of a code keeps: what it has found so far is true, and grows.
use Rattle.std.specs.Prelude.{◌≡◌, ℕ, ◌+◌, ◌<◌, ◌≤◌, Bool, true, false, List, [], ◌∷◌, length, Option, Some, None, slice_get, slice_set}
use Rattle.stack_code.specs.declared.fact.Fact.{Fact}
use Rattle.stack_code.specs.declared.facts.Met.{Met}
use Rattle.stack_code.specs.declared.facts.Met.TheVariants.{Same, New, Clash}
use Rattle.stack_code.specs.declared.facts.Spread.{Spread}
use Rattle.stack_code.specs.declared.facts.Spread.TheVariants.{Settled, Earlier, Wrong}
use Rattle.stack_code.specs.Instructions.{Instruction, Call}
use Rattle.stack_code.specs.ValidCode.{after, ways, root, IsIn, IsReached, IsValid}

-- what is known of each instruction
abbrev pub Facts : Type 0
Facts = List (Option Fact)

abbrev pub Known : Facts → ℕ → Fact → Type 0
Known facts pc f = slice_get facts pc ≡ Some (Some f)

abbrev pub one_if_none : Option Fact → ℕ
one_if_none None = 1
one_if_none (Some f) = 0

-- how many instructions of which nothing is known
abbrev pub unknown : Facts → ℕ
unknown [] = 0
unknown (o ∷ os) = one_if_none o + unknown os

-- a way leads here, and then this holds
abbrev pub HasWay : List Instruction → ℕ → Fact → Type 0
HasWay code pc f = (entry : ℕ) × (k : ℕ) × IsReached code entry k pc f

-- what is known holds: a way leads there
pub record AllReached (code : List Instruction) (facts : Facts) : Type 0 where
  pub by : (pc : ℕ) (f : Fact) → Known facts pc f → HasWay code pc f

pub record Grows (old new : Facts) : Type 0 where
  pub long : length new ≡ length old
  pub keeps : (pc : ℕ) (f : Fact) → Known old pc f → Known new pc f
  pub fewer : unknown new ≤ unknown old

-- the instruction is there, finds what it needs, and all to which it leads is known
pub record Settles (code : List Instruction) (facts : Facts) (pc : ℕ) (f : Fact) : Type 0 where
  pub instruction : Instruction
  pub stands : slice_get code pc ≡ Some instruction
  pub behind : Fact
  pub gives : after instruction f ≡ Some behind
  pub there : (to : ℕ) → IsIn to (ways instruction pc) → Known facts to behind

pub record IsSettled (code : List Instruction) (facts : Facts) (pc : ℕ) : Type 0 where
  pub by : (f : Fact) → Known facts pc f → Settles code facts pc f

abbrev pub IsInvalid : List Instruction → Type 0
IsInvalid code = (plans units : ℕ) → IsValid code plans units → ⊥

-- one fact meets what was known
pub record Learns (old new : Facts) (pc : ℕ) (f : Fact) : Type 0 where
  pub unknown : slice_get old pc ≡ Some None
  pub is : new ≡ slice_set old pc (Some f)

pub record Clashes (old : Facts) (pc : ℕ) (f : Fact) : Type 0 where
  pub other : Fact
  pub known : Known old pc other
  pub differs : f ≡ other → ⊥

abbrev pub Meets : Met → Facts → Facts → ℕ → Fact → Type 0
Meets Same old new pc f = (new ≡ old) × Known old pc f
Meets New old new pc f = Learns old new pc f
Meets Clash old new pc f = (new ≡ old) × Clashes old pc f

-- one of those to which an instruction leads is known now
pub record Tells (code : List Instruction) (old new : Facts) (to : ℕ) (f : Fact) : Type 0 where
  pub grows : Grows old new
  pub reached : AllReached code new
  pub known : Known new to f

abbrev pub SameUpTo : ℕ → Facts → Facts → Type 0
SameUpTo pc old new = (at : ℕ) → at ≤ pc → slice_get new at ≡ slice_get old at

abbrev pub IsTold : List Instruction → Facts → Facts → ℕ → ℕ → Fact → Spread → Type 0
IsTold code old new pc to f Settled = Tells code old new to f × SameUpTo pc old new
IsTold code old new pc to f Earlier = Tells code old new to f × (unknown new < unknown old)
IsTold code old new pc to f Wrong = IsInvalid code

-- the first n of those to which an instruction leads are known now
pub record Telling (code : List Instruction) (old new : Facts) (ways : List ℕ) (n : ℕ) (f : Fact) : Type 0 where
  pub grows : Grows old new
  pub reached : AllReached code new
  pub known : (index to : ℕ) → index < n → slice_get ways index ≡ Some to → Known new to f

abbrev pub Changed : ℕ → Facts → Facts → Bool → Type 0
Changed pc old new true = unknown new < unknown old
Changed pc old new false = SameUpTo pc old new

abbrev pub IsToldAll : List Instruction → Facts → Facts → ℕ → List ℕ → Fact → Spread → Type 0
IsToldAll code old new pc ways f Settled = Telling code old new ways (length ways) f × SameUpTo pc old new
IsToldAll code old new pc ways f Earlier = Telling code old new ways (length ways) f × (unknown new < unknown old)
IsToldAll code old new pc ways f Wrong = IsInvalid code

-- an instruction was looked at: all to which it leads is known, and nothing of it or of an earlier one was new, or something was
pub record Spreads (code : List Instruction) (old new : Facts) (pc : ℕ) : Type 0 where
  pub grows : Grows old new
  pub reached : AllReached code new
  pub settled : IsSettled code new pc

abbrev pub IsSpread : List Instruction → Facts → Facts → ℕ → Spread → Type 0
IsSpread code old new pc Settled = Spreads code old new pc × SameUpTo pc old new
IsSpread code old new pc Earlier = Spreads code old new pc × (unknown new < unknown old)
IsSpread code old new pc Wrong = IsInvalid code

-- all were looked at once
pub record Passes (code : List Instruction) (old new : Facts) : Type 0 where
  pub grows : Grows old new
  pub reached : AllReached code new

-- those before an instruction are settled, or something was new that is earlier
abbrev pub Progress : List Instruction → Facts → Facts → ℕ → Bool → Type 0
Progress code old new pc true = unknown new < unknown old
Progress code old new pc false = (at : ℕ) → at < pc → IsSettled code new at

abbrev pub AllSettled : List Instruction → Facts → Type 0
AllSettled code facts = (pc : ℕ) → pc < length facts → IsSettled code facts pc

abbrev pub IsPass : List Instruction → Facts → Facts → Spread → Type 0
IsPass code old new Settled = Passes code old new × AllSettled code new
IsPass code old new Earlier = Passes code old new × (unknown new < unknown old)
IsPass code old new Wrong = IsInvalid code

-- nothing is left to look at, or the code is not valid
abbrev pub IsClosed : List Instruction → Facts → Facts → Bool → Type 0
IsClosed code old new true = Passes code old new × AllSettled code new
IsClosed code old new false = IsInvalid code

-- the entry that the instruction at a place calls is known
abbrev pub CallsKnown : List Instruction → Facts → ℕ → Type 0
CallsKnown code facts at = (to n : ℕ) → slice_get code at ≡ Some (Call to n) → Known facts to (root n)

abbrev pub IsEnteredAt : List Instruction → Facts → Facts → ℕ → Bool → Type 0
IsEnteredAt code old new at true = Passes code old new × CallsKnown code new at
IsEnteredAt code old new at false = IsInvalid code

-- what holds at each entry is known
abbrev pub AreEntered : List Instruction → Facts → Facts → Bool → Type 0
AreEntered code old new true = Passes code old new × Known new 0 (root 0) × ((at : ℕ) → at < length code → CallsKnown code new at)
AreEntered code old new false = IsInvalid code

-- all that is known, once nothing is left to look at
pub record AreAll (code : List Instruction) (facts : Facts) : Type 0 where
  pub long : length facts ≡ length code
  pub reached : AllReached code facts
  pub main : Known facts 0 (root 0)
  pub entries : (at : ℕ) → at < length code → CallsKnown code facts at
  pub settled : AllSettled code facts
