-- What a search for what lies ahead of instructions keeps: it is no more than there is, and grows.
use Rattle.std.specs.Prelude.{◌≡◌, ℕ, ◌+◌, ◌-◌, ◌<◌, ◌≤◌, nat_le, Bool, true, false, not, ◌&&◌, ◌||◌, List, [], ◌∷◌, length, Some, slice_get, slice_set, get_or, if◌then◌else◌}
use Rattle.stack_code.specs.declared.fact.Fact.{Fact}
use Rattle.stack_code.specs.declared.ahead.Ahead.{Ahead}
use Rattle.stack_code.specs.declared.ahead.Raised.{Raised}
use Rattle.stack_code.specs.declared.ahead.Raised.TheVariants.{Settled, Higher, Wrong}
use Rattle.stack_code.specs.Instructions.{Instruction, Call, Return}
use Rattle.stack_code.specs.ValidCode.{ways, IsIn, IsReached, HasDepths}
use Rattle.stack_code.specs.Facts.{Facts, Known, IsInvalid}

abbrev pub nothing : Ahead
nothing = record { depth = 0; returns = false }

abbrev pub ahead_in : List Ahead → ℕ → Ahead
ahead_in found pc = get_or found pc nothing

abbrev pub joined : Ahead → Ahead → Ahead
joined a b = record { depth = if nat_le a.depth b.depth then b.depth else a.depth; returns = a.returns || b.returns }

abbrev pub covers : Ahead → Ahead → Bool
covers a b = nat_le b.depth a.depth && (a.returns || not b.returns)

-- what an instruction adds by itself
abbrev pub own : Instruction → List Ahead → Ahead
own (Call to n) found = record { depth = (ahead_in found to).depth + 1; returns = false }
own Return found = record { depth = 0; returns = true }
own _ found = nothing

abbrev pub join_all : Ahead → List ℕ → List Ahead → Ahead
join_all a [] found = a
join_all a (to ∷ rest) found = join_all (joined a (ahead_in found to)) rest found

-- all to which an instruction leads, and what it calls, is in a code of this length
pub record AreTargets (i : Instruction) (pc long : ℕ) : Type 0 where
  pub ways : (to : ℕ) → IsIn to (ways i pc) → to < long
  pub calls : (to n : ℕ) → i ≡ Call to n → to < long

-- a way from this entry leads to a Return
pub record ComesBack (code : List Instruction) (entry : ℕ) : Type 0 where
  pub steps : ℕ
  pub at : ℕ
  pub fact : Fact
  pub reached : IsReached code entry steps at fact
  pub stands : slice_get code at ≡ Some Return

-- what is found ahead of an instruction is there, seen from each entry whose ways lead here
pub record HoldsAt (code : List Instruction) (pc : ℕ) (a : Ahead) : Type 0 where
  pub depth : (depth : ℕ → ℕ) → HasDepths code depth → (entry k : ℕ) (f : Fact) → IsReached code entry k pc f → a.depth ≤ depth entry
  pub returns : a.returns ≡ true → (entry k : ℕ) (f : Fact) → IsReached code entry k pc f → ComesBack code entry

pub record AllHold (code : List Instruction) (found : List Ahead) : Type 0 where
  pub long : length found ≡ length code
  pub holds : (pc : ℕ) → HoldsAt code pc (ahead_in found pc)
  pub small : (pc : ℕ) → (ahead_in found pc).depth ≤ length code

pub record Covers (a b : Ahead) : Type 0 where
  pub depth : b.depth ≤ a.depth
  pub returns : b.returns ≡ true → a.returns ≡ true

-- all that lies ahead of an instruction to which a way leads is known
pub record IsSeen (code : List Instruction) (facts : Facts) (found : List Ahead) (at : ℕ) : Type 0 where
  pub by : (f : Fact) (i : Instruction) → Known facts at f → slice_get code at ≡ Some i → Covers (ahead_in found at) (join_all (own i found) (ways i at) found)

abbrev pub one_unless : Bool → ℕ
one_unless true = 0
one_unless false = 1

abbrev pub weight : ℕ → Ahead → ℕ
weight most a = (most - a.depth) + one_unless a.returns

-- by how much all that is found may still grow
abbrev pub slack : ℕ → List Ahead → ℕ
slack most [] = 0
slack most (a ∷ rest) = weight most a + slack most rest

abbrev pub IsRaised : List Ahead → List Ahead → ℕ → Ahead → Raised → Type 0
IsRaised old new at a Settled = (new ≡ old) × (covers (ahead_in old at) a ≡ true)
IsRaised old new at a Higher = (new ≡ slice_set old at (joined (ahead_in old at) a)) × (covers (ahead_in old at) a ≡ false) × (a.depth ≤ length old)
IsRaised old new at a Wrong = length old < a.depth

-- more is known now, and it is there
pub record Rises (code : List Instruction) (old new : List Ahead) : Type 0 where
  pub holds : AllHold code new
  pub less : slack (length code) new < slack (length code) old

abbrev pub IsLook : List Instruction → Facts → List Ahead → List Ahead → ℕ → Raised → Type 0
IsLook code facts old new at Settled = (new ≡ old) × IsSeen code facts old at
IsLook code facts old new at Higher = Rises code old new
IsLook code facts old new at Wrong = IsInvalid code

-- what lies ahead of the instructions from a place on is known, or more is known now
abbrev pub SeenFrom : List Instruction → Facts → List Ahead → List Ahead → ℕ → Bool → Type 0
SeenFrom code facts old new at true = slack (length code) new < slack (length code) old
SeenFrom code facts old new at false = (new ≡ old) × ((p : ℕ) → at ≤ p → p < length code → IsSeen code facts old p)

abbrev pub AllSeen : List Instruction → Facts → List Ahead → Type 0
AllSeen code facts found = (p : ℕ) → p < length code → IsSeen code facts found p

abbrev pub IsSweep : List Instruction → Facts → List Ahead → List Ahead → Raised → Type 0
IsSweep code facts old new Settled = AllHold code new × AllSeen code facts new
IsSweep code facts old new Higher = Rises code old new
IsSweep code facts old new Wrong = IsInvalid code

abbrev pub IsSwept : List Instruction → Facts → List Ahead → Bool → Type 0
IsSwept code facts new true = AllHold code new × AllSeen code facts new
IsSwept code facts new false = IsInvalid code

-- the depths of entries, of which the main's is this
pub record HasMainDepth (code : List Instruction) (deep : ℕ) : Type 0 where
  pub depth : ℕ → ℕ
  pub depths : HasDepths code depth
  pub main : depth 0 ≡ deep
