-- What valid code needs for its runs.
use Rattle.std.specs.Prelude.{◌≡◌, ℕ, ◌<◌, ◌≤◌, true, List, length, Some, slice_get}
use Rattle.f66_tree.specs.Fields.{Fields}
use Rattle.stack_code.specs.declared.fact.Fact.{Fact}
use Rattle.stack_code.specs.declared.op.Op.{Op}
use Rattle.stack_code.specs.Instructions.{Instruction}
use Rattle.stack_code.specs.Views.{code_of}
use Rattle.stack_code.specs.ValidCode.{is_begin, is_in_range, IsReached, IsValid}
use Rattle.stack_code.specs.Ahead.{HasMainDepth}
use Rattle.stack_code.specs.Facts.{Facts, Known}

-- the operands of all instructions are in their ranges
pub record AllInRange (code : List Instruction) (plans units : ℕ) : Type 0 where
  pub begins : is_begin (slice_get code 0) ≡ true
  pub all : (pc : ℕ) (i : Instruction) → slice_get code pc ≡ Some i → is_in_range code plans units pc i ≡ true

abbrev pub IsInvalidFor : List Instruction → ℕ → ℕ → Type 0
IsInvalidFor code plans units = IsValid code plans units → ⊥

-- the first n facts are of stacks and dummies within these numbers
abbrev pub AreWithin : Facts → ℕ → ℕ → ℕ → Type 0
AreWithin facts n top wide = (at : ℕ) (f : Fact) → at < n → Known facts at f → (length f.shape ≤ top) × (f.count ≤ wide)

-- the greatest stack that an entry has of its own, the most dummies of a frame, and how deep calls go
pub record HasBounds (code : List Instruction) (top wide deep : ℕ) : Type 0 where
  pub stack : (entry k pc : ℕ) (f : Fact) → IsReached code entry k pc f → length f.shape ≤ top
  pub dummies : (entry k pc : ℕ) (f : Fact) → IsReached code entry k pc f → f.count ≤ wide
  pub depth : HasMainDepth code deep

pub record IsChecked (code : List Instruction) (plans units top wide deep : ℕ) : Type 0 where
  pub valid : IsValid code plans units
  pub bounds : HasBounds code top wide deep

-- the code is the one that was given, with its plans and units; it is valid, and these are its bounds
pub record IsVerified (ops : List Op) (plans : List Fields) (units : ℕ) (kept : List Op) (kept_plans : List Fields) (kept_units top wide deep : ℕ) : Type 0 where
  pub same : kept ≡ ops
  pub same_plans : kept_plans ≡ plans
  pub same_units : kept_units ≡ units
  pub checked : IsChecked (code_of ops) (length plans) units top wide deep
