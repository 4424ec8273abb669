-- Those that were looked at are ranges.
use Rattle.std.proofs.Common.{◌≡◌, ◌<◌, ℕ, slice_get, Some, true}
use Rattle.stack_code.specs.Instructions.{Instruction}
use Rattle.stack_code.specs.Views.{code_of}
use Rattle.stack_code.specs.ValidCode.{is_in_range}
use Rattle.stack_code.proofs.ranges.all_in_range.Given as goal

abbrev pub invariant-loop-pc : goal.invariant-loop-pc
invariant-loop-pc l = (at : ℕ) (i : Instruction) → at < l.pc → slice_get (code_of l.ops) at ≡ Some i → is_in_range (code_of l.ops) l.plans l.units at i ≡ true
