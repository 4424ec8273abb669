-- Those that were looked at are targets.
use Rattle.std.proofs.Common.{◌≡◌, drop}
use Rattle.stack_code.specs.Views.{code_of}
use Rattle.stack_code.specs.ValidCode.{are_targets}
use Rattle.stack_code.proofs.ranges.are_targets.Given as goal

abbrev pub invariant-loop-to : goal.invariant-loop-to
invariant-loop-to l = are_targets (code_of l.ops) l.pc l.targets ≡ are_targets (code_of l.ops) l.pc (drop l.to-index l.targets)
