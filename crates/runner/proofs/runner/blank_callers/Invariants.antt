-- So many callers.
use Rattle.std.proofs.Common.{◌≡◌, length}
use Rattle.runner.proofs.runner.blank_callers.Given as goal

abbrev pub invariant-loop-made : goal.invariant-loop-made
invariant-loop-made l = length l.callers.items ≡ l.made
