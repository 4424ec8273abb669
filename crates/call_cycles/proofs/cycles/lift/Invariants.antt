-- There are as many numbers as before.
use Rattle.std.proofs.Common.{◌≤◌, length}
use Rattle.call_cycles.proofs.cycles.lift.Given as goal

abbrev pub invariant-loop-left : goal.invariant-loop-left
invariant-loop-left l = l.left ≤ length l.edges

abbrev pub decreases-loop-left : goal.decreases-loop-left
decreases-loop-left l = l.left
