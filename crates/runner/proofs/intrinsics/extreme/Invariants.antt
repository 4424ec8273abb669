-- The best of the values up to here.
use Rattle.std.proofs.Common.{◌≡◌, ◌+◌, ◌-◌}
use Rattle.runner.specs.Arguments.{extreme}
use Rattle.runner.proofs.intrinsics.extreme.Given as goal

abbrev pub invariant-loop-index : goal.invariant-loop-index
invariant-loop-index l = extreme l.greatest l.best.value l.stack (l.at + l.index) (l.count - l.index) ≡ extreme l.greatest l.fn.first.value l.stack l.at l.count
