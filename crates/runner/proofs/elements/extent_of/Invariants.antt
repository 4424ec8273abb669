-- What holds at each dimension.
use Rattle.std.proofs.Common.{◌≡◌, ◌+◌, ◌-◌, ◌^◌, ◌≤◌}
use Rattle.runner.specs.Reaching.{product}
use Rattle.runner.proofs.elements.extent_of.Given as goal

abbrev pub invariant-loop-index : goal.invariant-loop-index
invariant-loop-index l = record {
  small : l.far ≤ 2 ^ 31;
  same : product l.far l.stack (l.from + l.index) (l.count - l.index) ≡ product 1 l.stack l.from l.count;
}
