-- What holds at each subscript.
use Rattle.std.proofs.Common.{◌≡◌, ◌+◌, ◌-◌}
use Rattle.runner.specs.Reaching.{IsCapped, reaches, at_first}
use Rattle.runner.proofs.elements.far_of.Given as goal

abbrev pub invariant-loop-index : goal.invariant-loop-index
invariant-loop-index l = record {
  capped : IsCapped l.reach;
  same : reaches l.reach l.stack (l.subscripts + l.index) (l.sizes + l.index) (l.count - l.index) ≡ reaches at_first l.stack l.subscripts l.sizes l.count;
}
