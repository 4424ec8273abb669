-- There are as many zeros as turns.
use Rattle.std.proofs.Common.{◌≡◌, length}
use Rattle.call_cycles.proofs.cycles.zeros.Given as goal

abbrev pub invariant-loop-node : goal.invariant-loop-node
invariant-loop-node l = length l.ranks.items ≡ l._node
