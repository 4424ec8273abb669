-- There are as many numbers as nodes.
use Rattle.std.proofs.Common.{◌≡◌, length}
use Rattle.call_cycles.proofs.cycles.ranks_of.Given as goal

abbrev pub invariant-loop-pass : goal.invariant-loop-pass
invariant-loop-pass l = length l.ranks.items ≡ l.nodes
