-- No edge before lies on a cycle, and the marks are those of the nodes that come to the node.
use Rattle.std.proofs.Common.{◌≡◌, ◌<◌, ℕ, length}
use Rattle.call_cycles.specs.Cycles.{AreMarks, IsOnCycle, edge_at}
use Rattle.call_cycles.proofs.cycles.search.Given as goal

abbrev pub invariant-loop-i : goal.invariant-loop-i
invariant-loop-i l = record {
  many : length l.marks.items ≡ l.nodes;
  marks : AreMarks l.edges l.node l.marks.items;
  earlier : (j : ℕ) → j < l.i → ¬ IsOnCycle l.edges (edge_at l.edges j);
}
