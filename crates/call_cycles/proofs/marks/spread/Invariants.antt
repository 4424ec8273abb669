-- The edges before have spread their marks.
use Rattle.call_cycles.proofs.MarkLemmas.{InPass}
use Rattle.call_cycles.proofs.marks.spread.Given as goal

abbrev pub invariant-loop-edge : goal.invariant-loop-edge
invariant-loop-edge l = InPass l.edges l.initial.marks l.marks l.quiet l.edge-index
