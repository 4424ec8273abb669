-- The numbers fall along the edges before.
use Rattle.std.proofs.Common.{◌<◌, ℕ, slice_index_or}
use Rattle.call_cycles.specs.Cycles.{edge_at}
use Rattle.call_cycles.proofs.cycles.fall.Given as goal

abbrev pub invariant-loop-edge : goal.invariant-loop-edge
invariant-loop-edge l = (j : ℕ) → j < l.edge-index → slice_index_or l.ranks (edge_at l.edges j).to 0 < slice_index_or l.ranks (edge_at l.edges j).from 0
