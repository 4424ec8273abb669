-- There are as many zeros as turns.
use Rattle.std.proofs.Common.{◌≡◌, ℕ, length, slice_index_or}
use Rattle.code_layout.proofs.ranks.zeros.Given as goal

abbrev pub invariant-loop-node : goal.invariant-loop-node
invariant-loop-node l = record {
  many : length l.ranks.items ≡ l._node;
  none : (u : ℕ) → slice_index_or l.ranks.items u 0 ≡ 0;
}
