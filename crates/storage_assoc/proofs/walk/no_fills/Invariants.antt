-- There are as many entries as turns, all zero.
use Rattle.std.proofs.Common.{◌≡◌, ℕ, length, slice_index}
use Rattle.storage_assoc.proofs.walk.no_fills.Given as goal

abbrev pub invariant-loop-block : goal.invariant-loop-block
invariant-loop-block l = record {
  many : length l.fills.items ≡ l._block;
  zeros : (i : ℕ) → slice_index l.fills.items i ≡ 0;
}
