-- The units before have their sums.
use Rattle.std.proofs.Common.{◌≡◌, ◌<◌, ◌+◌, ℕ, length, slice_index_or}
use Rattle.code_layout.proofs.spreading.sums_of.Given as goal

abbrev pub invariant-loop-unit : goal.invariant-loop-unit
invariant-loop-unit l = record {
  many : length l.sums.items ≡ l.unit;
  each : (u d : ℕ) → u < l.unit → slice_index_or l.sums.items u d ≡ slice_index_or l.first u d + slice_index_or l.second u 0;
}
