-- The units before have their places.
use Rattle.std.proofs.Common.{◌≡◌, ◌<◌, ◌+◌, ℕ, length, slice_index_or}
use Rattle.code_gen.specs.LayingOut.{beneath}
use Rattle.code_layout.proofs.spreading.spares_of.Given as goal

abbrev pub invariant-loop-unit : goal.invariant-loop-unit
invariant-loop-unit l = record {
  many : length l.spares.items ≡ l.unit;
  each : (u d : ℕ) → u < l.unit → slice_index_or l.spares.items u d
      ≡ l.bound + beneath (λ w. slice_index_or l.ranks w 0) (λ w. slice_index_or l.needs w 0) l.order (slice_index_or l.ranks u 0);
}
