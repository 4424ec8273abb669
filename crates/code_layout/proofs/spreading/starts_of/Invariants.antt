-- The units before have their places.
use Rattle.std.proofs.Common.{◌≡◌, ◌<◌, ℕ, length, slice_index_or}
use Rattle.code_gen.specs.LayingOut.{before}
use Rattle.code_layout.proofs.spreading.starts_of.Given as goal

abbrev pub invariant-loop-unit : goal.invariant-loop-unit
invariant-loop-unit l = record {
  many : length l.starts.items ≡ l.unit;
  each : (u d : ℕ) → u < l.unit → slice_index_or l.starts.items u d ≡ before (λ w. slice_index_or l.sizes w 0) l.order u;
}
