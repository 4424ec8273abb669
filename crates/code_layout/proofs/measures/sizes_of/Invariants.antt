-- The units before have theirs.
use Rattle.std.proofs.Common.{◌≡◌, ◌<◌, ℕ, length, slice_index_or}
use Rattle.code_gen.specs.Statements.{unit_size}
use Rattle.code_layout.specs.Tabled.{layout_in}
use Rattle.code_layout.proofs.measures.sizes_of.Given as goal

abbrev pub invariant-loop-number : goal.invariant-loop-number
invariant-loop-number l = record {
  many : length l.sizes.items ≡ l.number;
  each : (u d : ℕ) → u < l.number → slice_index_or l.sizes.items u d ≡ unit_size (layout_in l.tables l.spread) u;
}
