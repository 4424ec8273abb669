-- The seats before have their rows.
use Rattle.std.proofs.Common.{◌≡◌, ◌<◌, ℕ, length, slice_index_or}
use Rattle.offset_classes.specs.Links.{class_in, offset_in}
use Rattle.offset_classes.specs.Numbers.{no_row}
use Rattle.offset_classes.proofs.numbers.rows_of.Given as goal

abbrev pub invariant-loop-node : goal.invariant-loop-node
invariant-loop-node l = record {
  many : length l.rows.items ≡ l.node;
  each : (k : ℕ) → k < l.node → slice_index_or l.rows.items k no_row ≡ (class_in l.seats k, offset_in l.seats k, k);
}
