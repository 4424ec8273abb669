-- There are as many entries as classes seen, all of nothing.
use Rattle.std.proofs.Common.{◌≡◌, ℕ, length, None, slice_index_or}
use Rattle.offset_classes.proofs.anchors.no_heads.Given as goal

abbrev pub invariant-loop-made : goal.invariant-loop-made
invariant-loop-made l = record {
  many : length l.heads.items ≡ l._made;
  none : (c : ℕ) → slice_index_or l.heads.items c None ≡ None;
}
