-- The seats before stand behind their heads.
use Rattle.std.proofs.Common.{◌≡◌, ◌<◌, ◌≤ℤ◌, ℕ, ℤ, None, Some, slice_index_or}
use Rattle.offset_classes.specs.Links.{class_in, offset_in}
use Rattle.offset_classes.proofs.anchors.are_behind.Given as goal

abbrev pub invariant-loop-seat : goal.invariant-loop-seat
invariant-loop-seat l = (x : ℕ) (o : ℤ) → x < l.seat-index → slice_index_or l.heads (class_in l.seats x) None ≡ Some o → o ≤ℤ offset_in l.seats x
