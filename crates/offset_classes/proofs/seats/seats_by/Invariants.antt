-- The nodes before have their seats.
use Rattle.std.proofs.Common.{◌≡◌, ◌<◌, ℕ, length}
use Rattle.offset_classes.specs.Links.{nowhere}
use Rattle.std.specs.List.{slice_index_or}
use Rattle.offset_classes.specs.Forests.{IsSeat}
use Rattle.offset_classes.proofs.seats.seats_by.Given as goal

abbrev pub invariant-loop-node : goal.invariant-loop-node
invariant-loop-node l = record {
  many : length l.seats.items ≡ l.node;
  seated : (x : ℕ) → x < l.node → IsSeat l.knots.items x (slice_index_or l.seats.items x nowhere);
}
