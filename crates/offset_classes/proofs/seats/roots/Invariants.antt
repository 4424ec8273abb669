-- Each node before is a root of its own.
use Rattle.std.proofs.Common.{◌≡◌, ◌<◌, ℕ, pos, length}
use Rattle.offset_classes.specs.Forests.{knot_at}
use Rattle.offset_classes.proofs.seats.roots.Given as goal

abbrev pub invariant-loop-node : goal.invariant-loop-node
invariant-loop-node l = record {
  many : length l.knots.items ≡ l.node;
  alone : (x : ℕ) → x < l.node → knot_at l.knots.items x ≡ record { parent = x; weight = pos 0; span = 0; rank = 0 };
}
