-- The forest holds the links before.
use Rattle.std.proofs.Common.{◌≡◌, length, take}
use Rattle.offset_classes.specs.Forests.{IsGrown}
use Rattle.offset_classes.proofs.seats.join_all.Given as goal

abbrev pub invariant-loop-link : goal.invariant-loop-link
invariant-loop-link l = record {
  many : length l.knots ≡ length l.initial.knots;
  grown : IsGrown (take l.link-index l.links) l.knots;
}
