-- The dimensions that are left make as many times more.
use Rattle.std.proofs.Common.{◌≡◌, ◌*◌, drop, map}
use Rattle.f66_tree.specs.Units.{places_of}
use Rattle.f66_tree.specs.Views.{par_of}
use Rattle.code_layout.proofs.extents.places_of.Given as goal

abbrev pub invariant-loop-size : goal.invariant-loop-size
invariant-loop-size l = l.product * places_of (map par_of (drop l.size-index l.sizes)) ≡ places_of (map par_of l.sizes)
