-- The places so far, and those to come, up to the limit.
use Rattle.std.proofs.Common.{◌≡◌, ◌*◌, ◌≤◌, drop, map, min}
use Rattle.f66_tree.specs.Units.{places_of}
use Rattle.f66_tree.specs.Views.{par_of}
use Rattle.f66_names.proofs.store_rules.is_large.Given as goal

abbrev pub invariant-loop-size : goal.invariant-loop-size
invariant-loop-size l =
    (l.places ≤ 32768) × (min (l.places * places_of (map par_of (drop l.size-index l.size-items))) 32768 ≡ min (places_of (map par_of l.size-items)) 32768)
