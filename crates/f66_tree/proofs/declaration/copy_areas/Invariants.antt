-- The areas before are copied.
use Rattle.std.proofs.Common.{◌≡◌, map, take}
use Rattle.f66_tree.specs.Views.{area_of}
use Rattle.f66_tree.proofs.declaration.copy_areas.Given as goal

abbrev pub invariant-loop-area : goal.invariant-loop-area
invariant-loop-area l = map area_of l.copies.items ≡ map area_of (take l.area-index l.list)
