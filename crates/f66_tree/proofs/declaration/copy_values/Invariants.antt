-- The initial values before are copied.
use Rattle.std.proofs.Common.{◌≡◌, map, take}
use Rattle.f66_tree.specs.Views.{initial_of}
use Rattle.f66_tree.proofs.declaration.copy_values.Given as goal

abbrev pub invariant-loop-count : goal.invariant-loop-count
invariant-loop-count l = map initial_of l.copies.items ≡ map initial_of (take l.count-index l.list)
