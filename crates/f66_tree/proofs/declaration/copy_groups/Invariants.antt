-- The groups before are copied.
use Rattle.std.proofs.Common.{◌≡◌, map, take}
use Rattle.f66_tree.specs.Views.{formula_of}
use Rattle.f66_tree.proofs.declaration.copy_groups.Given as goal

abbrev pub invariant-loop-group : goal.invariant-loop-group
invariant-loop-group l = map (λ group. map formula_of group.items) l.copies.items ≡ map (λ group. map formula_of group.items) (take l.group-index l.list)
