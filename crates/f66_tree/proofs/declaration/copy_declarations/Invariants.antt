-- The declarations before are copied.
use Rattle.std.proofs.Common.{◌≡◌, map, take}
use Rattle.f66_tree.specs.Views.{declared_of}
use Rattle.f66_tree.proofs.declaration.copy_declarations.Given as goal

abbrev pub invariant-loop-declared : goal.invariant-loop-declared
invariant-loop-declared l = map declared_of l.copies.items ≡ map declared_of (take l.declared-index l.list)
