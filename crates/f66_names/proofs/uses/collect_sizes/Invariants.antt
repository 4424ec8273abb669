-- Those before have given their uses.
use Rattle.std.proofs.Common.{◌≡◌, ◌++◌, map, drop}
use Rattle.f66_tree.specs.Views.{declared_of}
use Rattle.f66_names.specs.Uses.{uses_of_sizes}
use Rattle.f66_names.specs.UseViews.{use_of}
use Rattle.f66_names.proofs.uses.collect_sizes.Given as goal

abbrev pub invariant-loop-declared : goal.invariant-loop-declared
invariant-loop-declared l = map use_of l.uses.items ++ uses_of_sizes (map declared_of (drop l.declared-index l.list)) ≡ map use_of l.initial.uses.items ++ uses_of_sizes (map declared_of l.list)
