-- Those before are declarations.
use Rattle.std.proofs.Common.{◌≡◌, drop, map}
use Rattle.std.specs.List.{list_all}
use Rattle.f66_tree.specs.Views.{declared_of}
use Rattle.f66_names.specs.Shapes.{is_declared}
use Rattle.f66_names.proofs.shapes.are_all_declared.Given as goal

abbrev pub invariant-loop-declared : goal.invariant-loop-declared
invariant-loop-declared l = list_all is_declared (map declared_of (drop l.declared-index l.list)) ≡ list_all is_declared (map declared_of l.list)
