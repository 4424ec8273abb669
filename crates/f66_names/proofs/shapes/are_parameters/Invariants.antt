-- Those before are parameters.
use Rattle.std.proofs.Common.{◌≡◌, drop, map}
use Rattle.std.specs.List.{list_all}
use Rattle.f66_tree.specs.Views.{par_of}
use Rattle.f66_names.specs.Shapes.{is_parameter}
use Rattle.f66_names.proofs.shapes.are_parameters.Given as goal

abbrev pub invariant-loop-par : goal.invariant-loop-par
invariant-loop-par l = list_all is_parameter (map par_of (drop l.par-index l.list)) ≡ list_all is_parameter (map par_of l.list)
