-- Those before have no bounds.
use Rattle.std.proofs.Common.{◌≡◌, drop}
use Rattle.std.specs.List.{list_any}
use Rattle.efl_tree.specs.Views.{vars_of}
use Rattle.efl_built.specs.Unbuilt.{has_bounds}
use Rattle.efl_built.proofs.declarations.have_bounds.Given as goal

abbrev pub invariant-loop-variable : goal.invariant-loop-variable
invariant-loop-variable l = list_any has_bounds (vars_of (drop l.variable-index l.list)) ≡ list_any has_bounds (vars_of l.list)
