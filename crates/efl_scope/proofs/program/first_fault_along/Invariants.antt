-- Those before have no fault.
use Rattle.std.proofs.Common.{◌≡◌, drop, map}
use Rattle.efl_tree.specs.Views.{procedure_of}
use Rattle.efl_scope.specs.AreaViews.{first_along}
use Rattle.efl_scope.proofs.program.first_fault_along.Given as goal

abbrev pub invariant-loop-i : goal.invariant-loop-i
invariant-loop-i l = first_along l.firsts (drop l.i l.lists) (map procedure_of (drop l.i l.procedures)) ≡ first_along l.firsts l.lists (map procedure_of l.procedures)
