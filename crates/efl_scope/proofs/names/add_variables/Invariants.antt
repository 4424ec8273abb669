-- The names before are added.
use Rattle.std.proofs.Common.{◌≡◌, drop}
use Rattle.efl_tree.specs.Views.{vars_of}
use Rattle.efl_scope.specs.Parts.{names_of}
use Rattle.efl_scope.specs.Sights.{with_names}
use Rattle.efl_scope.specs.NameViews.{names_in}
use Rattle.efl_scope.proofs.names.add_variables.Given as goal

abbrev pub invariant-loop-variable : goal.invariant-loop-variable
invariant-loop-variable l = with_names (names_of (vars_of (drop l.variable-index l.list))) (names_in l.names) ≡ with_names (names_of (vars_of l.list)) (names_in l.initial.names)
