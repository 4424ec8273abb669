-- Those before hide structures.
use Rattle.std.proofs.Common.{◌≡◌, drop}
use Rattle.efl_tree.specs.Views.{vars_of}
use Rattle.efl_scope.specs.Parts.{names_of}
use Rattle.efl_scope.specs.ScopeRules.{Names}
use Rattle.efl_scope.specs.Sights.{without_names}
use Rattle.efl_scope.specs.BlockViews.{kinds_of}
use Rattle.efl_scope.proofs.blocks.hide_variables.Given as goal

abbrev pub invariant-loop-variable : goal.invariant-loop-variable
invariant-loop-variable l = (known : Names) → without_names (names_of (vars_of (drop l.variable-index l.list))) (kinds_of l.kinds known) ≡ without_names (names_of (vars_of l.list)) (kinds_of l.initial.kinds known)
