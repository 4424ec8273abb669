-- The labels before have come.
use Rattle.std.proofs.Common.{◌≡◌, drop}
use Rattle.efl_scope.specs.ScopeRules.{no_name}
use Rattle.efl_scope.specs.Sights.{declaring_all}
use Rattle.efl_scope.specs.NameViews.{declared_of}
use Rattle.efl_scope.proofs.names.declare_labels.Given as goal

abbrev pub invariant-loop-label : goal.invariant-loop-label
invariant-loop-label l = declaring_all no_name (drop l.label-index l.list) (declared_of l.declared) ≡ declaring_all no_name l.list (declared_of l.initial.declared)
