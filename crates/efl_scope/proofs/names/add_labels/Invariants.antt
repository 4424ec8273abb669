-- The labels before are added.
use Rattle.std.proofs.Common.{◌≡◌, drop}
use Rattle.efl_scope.specs.Sights.{with_names}
use Rattle.efl_scope.specs.NameViews.{names_in}
use Rattle.efl_scope.proofs.names.add_labels.Given as goal

abbrev pub invariant-loop-label : goal.invariant-loop-label
invariant-loop-label l = with_names (drop l.label-index l.list) (names_in l.names) ≡ with_names l.list (names_in l.initial.names)
