-- Those before hide structures.
use Rattle.std.proofs.Common.{◌≡◌, drop}
use Rattle.efl_tree.specs.Views.{groups_of}
use Rattle.efl_scope.specs.ScopeRules.{Names}
use Rattle.efl_scope.specs.Sights.{hiding_list}
use Rattle.efl_scope.specs.BlockViews.{kinds_of}
use Rattle.efl_scope.proofs.blocks.hide_groups.Given as goal

abbrev pub invariant-loop-group : goal.invariant-loop-group
invariant-loop-group l = (known : Names) → hiding_list (groups_of (drop l.group-index l.groups)) (kinds_of l.kinds known) ≡ hiding_list (groups_of l.groups) (kinds_of l.initial.kinds known)
