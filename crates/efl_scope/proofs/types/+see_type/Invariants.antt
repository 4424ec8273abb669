-- The groups before are seen.
use Rattle.std.proofs.Common.{◌≡◌, drop}
use Rattle.efl_tree.specs.Views.{groups_of}
use Rattle.efl_scope.specs.ScopeRules.{no_name}
use Rattle.efl_scope.specs.Sights.{members_seen}
use Rattle.efl_scope.specs.NameViews.{names_in}
use Rattle.efl_scope.specs.WalkViews.{sight_of}
use Rattle.efl_scope.proofs.types.+see_type.Given as goal

abbrev pub invariant-see_members-loop-group : goal.invariant-see_members-loop-group
invariant-see_members-loop-group l =
    members_seen l.kept (names_in l.declared.names) (groups_of (drop l.group-index l.groups)) (sight_of l.kinds l.outside l.walk)
    ≡ members_seen l.kept no_name (groups_of l.groups) (sight_of l.initial.kinds l.outside l.initial.walk)
