-- The groups before have come.
use Rattle.std.proofs.Common.{◌≡◌, drop}
use Rattle.efl_tree.specs.Views.{groups_of}
use Rattle.efl_whole.specs.Roles.{list_groups}
use Rattle.efl_whole.specs.RoleViews.{scope_of, listed_of}
use Rattle.efl_whole.proofs.listing.list_groups.Given as goal

abbrev pub invariant-loop-group : goal.invariant-loop-group
invariant-loop-group l =
    list_groups (scope_of l.outside) (groups_of (drop l.group-index l.groups)) (listed_of l.block)
    ≡ list_groups (scope_of l.outside) (groups_of l.groups) (listed_of l.initial.block)
