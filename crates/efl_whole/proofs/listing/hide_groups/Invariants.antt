-- Those before hide what is around.
use Rattle.std.proofs.Common.{◌≡◌, drop}
use Rattle.efl_tree.specs.Views.{groups_of}
use Rattle.efl_whole.specs.Roles.{hide_groups}
use Rattle.efl_whole.specs.RoleViews.{roles_of}
use Rattle.efl_whole.proofs.listing.hide_groups.Given as goal

abbrev pub invariant-loop-group : goal.invariant-loop-group
invariant-loop-group l =
    hide_groups (groups_of (drop l.group-index l.groups)) (roles_of l.names)
    ≡ hide_groups (groups_of l.groups) (roles_of l.initial.names)
