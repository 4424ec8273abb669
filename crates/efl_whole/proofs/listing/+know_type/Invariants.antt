-- The structures of the groups before are known.
use Rattle.std.proofs.Common.{◌≡◌, drop}
use Rattle.efl_tree.specs.Views.{groups_of}
use Rattle.efl_whole.specs.Roles.{behind_groups}
use Rattle.efl_whole.specs.RoleViews.{roles_of}
use Rattle.efl_whole.proofs.listing.+know_type.Given as goal

abbrev pub invariant-know_groups-loop-group : goal.invariant-know_groups-loop-group
invariant-know_groups-loop-group l =
    behind_groups (groups_of (drop l.group-index l.groups)) (roles_of l.names)
    ≡ behind_groups (groups_of l.groups) (roles_of l.initial.names)
