-- The structures of the groups before have come.
use Rattle.std.proofs.Common.{◌≡◌, drop}
use Rattle.efl_tree.specs.Views.{groups_of}
use Rattle.efl_scope.specs.Sights.{groups_declared}
use Rattle.efl_scope.specs.NameViews.{chain_of, declared_of}
use Rattle.efl_scope.proofs.types.+declare_type.Given as goal

abbrev pub invariant-declare_groups-loop-group : goal.invariant-declare_groups-loop-group
invariant-declare_groups-loop-group l =
    groups_declared (chain_of l.others) (groups_of (drop l.group-index l.groups)) (declared_of l.declared)
    ≡ groups_declared (chain_of l.others) (groups_of l.groups) (declared_of l.initial.declared)
