-- The groups before have come.
use Rattle.std.proofs.Common.{◌≡◌, drop}
use Rattle.efl_tree.specs.Views.{groups_of}
use Rattle.efl_scope.specs.Sights.{list_declared}
use Rattle.efl_scope.specs.NameViews.{chain_of, declared_of}
use Rattle.efl_scope.proofs.types.declare_list.Given as goal

abbrev pub invariant-loop-group : goal.invariant-loop-group
invariant-loop-group l =
    list_declared (chain_of l.others) (groups_of (drop l.group-index l.groups)) (declared_of l.declared)
    ≡ list_declared (chain_of l.others) (groups_of l.groups) (declared_of l.initial.declared)
