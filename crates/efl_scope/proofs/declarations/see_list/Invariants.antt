-- The groups before are seen.
use Rattle.std.proofs.Common.{◌≡◌, drop}
use Rattle.efl_tree.specs.Views.{groups_of}
use Rattle.efl_scope.specs.Sights.{list_seen}
use Rattle.efl_scope.specs.NameViews.{chain_of}
use Rattle.efl_scope.specs.WalkViews.{opened_of}
use Rattle.efl_scope.proofs.declarations.see_list.Given as goal

abbrev pub invariant-loop-group : goal.invariant-loop-group
invariant-loop-group l =
    list_seen (chain_of l.formals) (groups_of (drop l.group-index l.groups)) (opened_of l.block l.outside l.walk)
    ≡ list_seen (chain_of l.formals) (groups_of l.groups) (opened_of l.initial.block l.outside l.initial.walk)
