-- The groups before have come.
use Rattle.std.proofs.Common.{drop}
use Rattle.efl_tree.specs.Views.{groups_of}
use Rattle.efl_blocks.proofs.DeclaredLemmas.{GroupsLeft}
use Rattle.efl_blocks.proofs.declared.declare_groups.Given as goal

abbrev pub invariant-loop-group : goal.invariant-loop-group
invariant-loop-group l = GroupsLeft l.fn.types l.fn.known l.beyond l.fn.block (groups_of l.groups) l.types l.known (groups_of (drop l.group-index l.groups)) l.block
