-- The groups before have come.
use Rattle.std.proofs.Common.{drop}
use Rattle.efl_tree.specs.Views.{groups_of}
use Rattle.efl_blocks.proofs.ShapeLemmas.{GroupsLeft}
use Rattle.efl_blocks.proofs.types.+make_type.Given as goal

abbrev pub invariant-make_structure-loop-group : goal.invariant-make_structure-loop-group
invariant-make_structure-loop-group l =
    GroupsLeft l.fn.types l.fn.block l.beyond (groups_of l.groups) l.types l.block (groups_of (drop l.group-index l.groups)) l.members.items l.so_far
