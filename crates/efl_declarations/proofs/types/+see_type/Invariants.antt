-- The groups before have come.
use Rattle.std.proofs.Common.{drop}
use Rattle.efl_tree.specs.Views.{groups_of}
use Rattle.efl_blocks.proofs.ShapeLemmas.{GroupsLeft}
use Rattle.efl_declarations.proofs.SeenLemmas.{FaultsLeft}
use Rattle.efl_declarations.proofs.types.+see_type.Given as goal

abbrev pub invariant-see_structure-loop-group : goal.invariant-see_structure-loop-group
invariant-see_structure-loop-group l = record {
  made : GroupsLeft l.fn.types l.fn.block l.beyond (groups_of l.groups) l.types l.block (groups_of (drop l.group-index l.groups)) l.members.items l.so_far;
  faults : FaultsLeft l.fn.types l.fn.block l.beyond (groups_of l.groups) l.types l.block (groups_of (drop l.group-index l.groups)) l.fault;
}
