-- The groups before have come.
use Rattle.std.proofs.Common.{drop}
use Rattle.efl_tree.specs.Views.{groups_of}
use Rattle.efl_declarations.proofs.SeenLemmas.{FaultsLeft}
use Rattle.efl_declarations.proofs.groups.see_groups.Given as goal

abbrev pub invariant-loop-group : goal.invariant-loop-group
invariant-loop-group l = FaultsLeft l.fn.types l.fn.block l.beyond (groups_of l.groups) l.types l.block (groups_of (drop l.group-index l.groups)) l.fault
