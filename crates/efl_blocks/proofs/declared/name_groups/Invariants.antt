-- The names before have come.
use Rattle.std.proofs.Common.{drop}
use Rattle.efl_tree.specs.Views.{groups_of}
use Rattle.efl_scope.specs.Marks.{variables_listed}
use Rattle.efl_blocks.proofs.DeclaredLemmas.{NamesLeft}
use Rattle.efl_blocks.proofs.declared.name_groups.Given as goal

abbrev pub invariant-loop-group : goal.invariant-loop-group
invariant-loop-group l = NamesLeft l.fn.block (variables_listed (groups_of l.groups)) l.block (variables_listed (groups_of (drop l.group-index l.groups)))
