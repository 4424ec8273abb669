-- The names before have come.
use Rattle.std.proofs.Common.{drop}
use Rattle.efl_tree.specs.Views.{vars_of}
use Rattle.efl_scope.specs.Parts.{names_of}
use Rattle.efl_blocks.proofs.DeclaredLemmas.{NamesLeft}
use Rattle.efl_blocks.proofs.declared.name_variables.Given as goal

abbrev pub invariant-loop-variable : goal.invariant-loop-variable
invariant-loop-variable l = NamesLeft l.fn.block (names_of (vars_of l.list)) l.block (names_of (vars_of (drop l.variable-index l.list)))
