-- The variables before have come.
use Rattle.std.proofs.Common.{drop}
use Rattle.efl_tree.specs.Views.{vars_of}
use Rattle.efl_blocks.proofs.DeclaredLemmas.{VariablesLeft}
use Rattle.efl_blocks.proofs.declared.add_variables.Given as goal

abbrev pub invariant-loop-variable : goal.invariant-loop-variable
invariant-loop-variable l = VariablesLeft l.fn.types l.kind l.fn.block (vars_of l.list) l.types l.block (vars_of (drop l.variable-index l.list))
