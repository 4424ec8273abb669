-- The variables before have come.
use Rattle.std.proofs.Common.{drop}
use Rattle.efl_tree.specs.Views.{vars_of}
use Rattle.efl_bindings.proofs.TableLemmas.{VariablesLeft}
use Rattle.efl_bindings.proofs.blocks.declare_all.Given as goal

abbrev pub invariant-loop-variable : goal.invariant-loop-variable
invariant-loop-variable l = VariablesLeft l.home l.kind l.fn.table (vars_of l.list) l.table (vars_of (drop l.variable-index l.list))
