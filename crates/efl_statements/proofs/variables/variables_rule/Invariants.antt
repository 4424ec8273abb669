-- What stands before has been seen.
use Rattle.std.proofs.Common.{drop}
use Rattle.efl_tree.specs.Views.{vars_of}
use Rattle.efl_scoped.specs.Seen.{table_of}
use Rattle.efl_statements.proofs.VariableLemmas.{SizesLeft}
use Rattle.efl_statements.proofs.variables.variables_rule.Given as goal

abbrev pub invariant-loop-variable : goal.invariant-loop-variable
invariant-loop-variable l = SizesLeft l.formals (table_of l.fn.numbers) l.kind (vars_of l.list) (table_of l.numbers) l.rule (vars_of (drop l.variable-index l.list))
