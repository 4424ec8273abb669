-- What stands before is built.
use Rattle.std.proofs.Common.{◌≡◌, drop}
use Rattle.efl_tree.specs.Views.{stmts_of, cases_of}
use Rattle.efl_built.specs.Walks.{first_listed, first_chosen}
use Rattle.efl_built.proofs.statements.+first_stated.Given as goal

abbrev pub invariant-first_listed-loop-statement : goal.invariant-first_listed-loop-statement
invariant-first_listed-loop-statement l = first_listed (stmts_of (drop l.statement-index l.list)) ≡ first_listed (stmts_of l.list)

abbrev pub invariant-first_chosen-loop-clause : goal.invariant-first_chosen-loop-clause
invariant-first_chosen-loop-clause l = first_chosen (cases_of (drop l.clause-index l.list)) ≡ first_chosen (cases_of l.list)
