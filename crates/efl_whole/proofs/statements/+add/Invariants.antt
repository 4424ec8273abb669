-- What stands before has given its calls.
use Rattle.std.proofs.Common.{◌≡◌, drop}
use Rattle.efl_tree.specs.Views.{stmts_of, cases_of}
use Rattle.efl_whole.specs.Calls.{statements_calls, clauses_calls}
use Rattle.efl_whole.specs.CallViews.{calls_of, site_of}
use Rattle.efl_whole.proofs.statements.+add.Given as goal

abbrev pub invariant-add_statements-loop-statement : goal.invariant-add_statements-loop-statement
invariant-add_statements-loop-statement l =
    statements_calls (site_of l.site) (stmts_of (drop l.statement-index l.list)) (calls_of l.calls)
    ≡ statements_calls (site_of l.site) (stmts_of l.list) (calls_of l.initial.calls)

abbrev pub invariant-add_clauses-loop-clause : goal.invariant-add_clauses-loop-clause
invariant-add_clauses-loop-clause l =
    clauses_calls (site_of l.site) (cases_of (drop l.clause-index l.list)) (calls_of l.calls)
    ≡ clauses_calls (site_of l.site) (cases_of l.list) (calls_of l.initial.calls)
