-- The statements and clauses before are made.
use Rattle.std.proofs.Common.{drop}
use Rattle.efl_tree.specs.Views.{stmts_of, cases_of}
use Rattle.efl_typing.proofs.StatementLemmas.{StatementsLeft, ClausesLeft}
use Rattle.efl_typing.proofs.statements.+typing.Given as goal

abbrev pub invariant-typed_statements-loop-number : goal.invariant-typed_statements-loop-number
invariant-typed_statements-loop-number l = StatementsLeft (stmts_of l.list) l.site l.number (stmts_of (drop l.number l.list)) l.statements.items

abbrev pub invariant-typed_clauses-loop-number : goal.invariant-typed_clauses-loop-number
invariant-typed_clauses-loop-number l = ClausesLeft (cases_of l.list) l.site l.number (cases_of (drop l.number l.list)) l.clauses.items
