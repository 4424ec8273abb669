-- The statements and clauses before are read.
use Rattle.std.proofs.Common.{drop}
use Rattle.efl_tree.specs.Views.{stmts_of, cases_of}
use Rattle.efl_scope.specs.Parts.{parts_in}
use Rattle.efl_checks.specs.Walks.{AllFit}
use Rattle.efl_checks.proofs.WalkLemmas.{PartsLeft, ClausesLeft}
use Rattle.efl_checks.proofs.statements.+check.Given as goal

abbrev pub invariant-check_statements-loop-number : goal.invariant-check_statements-loop-number
invariant-check_statements-loop-number l =
    PartsLeft l.fn.types l.site l.fn.walk (AllFit (stmts_of l.list)) (λ a. parts_in 0 a (stmts_of l.list)) l.types l.walk (AllFit (stmts_of (drop l.number l.list)))
    (λ a. parts_in l.number a (stmts_of (drop l.number l.list)))

abbrev pub invariant-check_clauses-loop-number : goal.invariant-check_clauses-loop-number
invariant-check_clauses-loop-number l = ClausesLeft l.fn.types l.site l.fn.walk (cases_of l.list) l.types l.walk l.chosen l.number (cases_of (drop l.number l.list))
