-- Some constants have come.
use Rattle.std.proofs.Common.{ℤ, List, drop}
use Rattle.efl_statements.specs.Clauses.{Has}
use Rattle.efl_statements.proofs.ClauseLemmas.{HasSeen}
use Rattle.efl_statements.proofs.clauses.add_all.Given as goal

abbrev pub invariant-loop-constant : goal.invariant-loop-constant
invariant-loop-constant l = (before : List ℤ) → Has before l.fn.chosen → HasSeen before l.constants (drop l.constant-index l.constants) l.chosen l.again
