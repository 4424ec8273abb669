-- None of those before is such a one.
use Rattle.std.proofs.Common.{◌≡◌, drop}
use Rattle.std.specs.List.{list_any}
use Rattle.stmt_faults.specs.Asking.{asked_of}
use Rattle.stmt_faults.proofs.statements.counts_have.Given as goal

abbrev pub invariant-loop-n : goal.invariant-loop-n
invariant-loop-n l = list_any (asked_of l.ask).number (drop l.n-index l.list) ≡ list_any (asked_of l.ask).number l.list
