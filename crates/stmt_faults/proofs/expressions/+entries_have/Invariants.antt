-- None of those before is such a one.
use Rattle.std.proofs.Common.{◌≡◌, drop, map}
use Rattle.f66_tree.specs.Views.{entries_of}
use Rattle.stmt_reader.specs.Faults.{entries_have}
use Rattle.stmt_faults.specs.Asking.{asked_of}
use Rattle.stmt_faults.proofs.expressions.+entries_have.Given as goal

abbrev pub invariant-entries_have-loop-entry : goal.invariant-entries_have-loop-entry
invariant-entries_have-loop-entry l = entries_have (asked_of l.ask) (entries_of (drop l.entry-index l.list)) ≡ entries_have (asked_of l.ask) (entries_of l.list)
