-- None of those before is such a one.
use Rattle.std.proofs.Common.{◌≡◌, drop, map}
use Rattle.std.specs.List.{list_any}
use Rattle.f66_tree.specs.Views.{initial_of}
use Rattle.stmt_reader.specs.Faults.{value_has}
use Rattle.stmt_faults.specs.Asking.{asked_of}
use Rattle.stmt_faults.proofs.statements.values_have.Given as goal

abbrev pub invariant-loop-count : goal.invariant-loop-count
invariant-loop-count l = list_any (value_has (asked_of l.ask)) (map initial_of (drop l.count-index l.list)) ≡ list_any (value_has (asked_of l.ask)) (map initial_of l.list)
