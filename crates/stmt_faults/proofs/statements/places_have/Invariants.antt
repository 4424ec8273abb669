-- None of those before is such a one.
use Rattle.std.proofs.Common.{◌≡◌, drop, map}
use Rattle.std.specs.List.{list_any}
use Rattle.f66_tree.specs.Views.{formula_of}
use Rattle.stmt_reader.specs.Faults.{formula_has}
use Rattle.stmt_faults.specs.Asking.{asked_of}
use Rattle.stmt_faults.proofs.statements.places_have.Given as goal

abbrev pub invariant-loop-e : goal.invariant-loop-e
invariant-loop-e l = list_any (formula_has (asked_of l.ask)) (map formula_of (drop l.e-index l.list)) ≡ list_any (formula_has (asked_of l.ask)) (map formula_of l.list)
