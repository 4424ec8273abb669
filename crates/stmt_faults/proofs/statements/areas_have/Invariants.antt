-- None of those before is such a one.
use Rattle.std.proofs.Common.{◌≡◌, drop, map}
use Rattle.std.specs.List.{list_any}
use Rattle.f66_tree.specs.Views.{area_of}
use Rattle.stmt_reader.specs.Faults.{area_has}
use Rattle.stmt_faults.specs.Asking.{asked_of}
use Rattle.stmt_faults.proofs.statements.areas_have.Given as goal

abbrev pub invariant-loop-area : goal.invariant-loop-area
invariant-loop-area l = list_any (area_has (asked_of l.ask)) (map area_of (drop l.area-index l.list)) ≡ list_any (area_has (asked_of l.ask)) (map area_of l.list)
