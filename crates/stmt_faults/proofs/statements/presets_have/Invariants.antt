-- None of those before is such a one.
use Rattle.std.proofs.Common.{◌≡◌, drop, map}
use Rattle.std.specs.List.{list_any}
use Rattle.f66_tree.specs.Views.{preset_of}
use Rattle.stmt_reader.specs.Faults.{preset_has}
use Rattle.stmt_faults.specs.Asking.{asked_of}
use Rattle.stmt_faults.proofs.statements.presets_have.Given as goal

abbrev pub invariant-loop-part : goal.invariant-loop-part
invariant-loop-part l = list_any (preset_has (asked_of l.ask)) (map preset_of (drop l.part-index l.list)) ≡ list_any (preset_has (asked_of l.ask)) (map preset_of l.list)
