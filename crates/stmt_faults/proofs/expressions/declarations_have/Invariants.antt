-- None of those before is such a one.
use Rattle.std.proofs.Common.{◌≡◌, drop, map}
use Rattle.std.specs.List.{list_any}
use Rattle.f66_tree.specs.Views.{declared_of}
use Rattle.stmt_reader.specs.Faults.{declared_has}
use Rattle.stmt_faults.specs.Asking.{asked_of}
use Rattle.stmt_faults.proofs.expressions.declarations_have.Given as goal

abbrev pub invariant-loop-declared : goal.invariant-loop-declared
invariant-loop-declared l = list_any (declared_has (asked_of l.ask)) (map declared_of (drop l.declared-index l.list)) ≡ list_any (declared_has (asked_of l.ask)) (map declared_of l.list)
