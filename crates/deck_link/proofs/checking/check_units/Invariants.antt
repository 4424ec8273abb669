-- The units so far have no fault, and the others are still to come.
use Rattle.std.proofs.Common.{◌≡◌, ◌++◌, map}
use Rattle.std.specs.List.{AllByRecursion}
use Rattle.f66_tree.specs.Views.{routine_of}
use Rattle.deck_link.specs.Units.{IsClean}
use Rattle.deck_link.proofs.checking.check_units.Given as goal

abbrev pub invariant-loop-unit : goal.invariant-loop-unit
invariant-loop-unit l =
    (goal.iterator-loop-unit).can_next l.unit-iterator ×
    (goal.iterator-loop-unit).is_finite l.unit-iterator ×
    (l.fn.units.items ≡ l.yielded ++ l.unit-iterator.rest.items) ×
    (l.checked.items ≡ l.yielded) ×
    AllByRecursion IsClean (map routine_of l.yielded)
