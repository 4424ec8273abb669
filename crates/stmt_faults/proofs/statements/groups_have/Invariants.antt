-- None of those before is such a one.
use Rattle.std.proofs.Common.{◌≡◌, drop, map}
use Rattle.std.specs.List.{list_any}
use Rattle.f66_tree.specs.Views.{formula_of}
use Rattle.stmt_reader.specs.Faults.{formula_has}
use Rattle.stmt_faults.specs.Asking.{asked_of}
use Rattle.stmt_faults.proofs.statements.groups_have.Given as goal

abbrev pub invariant-loop-group : goal.invariant-loop-group
invariant-loop-group l = list_any (list_any (formula_has (asked_of l.ask))) (map (λ group. map formula_of group.items) (drop l.group-index l.list)) ≡ list_any (list_any (formula_has (asked_of l.ask))) (map (λ group. map formula_of group.items) l.list)
