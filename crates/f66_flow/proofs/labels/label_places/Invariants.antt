-- What holds at each turn of the loops of `label_places`.
use Rattle.std.proofs.Common.{◌≡◌, ℕ, nat_eq, take}
use Rattle.std.specs.HashMap.{get}
use Rattle.rule_table.specs.Words.{first_place}
use Rattle.f66_tree.specs.Execution.{has_label}
use Rattle.f66_flow.proofs.labels.label_places.Given as goal

abbrev pub invariant-loop-i : goal.invariant-loop-i
invariant-loop-i l = (q : ℕ) → get nat_eq l.places q ≡ first_place (λ s. has_label q s.label) (take l.i l.statements)
