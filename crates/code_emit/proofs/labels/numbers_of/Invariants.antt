-- The labels before are noted.
use Rattle.std.proofs.Common.{◌≡◌, ℕ, nat_eq, take}
use Rattle.std.specs.HashMap.{get}
use Rattle.rule_table.specs.Words.{first_place}
use Rattle.f66_tree.specs.Execution.{has_label}
use Rattle.code_emit.proofs.labels.numbers_of.Given as goal

abbrev pub invariant-loop-number : goal.invariant-loop-number
invariant-loop-number l = (q : ℕ) → get nat_eq l.numbers q ≡ first_place (λ s. has_label q s.label) (take l.number l.statements)
