-- No number before stands twice, and those before are seen.
use Rattle.std.proofs.Common.{◌≡◌, ◌<◌, ℕ, take, nat_eq}
use Rattle.std.specs.HashSet.{contains}
use Rattle.std.specs.List.{list_any}
use Rattle.storage_rules.specs.Repeats.{RepeatsAt}
use Rattle.storage_rules.proofs.repeats.first_repeat.Given as goal

abbrev pub invariant-loop-k : goal.invariant-loop-k
invariant-loop-k l = record {
  none : (i : ℕ) → i < l.k → ¬ RepeatsAt l.numbers i;
  seen : (n : ℕ) → contains nat_eq l.seen n ≡ list_any (nat_eq n) (take l.k l.numbers);
}
