-- Whether a list has a number, by either side of the test.
use Rattle.std.proofs.Common.{◌≡◌, ℕ, List, nat_eq, ap, arith}
use Rattle.std.proofs.lemmas.Grind.{common_steps}
use Rattle.std.specs.List.{list_any}
use Rattle.name_alloc.specs.Numbers.{is_in}

either_side : (n m : ℕ) → nat_eq m n ≡ nat_eq n m
either_side n m = grind arith

pub is_in-test : (ns : List ℕ) (n : ℕ) → is_in ns n ≡ list_any (nat_eq n) ns
is_in-test ns n = ap (λ test. list_any test ns) (λ i m. either_side n m i)

pub ruleset set_steps = (common_steps, is_in-test)
