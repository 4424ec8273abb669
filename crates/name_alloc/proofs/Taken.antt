-- A number is taken: the numbers that are still in the way are counted.
use Rattle.std.proofs.Common.{◌≡◌, ℕ, ◌+◌, ◌≤◌, List, [], ◌∷◌, ◌++◌, length, length-append, Bool, true, false, Result, Ok, Err, OnOk, OnErr, sym, subst, arith, if◌then◌else◌}
use Rattle.name_alloc.specs.Numbers.{is_in, above, with_number}
use Rattle.name_alloc.proofs.Free.{above-more}

module _ (next first : ℕ) (made : List ℕ) (n : ℕ) (old : List ℕ) (low : next + above next old ≤ first + length made + length old) where
  with_one : (here : Bool) → next + above next (if here then old else (old ++ n ∷ [])) ≤ first + length made + length (if here then old else (old ++ n ∷ []))
  with_one true = low
  with_one false = omega (arith, low, above-more next n old, length-append old (n ∷ []))

pub still_low : {A E : Type 0} (next first : ℕ) (made : List ℕ) (n : ℕ) (old new : List ℕ) (r : Result A E) → OnOk r (new ≡ with_number n old) → OnErr r (new ≡ old) →
    next + above next old ≤ first + length made + length old → next + above next new ≤ first + length made + length new
still_low next first made n old new (Ok a) inserted kept low = subst (λ ns. next + above next ns ≤ first + length made + length ns) (sym inserted) (with_one next first made n old low (is_in old n))
still_low next first made n old new (Err e) inserted kept low = subst (λ ns. next + above next ns ≤ first + length made + length ns) (sym kept) low
