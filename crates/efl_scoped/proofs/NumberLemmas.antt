-- A pair that had no number gets the next one.
use Rattle.std.proofs.Common.{◌≡◌, ℕ, ◌<◌, ◌≤◌, ◌+◌, nat_eq, ◌&&◌, Option, Some, None, cond, is_some, length, Result, Ok, Err, subst, if◌then◌else◌, sym, ap, ◌∙◌, arith}
use Rattle.std.specs.Map.{lookup}
use Rattle.std.specs.HashMap.{HashMap, hash_map_len}
use Rattle.std.specs.Result.{IfOk, OnOk, OnErr}
use Rattle.efl_scoped.specs.Numbers.{Table, number_in, AreBelow, AreAbove, AreDistinct}
use Rattle.std.proofs.lemmas.Grind.{common_steps}

-- one table is another with one pair more
abbrev pub IsNumbered : Table → Table → ℕ → ℕ → ℕ → Type 0
IsNumbered f g a b n = (c d : ℕ) → g c d ≡ cond (nat_eq a c && nat_eq b d) (Some n) (f c d)

module _ (f g : Table) (a b n : ℕ) (none : f a b ≡ None) (is : IsNumbered f g a b n) where
  pub still_numbered : (c d k : ℕ) → f c d ≡ Some k → g c d ≡ Some k
  still_numbered c d k had = grind (arith, common_steps, is c d)

  module _ (below : (c d k : ℕ) → f c d ≡ Some k → k < n) where
    pub still_below : (c d k : ℕ) → g c d ≡ Some k → k < n + 1
    still_below c d k has = grind (arith, common_steps, is c d, below c d k)

    pub still_distinct : AreDistinct f → AreDistinct g
    still_distinct distinct p q c d k one two =
        (grind (arith, common_steps, is p q, is c d, below p q k, below c d k, distinct p q c d k), grind (arith, common_steps, is p q, is c d, below p q k, below c d k, distinct p q c d k))

  pub still_above : 4 ≤ n → AreAbove f → AreAbove g
  still_above first above c d k has = grind (arith, common_steps, is c d, above c d k, first)

module _ {S Y : Type 0} (m n : HashMap (ℕ × ℕ) ℕ S) (a b k : ℕ) (none : number_in m a b ≡ None) (next : k ≡ hash_map_len m + 4)
    (below : AreBelow m) (above : AreAbove (number_in m)) (distinct : AreDistinct (number_in m)) where
  -- an insertion into a table, which may fail
  pub inserted : (r : Result (Option ℕ) Y) → IfOk r (λ old. old ≡ number_in m a b) → OnOk r (IsNumbered (number_in m) (number_in n) a b k) →
      IfOk r (λ old. hash_map_len n ≡ hash_map_len m + (if is_some old then 0 else 1)) → OnErr r (n.entries ≡ m.entries) →
      AreBelow n × (AreAbove (number_in n) × AreDistinct (number_in n))
  inserted (Ok old) was updates len err =
      let lower : (c d j : ℕ) → number_in m c d ≡ Some j → j < k = λ c d j h. subst (λ x. j < x) (sym next) (below c d j h) in
      let first : 4 ≤ k = omega (arith, next) in
      let size : hash_map_len n ≡ hash_map_len m + 1 = len ∙ ap (λ o. hash_map_len m + (if is_some o then 0 else 1)) (was ∙ none) in
      let more : hash_map_len n + 4 ≡ k + 1 = omega (arith, size, next) in (
        λ c d j h. subst (λ x. j < x) (sym more) (still_below (number_in m) (number_in n) a b k none updates lower c d j h),
        (still_above (number_in m) (number_in n) a b k none updates first above, still_distinct (number_in m) (number_in n) a b k none updates lower distinct),
      )
  inserted (Err y) was updates len err = (
    subst (λ es. (c d j : ℕ) → lookup (λ q. nat_eq c q.0 && nat_eq d q.1) es ≡ Some j → j < length es + 4) (sym err) below,
    (
      subst (λ es. (c d j : ℕ) → lookup (λ q. nat_eq c q.0 && nat_eq d q.1) es ≡ Some j → 4 ≤ j) (sym err) above,
      subst (λ es. (p q c d j : ℕ) → lookup (λ x. nat_eq p x.0 && nat_eq q x.1) es ≡ Some j → lookup (λ x. nat_eq c x.0 && nat_eq d x.1) es ≡ Some j → (p ≡ c) × (q ≡ d)) (sym err) distinct,
    ),
  )
