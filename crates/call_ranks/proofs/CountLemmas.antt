-- How many numbers below n pass a test.
use Rattle.std.proofs.Common.{◌≡◌, ◌<◌, ◌≤◌, ◌+◌, inl, inr, ℕ, zero, suc, Bool, true, false, refl, subst, arith}
use Rattle.std.proofs.lemmas.Bool.{cases_lt}

abbrev pub one_if : Bool → ℕ
one_if true = 1
one_if false = 0

abbrev pub count : ℕ → (ℕ → Bool) → ℕ
count zero p = 0
count (suc n) p = count n p + one_if (p n)

one_le : (a b : Bool) → (a ≡ true → b ≡ true) → one_if a ≤ one_if b
one_le true true h = omega arith
one_le true false h = absurd (let e = h refl in cc)
one_le false b h = omega arith

pub count_le : (n : ℕ) (p q : ℕ → Bool) → ((i : ℕ) → i < n → p i ≡ true → q i ≡ true) → count n p ≤ count n q
count_le zero p q h = omega arith
count_le (suc n) p q h =
    let a = count_le n p q (λ i lt. h i (omega (arith, lt))) in
    let b = one_le (p n) (q n) (h n (omega arith)) in
    omega (arith, a, b)

-- a test that passes all of the other's, and one more, passes more
pub count_less : (n : ℕ) (p q : ℕ → Bool) → ((i : ℕ) → i < n → p i ≡ true → q i ≡ true) → (w : ℕ) → w < n → p w ≡ false → q w ≡ true → count n p < count n q
count_less zero p q h w lt f t = absurd (omega (arith, lt))
count_less (suc n) p q h w lt f t = elim (cases_lt w n) [
  | inl l ↦
      let a = count_less n p q (λ i lt. h i (omega (arith, lt))) w l f t in
      let b = one_le (p n) (q n) (h n (omega arith)) in
      omega (arith, a, b)
  | inr l ↦
      let e : w ≡ n = omega (arith, lt, l) in
      let a = count_le n p q (λ i lt. h i (omega (arith, lt))) in
      let f' : p n ≡ false = subst (λ i. p i ≡ false) e f in
      let t' : q n ≡ true = subst (λ i. q i ≡ true) e t in
      let b : one_if (p n) ≡ 0 = rw f' refl in
      let d : one_if (q n) ≡ 1 = rw t' refl in
      omega (arith, a, b, d)
]

pub count_all : (n : ℕ) → count n (λ i. true) ≡ n
count_all zero = refl
count_all (suc n) = (let e = count_all n in omega (arith, e))
