-- Numbers for pairs of numbers, texts and integers: no two of them have the same.
use Rattle.std.proofs.Common.{◌≡◌, ◌<◌, ◌≤◌, ◌⊎◌, inl, inr, ℕ, suc, ◌+◌, ◌*◌, ℤ, pos, negsuc, List, [], ◌∷◌, refl, sym, ap, ◌∙◌, arith}
use Rattle.std.proofs.lemmas.Bool.{cases_order}
use Rattle.std.proofs.Math.Nat.{mul-le-mul}

-- ---- two numbers ----

abbrev pub pair : ℕ → ℕ → ℕ
pair a b = (a + b) * (a + b) + a

-- beside the square of a sum, its first part does not reach the next square
apart : (s t a c : ℕ) → s < t → a ≤ s → ¬ (s * s + a ≡ t * t + c)
apart s t a c lt le e = let far : (s + 1) * (s + 1) ≤ t * t = mul-le-mul (omega (arith, lt)) (omega (arith, lt)) in omega (arith, far, le, e)

at_one_sum : (s t a c : ℕ) → s ≡ t → s * s + a ≡ t * t + c → a ≡ c
at_one_sum s t a c same e = let squares : s * s ≡ t * t = ap (λ (n : ℕ). n * n) same in omega (arith, squares, e)

pub pair_tells : (a b c d : ℕ) → pair a b ≡ pair c d → (a ≡ c) × (b ≡ d)
pair_tells a b c d e = by_order (cases_order (a + b) (c + d))
  where
    by_order : ((a + b) ≡ (c + d)) ⊎ (((a + b) < (c + d)) ⊎ ((c + d) < (a + b))) → (a ≡ c) × (b ≡ d)
    by_order (inl same) = let first : a ≡ c = at_one_sum (a + b) (c + d) a c same e in (first, omega (arith, first, same))
    by_order (inr (inl lt)) = absurd (apart (a + b) (c + d) a c lt (omega arith) e)
    by_order (inr (inr lt)) = absurd (apart (c + d) (a + b) c a lt (omega arith) (sym e))

-- ---- texts ----

abbrev pub text_number : List ℕ → ℕ
text_number [] = 0
text_number (c ∷ cs) = suc (pair c (text_number cs))

pub text_tells : (x y : List ℕ) → text_number x ≡ text_number y → x ≡ y
text_tells [] [] e = refl
text_tells [] (d ∷ ds) e = absurd (omega (arith, e))
text_tells (c ∷ cs) [] e = absurd (omega (arith, e))
text_tells (c ∷ cs) (d ∷ ds) e =
    let parts = pair_tells c (text_number cs) d (text_number ds) (omega (arith, e)) in
    ap (λ (b : ℕ). b ∷ cs) parts.0 ∙ ap (λ (bs : List ℕ). d ∷ bs) (text_tells cs ds parts.1)

-- ---- integers ----

abbrev pub whole_number : ℤ → ℕ
whole_number (pos n) = n + n
whole_number (negsuc n) = n + n + 1

pub whole_tells : (y z : ℤ) → whole_number y ≡ whole_number z → y ≡ z
whole_tells (pos m) (pos n) e = ap pos (omega (arith, e))
whole_tells (pos m) (negsuc n) e = absurd (omega (arith, e))
whole_tells (negsuc m) (pos n) e = absurd (omega (arith, e))
whole_tells (negsuc m) (negsuc n) e = ap negsuc (omega (arith, e))
