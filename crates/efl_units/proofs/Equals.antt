-- Whether numbers are equal.
use Rattle.std.proofs.Common.{◌≡◌, ℕ, suc, nat_eq, Bool, true, false, true≢false, refl, sym, ◌∙◌, arith}
use Rattle.std.proofs.lemmas.Bool.{eqb-true, eq-eqb}

pub equal_not : (a b : ℕ) → (a ≡ b → ⊥) → nat_eq a b ≡ false
equal_not a b ne = each (nat_eq a b) refl
  where
    each : (x : Bool) → nat_eq a b ≡ x → x ≡ false
    each true e = absurd (ne (eqb-true a b e))
    each false e = refl

pub equal_same : (a b c d : ℕ) → (a ≡ b → c ≡ d) → (c ≡ d → a ≡ b) → nat_eq a b ≡ nat_eq c d
equal_same a b c d to from = each (nat_eq a b) (nat_eq c d) refl refl
  where
    each : (x y : Bool) → nat_eq a b ≡ x → nat_eq c d ≡ y → x ≡ y
    each true true e f = refl
    each false false e f = refl
    each true false e f = absurd (true≢false (sym (eq-eqb c d (to (eqb-true a b e))) ∙ f))
    each false true e f = absurd (true≢false (sym (eq-eqb a b (from (eqb-true c d f))) ∙ e))

pub equal_suc : (n m : ℕ) → nat_eq n m ≡ nat_eq (suc n) (suc m)
equal_suc n m = equal_same n m (suc n) (suc m) (λ e. omega (arith, e)) (λ e. omega (arith, e))

pub not_before : (n : ℕ) → nat_eq 0 (suc n) ≡ false
not_before n = equal_not 0 (suc n) (λ e. omega (arith, e))

pub not_zero : (n : ℕ) → nat_eq (suc n) 0 ≡ false
not_zero n = equal_not (suc n) 0 (λ e. omega (arith, e))
