-- The units of a program, its main first.
use Rattle.std.proofs.Common.{◌≡◌, ◌<◌, ◌≤◌, ◌+◌, ◌-◌, ◌++◌, ℕ, zero, suc, nat_eq, Bool, true, false, List, [], ◌∷◌, inl, inr, refl, ap, sym, ◌∙◌, append_assoc, arith}
use Rattle.std.specs.Prelude.{if◌then◌else◌}
use Rattle.std.proofs.lemmas.Bool.{cases_lt, eq-eqb, ne_eqb, eqb-true}
use Rattle.code_gen.specs.Behaves.{IsAmong}
use Rattle.code_gen.specs.LayingOut.{AreDistinct}
use Rattle.code_layout.specs.Order.{others_from, others_of}

-- the first of those that are left
left_from : (main k n : ℕ) → k < n → others_from main k (n - k) ≡ (if nat_eq k main then others_from main (k + 1) (n - (k + 1)) else (k ∷ others_from main (k + 1) (n - (k + 1))))
left_from main k n lt =
    let e : n - k ≡ suc (n - (k + 1)) = omega (arith, lt) in
    let s : suc k ≡ k + 1 = omega arith in
    ap (others_from main k) e ∙ ap (λ j. if nat_eq k main then others_from main j (n - (k + 1)) else (k ∷ others_from main j (n - (k + 1)))) s

pub passed : (main k n : ℕ) (before all : List ℕ) → k < n → k ≡ main → before ++ others_from main k (n - k) ≡ all → before ++ others_from main (k + 1) (n - (k + 1)) ≡ all
passed main k n before all lt e h =
    ap (λ xs. before ++ xs) (sym (left_from main k n lt ∙ ap (λ b. if b then others_from main (k + 1) (n - (k + 1)) else (k ∷ others_from main (k + 1) (n - (k + 1)))) (eq-eqb k main e))) ∙ h

pub pushed : (main k n : ℕ) (before all : List ℕ) → k < n → (k ≡ main → ⊥) → before ++ others_from main k (n - k) ≡ all → (before ++ k ∷ []) ++ others_from main (k + 1) (n - (k + 1)) ≡ all
pushed main k n before all lt ne h =
    append_assoc before (k ∷ []) (others_from main (k + 1) (n - (k + 1)))
    ∙ ap (λ xs. before ++ xs) (sym (left_from main k n lt ∙ ap (λ b. if b then others_from main (k + 1) (n - (k + 1)) else (k ∷ others_from main (k + 1) (n - (k + 1)))) (ne_eqb k main ne))) ∙ h

-- ---- which units these are ----

pub within : (main k n u : ℕ) → IsAmong u (others_from main k n) → (k ≤ u) × (u < k + n) × (u ≡ main → ⊥)
within main k zero u m = absurd m
within main k (suc n) u m = by_main (nat_eq k main) refl m (within main (suc k) n u)
  where
    by_main : (b : Bool) → nat_eq k main ≡ b → IsAmong u (if b then others_from main (suc k) n else (k ∷ others_from main (suc k) n)) → (IsAmong u (others_from main (suc k) n) → (suc k ≤ u) × (u < suc k + n) × (u ≡ main → ⊥)) → (k ≤ u) × (u < k + suc n) × (u ≡ main → ⊥)
    by_main true e m h = (let g = h m in let a = g.0 in let b = g.1 in (omega (arith, a), omega (arith, b), g.2))
    by_main false e (inl i) h = (omega (arith, i), omega (arith, i), λ q. absurd (let t = eq-eqb k main (sym i ∙ q) in let f : true ≡ false = sym t ∙ e in cc))
    by_main false e (inr m) h = (let g = h m in let a = g.0 in let b = g.1 in (omega (arith, a), omega (arith, b), g.2))

pub among : (main k n u : ℕ) → k ≤ u → u < k + n → (u ≡ main → ⊥) → IsAmong u (others_from main k n)
among main k zero u low high ne = absurd (omega (arith, low, high))
among main k (suc n) u low high ne = by_main (nat_eq k main) refl (λ more. among main (suc k) n u more (omega (arith, high)) ne)
  where
    behind : (suc k ≤ u → IsAmong u (others_from main (suc k) n)) → (k ≡ u → ⊥) → IsAmong u (others_from main (suc k) n)
    behind h apart = elim (cases_lt k u) [ inl l ↦ h (omega (arith, l)) | inr l ↦ absurd (apart (omega (arith, l, low))) ]

    by_eq : (b : Bool) → nat_eq u k ≡ b → (suc k ≤ u → IsAmong u (others_from main (suc k) n)) → IsAmong u (k ∷ others_from main (suc k) n)
    by_eq true q h = inl (eqb-true u k q)
    by_eq false q h = inr (behind h (λ i. absurd (let t = eq-eqb u k (sym i) in let f : true ≡ false = sym t ∙ q in cc)))

    by_main : (b : Bool) → nat_eq k main ≡ b → (suc k ≤ u → IsAmong u (others_from main (suc k) n)) → IsAmong u (if b then others_from main (suc k) n else (k ∷ others_from main (suc k) n))
    by_main true e h = behind h (λ q. ne (sym q ∙ eqb-true k main e))
    by_main false e h = by_eq (nat_eq u k) refl h

distinct_from : (main k n : ℕ) → AreDistinct (others_from main k n)
distinct_from main k zero = tt
distinct_from main k (suc n) = by_main (nat_eq k main) (distinct_from main (suc k) n)
  where
    by_main : (b : Bool) → AreDistinct (others_from main (suc k) n) → AreDistinct (if b then others_from main (suc k) n else (k ∷ others_from main (suc k) n))
    by_main true h = h
    by_main false h = (λ m. let a = (within main (suc k) n k m).0 in absurd (omega (arith, a)), h)

pub distinct : (main n : ℕ) → AreDistinct (main ∷ others_of main n)
distinct main n = (λ m. (within main 0 n main m).2 refl, distinct_from main 0 n)

-- each of so many units is in the order
pub ordered : (main n u : ℕ) → u < n → IsAmong u (main ∷ others_of main n)
ordered main n u lt = by_main (nat_eq u main) refl
  where
    by_main : (b : Bool) → nat_eq u main ≡ b → IsAmong u (main ∷ others_of main n)
    by_main true e = inl (eqb-true u main e)
    by_main false e = inr (among main 0 n u (omega arith) (omega (arith, lt)) (λ q. absurd (let t = eq-eqb u main q in let f : true ≡ false = sym t ∙ e in cc)))
