-- An element with constant subscripts within its bounds is one of the places of its array.
use Rattle.std.proofs.Common.{◌≡◌, ◌<◌, ◌+◌, ◌*◌, ℕ, zero, suc, ℤ, pos, negsuc, true, false, true≢false, List, [], ◌∷◌, refl, sym, ap, ◌∙◌, arith, mul-add}
use Rattle.std.specs.Prelude.{◌+ℤ◌, ◌-ℤ◌, ◌*ℤ◌, int_le, unsigned_abs, ◌&&◌}
use Rattle.std.proofs.Math.Nat.{mul_comm, mul_assoc, mul-suc, mul-le-mul_left}
use Rattle.std.proofs.Math.IntN.{pos-*ℤ-pos}
use Rattle.std.proofs.lemmas.Bool.{and_parts, leb-true}
use Rattle.std.proofs.lemmas.Int.{ints}
use Rattle.f66_tree.specs.Syntax.{Int, Formulas, NoFormula, AndFormula, Par, Constant, Named}
use Rattle.f66_tree.specs.Units.{places_of}
use Rattle.f66_program.specs.Association.{shift}
use Rattle.unit_rules.specs.Storage.{are_within}

-- so many places behind the first one
pub record IsInside (m : ℕ) (ns : List Par) (es : Formulas) : Type 0 where
  pub at : ℕ
  pub is : shift m ns es ≡ pos (m * at)
  pub less : at < places_of ns

first_less : (n : ℤ) (z : ℤ) → (int_le (pos 1) z && int_le z n) ≡ true → (j : ℕ) × (z ≡ pos (suc j)) × (j < unsigned_abs n) × (n ≡ pos (unsigned_abs n))
first_less n (pos zero) e = absurd (true≢false (sym e))
first_less n (negsuc k) e = absurd (true≢false (sym e))
first_less (pos m) (pos (suc j)) e = (j, refl, leb-true (suc j) m (and_parts (int_le (pos 1) (pos (suc j))) _ e).1, refl)
first_less (negsuc m) (pos (suc j)) e = absurd (true≢false (sym (and_parts (int_le (pos 1) (pos (suc j))) false e).1))

less_one : (j : ℕ) → (pos (suc j) -ℤ pos 1) ≡ pos j
less_one j = omega (arith, ints)

scaled : (m size j k : ℕ) → ((pos (suc j) -ℤ pos 1) *ℤ pos m) +ℤ pos (m * size * k) ≡ pos (m * (j + size * k))
scaled m size j k =
    ap (λ z. (z *ℤ pos m) +ℤ pos (m * size * k)) (less_one j) ∙ ap (λ z. z +ℤ pos (m * size * k)) (pos-*ℤ-pos j m)
    ∙ ap pos (ap (λ a. a + m * size * k) (mul_comm j m) ∙ ap (λ b. m * j + b) (mul_assoc m size k) ∙ sym (mul-add m j (size * k)))

further_in : (j size k n : ℕ) → j < size → k < n → j + size * k < size * n
further_in j size k n h i = let e = mul-le-mul_left {m = suc k} {n = n} size i in let d = mul-suc size k in omega (arith, h, e, d)

pub inside : (m : ℕ) (ns : List Par) (es : Formulas) → are_within ns es ≡ true → IsInside m ns es
inside m [] NoFormula e = record { at = 0; is = omega (arith, ints); less = omega arith }
inside m [] (AndFormula a es) e = absurd (true≢false (sym e))
inside m (Constant n ∷ ns) (AndFormula (Int z) es) e =
    let p = and_parts (int_le (pos 1) z && int_le z n) _ e in
    let f = first_less n z p.0 in
    let k = inside (m * unsigned_abs n) ns es p.1 in
    record {
      at = f.0 + unsigned_abs n * k.at;
      is = ap (λ y. ((y -ℤ pos 1) *ℤ pos m) +ℤ shift (m * unsigned_abs n) ns es) f.1 ∙ ap (λ y. ((pos (suc f.0) -ℤ pos 1) *ℤ pos m) +ℤ y) k.is ∙ scaled m (unsigned_abs n) f.0 k.at;
      less = further_in f.0 (unsigned_abs n) k.at (places_of ns) f.2 k.less;
    }
inside m (Named x ∷ ns) (AndFormula a es) e = absurd (true≢false (sym e))
inside m (n ∷ ns) NoFormula e = absurd (true≢false (sym e))
inside m (Constant n ∷ ns) (AndFormula _ es) e = absurd (true≢false (sym e))
