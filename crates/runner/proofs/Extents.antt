-- The number of places of an array, capped.
use Rattle.std.proofs.Common.{◌≡◌, ℕ, zero, suc, ◌+◌, ◌*◌, ◌-◌, ◌<◌, ◌≤◌, true, List, [], ◌∷◌, length, Option, Some, None, refl, sym, ap, ◌∙◌, subst, arith}
use Rattle.std.proofs.lemmas.Bool.Decides.{nat_tests}
use Rattle.std.specs.Prelude.{ℤ, pos, negsuc, int_le, if◌then◌else◌}
use Rattle.ground.specs.Content.{Content, Nothing, Whole, Truth}
use Rattle.f66_tree.specs.World.{Try, Yields, Traps, Fails, then_try}
use Rattle.f66_tree.specs.Statements.{times, extent}
use Rattle.stack_code.specs.StackMachine.{Val}
use Rattle.stack_code.specs.ValidCode.{and_then}
use Rattle.runner.specs.declared.words.Word.{Word}
use Rattle.runner.specs.Words.{Lies}
use Rattle.runner.specs.Work.{IsGiven}
use Rattle.runner.specs.Reaching.{capped, value_at, product, widened, exactly, IsProduct, Alike}
use Rattle.runner.proofs.Reached.{value_is, alike_as, alike_capped, alike_times}

product_as : (far : ℕ) (buffer : List Word) (a n a1 n1 : ℕ) → a ≡ a1 → n ≡ n1 → product far buffer a n ≡ product far buffer a1 n1
product_as far buffer a n a1 n1 e1 e2 = ap (λ x. product far buffer x n) e1 ∙ ap (product far buffer a1) e2

module _ (buffer : List Word) (from count : ℕ) where
  pub product_first : product 1 buffer (from + 0) (count - 0) ≡ product 1 buffer from count
  product_first = product_as 1 buffer (from + 0) (count - 0) from count (omega arith) (omega arith)

  module _ (far index : ℕ) (lt : index < count) where
    unfolded : product far buffer (from + index) (count - index) ≡ and_then (widened far (value_at buffer (from + index))) (λ next. product next buffer (suc (from + index)) (count - (index + 1)))
    unfolded = product_as far buffer (from + index) (count - index) (from + index) (suc (count - (index + 1))) refl (omega arith)

    pub product_on : (next : ℕ) → Some next ≡ widened far (value_at buffer (from + index)) → product next buffer (from + (index + 1)) (count - (index + 1)) ≡ product far buffer (from + index) (count - index)
    product_on next e =
        product_as next buffer (from + (index + 1)) (count - (index + 1)) (suc (from + index)) (count - (index + 1)) (omega arith) refl
        ∙ ap (λ o. and_then o (λ n. product n buffer (suc (from + index)) (count - (index + 1)))) e ∙ sym unfolded

    pub product_stops : None ≡ widened far (value_at buffer (from + index)) → None ≡ product far buffer (from + index) (count - index)
    product_stops e = ap (λ o. and_then o (λ n. product n buffer (suc (from + index)) (count - (index + 1)))) e ∙ sym unfolded

  pub product_ends : (far index : ℕ) → count ≤ index → Some far ≡ product far buffer (from + index) (count - index)
  product_ends far index le = sym (product_as far buffer (from + index) (count - index) (from + index) 0 refl (omega arith))

-- ---- it is the number of places ----

times_product : (e m : ℕ) (x : Try ℕ) (r : Option ℕ) → IsProduct x r (m * suc e) → IsProduct (then_try x (λ k. Yields (suc e * k))) r m
times_product e m (Yields k) (Some far) h = let same : (m * suc e) * k ≡ m * (suc e * k) = grind arith in alike_as far ((m * suc e) * k) (m * (suc e * k)) same h
times_product e m (Traps t) None h = h
times_product e m (Yields k) None h = absurd h
times_product e m (Traps t) (Some far) h = absurd h
times_product e m Fails r h = absurd h

one_more : (d : ℤ) (x : Try ℕ) (go : ℕ → Option ℕ) (far m : ℕ) → Alike far m → ((far1 m1 : ℕ) → Alike far1 m1 → IsProduct x (go far1) m1) → IsProduct (times d x) (and_then (widened far d) go) m
one_more (pos zero) x go far m alike h = refl
one_more (negsuc n) x go far m alike h = refl
one_more (pos (suc e)) x go far m alike h =
    let large : int_le (pos 1) (pos (suc e)) ≡ true = grind (arith, nat_tests) in
    let a = alike_times (suc e) far m alike in
    let same1 : suc e * far ≡ far * suc e = omega arith in
    let same2 : suc e * m ≡ m * suc e = omega arith in
    let b : Alike (far * suc e) (m * suc e) = subst (λ x1. Alike x1 (m * suc e)) same1 (alike_as (suc e * far) (suc e * m) (m * suc e) same2 a) in
    subst (λ b1. IsProduct (then_try x (λ k. Yields (suc e * k))) (and_then (if b1 then Some (capped (far * suc e)) else None) go) m) (sym large) (times_product e m x (go (capped (far * suc e))) (h (capped (far * suc e)) (m * suc e) (alike_capped (far * suc e) (m * suc e) b)))

pub product_is : (buffer : List Word) (n at far m : ℕ) → Alike far m → IsProduct (exactly buffer at n) (product far buffer at n) m
product_is buffer zero at far m alike = alike_as far m (m * 1) (omega arith) alike
product_is buffer (suc n) at far m alike = one_more (value_at buffer at) (exactly buffer (suc at) n) (λ next. product next buffer (suc at) n) far m alike (λ far1 m1 a. product_is buffer n (suc at) far1 m1 a)

times_given : (d : ℤ) (x y : Try ℕ) → IsGiven (times d x) → (IsGiven x → x ≡ y) → times d x ≡ times d y
times_given (pos zero) x y g h = refl
times_given (negsuc n) x y g h = refl
times_given (pos (suc e)) (Yields k) y g h = ap (times (pos (suc e))) (h tt)
times_given (pos (suc e)) (Traps t) y g h = ap (times (pos (suc e))) (h tt)
times_given (pos (suc e)) Fails y g h = absurd g

-- the dimensions that were taken off the stack are those that lie there
pub extent_is : (buffer : List Word) (ds : List Content) (n at : ℕ) → length ds ≡ n → Lies Val ds buffer at → IsGiven (extent ds) → extent ds ≡ exactly buffer at n
extent_is buffer [] zero at e lies g = refl
extent_is buffer [] (suc n) at e lies g = absurd (omega arith)
extent_is buffer (d ∷ ds) zero at e lies g = absurd (omega arith)
extent_is buffer (Whole d ∷ ds) (suc n) at e lies g =
    times_given d (extent ds) (exactly buffer (suc at) n) g (λ given. extent_is buffer ds n (suc at) (omega arith) lies.3 given)
    ∙ ap (λ z. times z (exactly buffer (suc at) n)) (sym (value_is buffer at d lies.0 lies.1 lies.2))
extent_is buffer (Truth b ∷ ds) (suc n) at e lies g = absurd g
extent_is buffer (Nothing ∷ ds) (suc n) at e lies g = absurd g
