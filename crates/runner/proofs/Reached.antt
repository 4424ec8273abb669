-- How far the subscripts of an element reach, with numbers that are capped.
use Rattle.std.proofs.Common.{◌≡◌, ℕ, zero, suc, ◌+◌, ◌*◌, ◌-◌, ◌^◌, ◌≤◌, ◌<◌, Bool, true, false, List, [], ◌∷◌, length, Option, Some, None, refl, sym, ap, ◌∙◌, subst, arith, slice_get}
use Rattle.std.specs.Prelude.{ℤ, pos, ◌-ℤ◌, unsigned_abs, int_le, nat_lt, ◌&&◌, if◌then◌else◌}
use Rattle.std.proofs.lemmas.Bool.{ltb-true, ltb-false}
use Rattle.std.proofs.lemmas.Option.{get_or_from_slice_get}
use Rattle.ground.specs.declared.trap.Trap.TheVariants.{Subscript}
use Rattle.ground.specs.Content.{Content, Nothing, Whole, Truth}
use Rattle.f66_tree.specs.World.{Try, Yields, Traps, Fails, then_try}
use Rattle.f66_tree.specs.Evaluation.{distance}
use Rattle.stack_code.specs.StackMachine.{Val}
use Rattle.stack_code.specs.ValidCode.{and_then}
use Rattle.runner.specs.declared.words.Word.{Word}
use Rattle.runner.specs.declared.elements.Reach.{Reach}
use Rattle.runner.specs.Words.{Shows, Lies, blank}
use Rattle.runner.specs.Work.{IsGiven}
use Rattle.runner.specs.Reaching.{capped, advanced, value_at, reaches, Alike, Same, Many}

-- ---- numbers that are the same up to the cap ----

pub alike_capped : (a b : ℕ) → Alike a b → Alike (capped a) b
alike_capped a b alike = by_test (nat_lt a (2 ^ 31)) refl alike
  where
    by_test : (t : Bool) → nat_lt a (2 ^ 31) ≡ t → Alike a b → Alike (if t then a else 2 ^ 31) b
    by_test true is (Same same) = Same same
    by_test true is (Many m n) = let lt = ltb-true a (2 ^ 31) is in absurd (omega arith)
    by_test false is (Same same) = let ge = ltb-false a (2 ^ 31) is in Many (omega arith) (omega arith)
    by_test false is (Many m n) = Many (omega arith) n

many_times : (k n : ℕ) → 2 ^ 31 ≤ n → 2 ^ 31 ≤ suc k * n
many_times k n large = grind arith

pub alike_times : (k a b : ℕ) → Alike a b → Alike (k * a) (k * b)
alike_times k a b (Same same) = Same (ap (λ (x : ℕ). k * x) same)
alike_times zero a b (Many m n) = Same (omega arith)
alike_times (suc k) a b (Many m n) = Many (many_times k a m) (many_times k b n)

pub alike_plus : (a b x y : ℕ) → Alike a b → Alike x y → Alike (a + x) (b + y)
alike_plus a b x y (Same p) (Same q) = Same (omega (arith, p, q))
alike_plus a b x y (Same p) (Many m n) = Many (omega (arith, m)) (omega (arith, n))
alike_plus a b x y (Many m n) q = Many (omega (arith, m)) (omega (arith, n))

pub alike_as : (a b c : ℕ) → b ≡ c → Alike a b → Alike a c
alike_as a b c is alike = subst (Alike a) is alike

alike_from : (a b c : ℕ) → a ≡ c → Alike a b → Alike c b
alike_from a b c is alike = subst (λ (x : ℕ). Alike x b) is alike

-- ---- how far ----

-- both come to alike numbers, or to none
abbrev pub IsReach : Try ℕ → Option ℕ → ℕ → Type 0
IsReach (Yields k) (Some far) n = Alike far (n + k)
IsReach (Traps t) None n = t ≡ Subscript
IsReach _ _ n = ⊥

then_reach : (x : Try ℕ) (r : Option ℕ) (a n : ℕ) → IsGiven (then_try x (λ k. Yields (a + k))) → (IsGiven x → IsReach x r (n + a)) → IsReach (then_try x (λ k. Yields (a + k))) r n
then_reach (Yields k) (Some far) a n g h = alike_as far ((n + a) + k) (n + (a + k)) (omega arith) (h tt)
then_reach (Yields k) None a n g h = h tt
then_reach (Traps t) None a n g h = h tt
then_reach (Traps t) (Some far) a n g h = h tt
then_reach Fails r a n g h = absurd g

test_reach : (t : Bool) (x : Try ℕ) (r1 : Reach) (go : Reach → Option ℕ) (a n : ℕ) → IsGiven (if t then then_try x (λ k. Yields (a + k)) else Traps Subscript) → (IsGiven x → IsReach x (go r1) (n + a)) → IsReach (if t then then_try x (λ k. Yields (a + k)) else Traps Subscript) (and_then (if t then Some r1 else None) go) n
test_reach true x r1 go a n g h = then_reach x (go r1) a n g h
test_reach false x r1 go a n g h = refl

pub value_is : (buffer : List Word) (at : ℕ) (z : ℤ) (w : Word) → slice_get buffer at ≡ Some w → Shows (Val (Whole z)) w → value_at buffer at ≡ z
value_is buffer at z w e h = ap (λ x. x.value) (get_or_from_slice_get buffer at w blank e) ∙ h.value

pub reach_is : (buffer : List Word) (count : ℕ) (is' ds : List Content) (r : Reach) (at to m n : ℕ) → length is' ≡ count → length ds ≡ count → Lies Val is' buffer at → Lies Val ds buffer to → IsGiven (distance m is' ds) → Alike r.far n → Alike r.step m → IsReach (distance m is' ds) (reaches r buffer at to count) n
reach_is buffer zero [] [] r at to m n e1 e2 l1 l2 g far step = alike_as r.far n (n + 0) (omega arith) far
reach_is buffer zero (x ∷ is') ds r at to m n e1 e2 l1 l2 g far step = absurd (omega arith)
reach_is buffer zero [] (x ∷ ds) r at to m n e1 e2 l1 l2 g far step = absurd (omega arith)
reach_is buffer (suc count) [] ds r at to m n e1 e2 l1 l2 g far step = absurd (omega arith)
reach_is buffer (suc count) (x ∷ is') [] r at to m n e1 e2 l1 l2 g far step = absurd (omega arith)
reach_is buffer (suc count) (Whole a ∷ is') (Whole d ∷ ds) r at to m n e1 e2 l1 l2 g far step =
    subst (λ z. IsReach (distance m (Whole a ∷ is') (Whole d ∷ ds)) (and_then (advanced r z (value_at buffer to)) (λ r1. reaches r1 buffer (suc at) (suc to) count)) n) (sym (value_is buffer at a l1.0 l1.1 l1.2))
    (subst (λ z. IsReach (distance m (Whole a ∷ is') (Whole d ∷ ds)) (and_then (advanced r a z) (λ r1. reaches r1 buffer (suc at) (suc to) count)) n) (sym (value_is buffer to d l2.0 l2.1 l2.2))
    (test_reach (int_le (pos 1) a && int_le a d) (distance (m * unsigned_abs d) is' ds) next (λ r1. reaches r1 buffer (suc at) (suc to) count) (unsigned_abs (a -ℤ pos 1) * m) n g
    (λ g1. reach_is buffer count is' ds next (suc at) (suc to) (m * unsigned_abs d) (n + unsigned_abs (a -ℤ pos 1) * m) (omega arith) (omega arith) l1.3 l2.3 g1 far_on step_on)))
  where
    next : Reach
    next = record { far = capped (r.far + unsigned_abs (a -ℤ pos 1) * r.step); step = capped (r.step * unsigned_abs d) }

    far_on : Alike (capped (r.far + unsigned_abs (a -ℤ pos 1) * r.step)) (n + unsigned_abs (a -ℤ pos 1) * m)
    far_on = alike_capped (r.far + unsigned_abs (a -ℤ pos 1) * r.step) (n + unsigned_abs (a -ℤ pos 1) * m) (alike_plus r.far n (unsigned_abs (a -ℤ pos 1) * r.step) (unsigned_abs (a -ℤ pos 1) * m) far (alike_times (unsigned_abs (a -ℤ pos 1)) r.step m step))

    step_on : Alike (capped (r.step * unsigned_abs d)) (m * unsigned_abs d)
    step_on =
        alike_capped (r.step * unsigned_abs d) (m * unsigned_abs d)
        (alike_from (unsigned_abs d * r.step) (m * unsigned_abs d) (r.step * unsigned_abs d) (omega arith) (alike_as (unsigned_abs d * r.step) (unsigned_abs d * m) (m * unsigned_abs d) (omega arith) (alike_times (unsigned_abs d) r.step m step)))
reach_is buffer (suc count) (Whole a ∷ is') (Truth b ∷ ds) r at to m n e1 e2 l1 l2 g far step = absurd g
reach_is buffer (suc count) (Whole a ∷ is') (Nothing ∷ ds) r at to m n e1 e2 l1 l2 g far step = absurd g
reach_is buffer (suc count) (Truth b ∷ is') (d ∷ ds) r at to m n e1 e2 l1 l2 g far step = absurd g
reach_is buffer (suc count) (Nothing ∷ is') (d ∷ ds) r at to m n e1 e2 l1 l2 g far step = absurd g

-- ---- one subscript after another ----

reaches_as : (r : Reach) (buffer : List Word) (a b n a1 b1 n1 : ℕ) → a ≡ a1 → b ≡ b1 → n ≡ n1 → reaches r buffer a b n ≡ reaches r buffer a1 b1 n1
reaches_as r buffer a b n a1 b1 n1 e1 e2 e3 = ap (λ x. reaches r buffer x b n) e1 ∙ ap (λ x. reaches r buffer a1 x n) e2 ∙ ap (reaches r buffer a1 b1) e3

module _ (buffer : List Word) (count subscripts sizes : ℕ) where
  pub reach_first : (r : Reach) → reaches r buffer (subscripts + 0) (sizes + 0) (count - 0) ≡ reaches r buffer subscripts sizes count
  reach_first r = reaches_as r buffer (subscripts + 0) (sizes + 0) (count - 0) subscripts sizes count (omega arith) (omega arith) (omega arith)

  module _ (r : Reach) (index : ℕ) (lt : index < count) where
    unfolded : reaches r buffer (subscripts + index) (sizes + index) (count - index) ≡ and_then (advanced r (value_at buffer (subscripts + index)) (value_at buffer (sizes + index))) (λ r1. reaches r1 buffer (suc (subscripts + index)) (suc (sizes + index)) (count - (index + 1)))
    unfolded = reaches_as r buffer (subscripts + index) (sizes + index) (count - index) (subscripts + index) (sizes + index) (suc (count - (index + 1))) refl refl (omega arith)

    pub reach_on : (next : Reach) → Some next ≡ advanced r (value_at buffer (subscripts + index)) (value_at buffer (sizes + index)) → reaches next buffer (subscripts + (index + 1)) (sizes + (index + 1)) (count - (index + 1)) ≡ reaches r buffer (subscripts + index) (sizes + index) (count - index)
    reach_on next e =
        reaches_as next buffer (subscripts + (index + 1)) (sizes + (index + 1)) (count - (index + 1)) (suc (subscripts + index)) (suc (sizes + index)) (count - (index + 1)) (omega arith) (omega arith) refl
        ∙ ap (λ o. and_then o (λ r1. reaches r1 buffer (suc (subscripts + index)) (suc (sizes + index)) (count - (index + 1)))) e ∙ sym unfolded

    pub reach_stops : None ≡ advanced r (value_at buffer (subscripts + index)) (value_at buffer (sizes + index)) → None ≡ reaches r buffer (subscripts + index) (sizes + index) (count - index)
    reach_stops e = ap (λ o. and_then o (λ r1. reaches r1 buffer (suc (subscripts + index)) (suc (sizes + index)) (count - (index + 1)))) e ∙ sym unfolded

  pub reach_ends : (r : Reach) (index : ℕ) → count ≤ index → Some r.far ≡ reaches r buffer (subscripts + index) (sizes + index) (count - index)
  reach_ends r index le = sym (reaches_as r buffer (subscripts + index) (sizes + index) (count - index) (subscripts + index) (sizes + index) 0 refl refl (omega arith))
