-- Operators with two values.
use Rattle.std.proofs.Common.{◌≡◌, ℕ, zero, suc, ◌+◌, ◌-◌, ◌≤◌, Bool, true, false, List, ◌∷◌, length, get_or, refl, sym, ap, ◌∙◌, subst, arith}
use Rattle.std.specs.Prelude.{Result, Ok, Err, Some, ℤ, pos, negsuc, IfOk, nat_le, unsigned_abs, if◌then◌else◌, int_div}
use Rattle.std.specs.Int.{int_pow}
use Rattle.std.proofs.lemmas.Bool.{leb-true, true≢false}
use Rattle.ground.specs.declared.trap.Trap.{Trap}
use Rattle.ground.specs.declared.trap.Trap.TheVariants.{Overflow}
use Rattle.ground.specs.Arithmetic.{IsInRange, in_range, quotient, power, greatest}
use Rattle.ground.specs.Content.{Content, Nothing, Whole, Truth}
use Rattle.f66_tree.specs.declared.expression.Operator.{Operator}
use Rattle.f66_tree.specs.declared.expression.Operator.TheVariants.{Add, Sub, Mul, Div, Power, Lt, Le, Eq, Ne, Ge, Gt, And, Or}
use Rattle.f66_tree.specs.Fields.{Fields}
use Rattle.f66_tree.specs.World.{World, Trapped, Ended, Halts, Fails}
use Rattle.f66_tree.specs.Evaluation.{operate, on_truth, on_whole, whole}
use Rattle.stack_code.specs.Instructions as i
use Rattle.stack_code.specs.StackMachine.{Entry, Val, Core, on_value, pushed, act}
use Rattle.stack_code.specs.Safety.{IsRight}
use Rattle.runner.specs.declared.words.Word.{Word}
use Rattle.runner.specs.Words.{Shows, Stand, IsMade, blank, pile_of}
use Rattle.runner.specs.Subscripted.{integer_word}
use Rattle.runner.specs.Work.{IsGiven, is_arithmetic, AreOperands, MayWork, GoesTo, IsFine}
use Rattle.runner.proofs.Piles.{pile_second}
use Rattle.runner.proofs.Tops.{tall, given_of, TwoValues, two_values, pushed_made, pushed_trap}

pub small_result : (z : ℤ) → IfOk (in_range z) IsInRange
small_result z = by (nat_le (unsigned_abs z) greatest) refl
  where
    by : (t : Bool) → nat_le (unsigned_abs z) greatest ≡ t → IfOk (if t then Ok z else Err Overflow) IsInRange
    by true h = record { magnitude = leb-true _ _ h }
    by false h = tt

pub small_quotient : (a b : ℤ) → IfOk (quotient a b) IsInRange
small_quotient a (pos zero) = tt
small_quotient a (pos (suc n)) = small_result (int_div a (pos (suc n)))
small_quotient a (negsuc n) = small_result (int_div a (negsuc n))

pub small_power : (a b : ℤ) → IfOk (power a b) IsInRange
small_power (pos zero) (pos zero) = tt
small_power (pos zero) (pos (suc n)) = small_result (int_pow (pos zero) (suc n))
small_power (pos (suc m)) (pos n) = small_result (int_pow (pos (suc m)) n)
small_power (negsuc m) (pos n) = small_result (int_pow (negsuc m) n)
small_power (pos zero) (negsuc n) = tt
small_power (pos (suc m)) (negsuc n) = tt
small_power (negsuc m) (negsuc n) = tt

both_values : (P : Core → Type 0) (plans : List Fields) (op : Operator) (s : Core) (w : World) → IsRight P (act plans (Some (i.Both op)) s w) → TwoValues s.stack
both_values P plans op s w h = two_values P w s.stack (λ b a below. pushed s below w (operate op a b)) h

both_is : (plans : List Fields) (op : Operator) (s : Core) (w : World) (t : TwoValues s.stack) → act plans (Some (i.Both op)) s w ≡ pushed s t.below w (operate op t.a t.b)
both_is plans op s w t = ap (λ es. on_value w es (λ b rest. on_value w rest (λ a below. pushed s below w (operate op a b)))) t.is

both_given : (P : Core → Type 0) (plans : List Fields) (op : Operator) (s : Core) (w : World) (t : TwoValues s.stack) → IsRight P (act plans (Some (i.Both op)) s w) → IsGiven (operate op t.a t.b)
both_given P plans op s w t h = given_of P s t.below w (operate op t.a t.b) (subst (IsRight P) (both_is plans op s w t) h)

two_stand : (es : List Entry) (t : TwoValues es) (pile below : List Word) (x y : Word) → Stand es pile → pile ≡ y ∷ x ∷ below → Stand (Val t.b ∷ Val t.a ∷ t.below) (y ∷ x ∷ below)
two_stand es t pile below x y h e = subst (λ l. Stand l (y ∷ x ∷ below)) t.is (subst (Stand es) e h)

pub both_tall : (op : Operator) (buffer : List Word) (top : ℕ) → MayWork (i.Both op) buffer top → 2 ≤ top
both_tall op buffer top m =
    let t = both_values _ m.plans op m.core m.world m.right in
    let e = ap length t.is in
    let h = tall (i.Both op) buffer top m in
    omega arith

pub both_operands : (op : Operator) (buffer : List Word) (top : ℕ) (below : List Word) (x y : Word) → MayWork (i.Both op) buffer top → pile_of buffer top ≡ y ∷ x ∷ below → AreOperands op x y
both_operands op buffer top below x y m e =
    let t = both_values _ m.plans op m.core m.world m.right in
    let g = two_stand m.core.stack t (pile_of buffer top) below x y m.stand e in
    record { a = t.a; b = t.b; first = g.1.0; second = g.0; given = both_given _ m.plans op m.core m.world t m.right }

module _ (op : Operator) (pile below : List Word) (x y : Word) (e : pile ≡ y ∷ x ∷ below) (plans : List Fields) (s : Core) (w : World) (st : Stand s.stack pile) (fine : IsFine (act plans (Some (i.Both op)) s w)) where
  pub both_works : (made : Word) (piled : List Word) → ((a b : Content) → Shows (Val a) x → Shows (Val b) y → IsGiven (operate op a b) → IsMade (operate op a b) (Ok made)) → piled ≡ made ∷ below → GoesTo (act plans (Some (i.Both op)) s w) s w (s.pc + 1) piled
  both_works made piled m e1 =
      let t = both_values _ plans op s w fine in
      let g = two_stand s.stack t pile below x y st e in
      let h = m t.a t.b g.1.0 g.0 (both_given _ plans op s w t fine) in
      subst (λ o. GoesTo o s w (s.pc + 1) piled) (sym (both_is plans op s w t)) (pushed_made s t.below w (operate op t.a t.b) made below piled h g.1.1 e1)

  pub both_traps : (trap : Trap) → ((a b : Content) → Shows (Val a) x → Shows (Val b) y → IsGiven (operate op a b) → IsMade (operate op a b) (Err trap)) → act plans (Some (i.Both op)) s w ≡ Halts (Ended (Trapped trap s.frame.place)) w
  both_traps trap m =
      let t = both_values _ plans op s w fine in
      let g = two_stand s.stack t pile below x y st e in
      let h = m t.a t.b g.1.0 g.0 (both_given _ plans op s w t fine) in
      both_is plans op s w t ∙ pushed_trap s t.below w (operate op t.a t.b) trap h

-- ---- what two operands are ----

-- two integers
pub record TwoIntegers (op : Operator) (x y : Word) : Type 0 where
  pub first : IsInRange x.value
  pub second : IsInRange y.value
  pub given : IsGiven (on_whole op x.value y.value)
  pub behind : x.behind ≡ 0

pub record TwoTruths (x y : Word) : Type 0 where
  pub a : Bool
  pub b : Bool

pub integers : (op : Operator) (x y : Word) (a b : Content) → ((c d : Bool) → on_truth op c d ≡ Fails) → Shows (Val a) x → Shows (Val b) y → IsGiven (operate op a b) → TwoIntegers op x y
integers op x y (Whole a) (Whole b) bad h k g =
    record { first = subst IsInRange (sym h.value) h.small; second = subst IsInRange (sym k.value) k.small; given = subst (λ n. IsGiven (on_whole op n y.value)) (sym h.value) (subst (λ n. IsGiven (on_whole op a n)) (sym k.value) g); behind = h.behind }
integers op x y (Truth a) (Truth b) bad h k g = absurd (subst IsGiven (bad a b) g)
integers op x y (Whole a) (Truth b) bad h k g = absurd g
integers op x y (Truth a) (Whole b) bad h k g = absurd g
integers op x y Nothing b bad h k g = absurd h
integers op x y (Whole a) Nothing bad h k g = absurd k
integers op x y (Truth a) Nothing bad h k g = absurd k

pub integers_made : (op : Operator) (x y : Word) (r : Result Word Trap) (a b : Content) → ((c d : Bool) → on_truth op c d ≡ Fails) → IsMade (on_whole op x.value y.value) r → Shows (Val a) x → Shows (Val b) y → IsGiven (operate op a b) → IsMade (operate op a b) r
integers_made op x y r (Whole a) (Whole b) bad m h k g = subst (λ n. IsMade (on_whole op n b) r) h.value (subst (λ n. IsMade (on_whole op x.value n) r) k.value m)
integers_made op x y r (Truth a) (Truth b) bad m h k g = absurd (subst IsGiven (bad a b) g)
integers_made op x y r (Whole a) (Truth b) bad m h k g = absurd g
integers_made op x y r (Truth a) (Whole b) bad m h k g = absurd g
integers_made op x y r Nothing b bad m h k g = absurd h
integers_made op x y r (Whole a) Nothing bad m h k g = absurd k
integers_made op x y r (Truth a) Nothing bad m h k g = absurd k

-- ---- operators that make an integer ----

no_truth : (op : Operator) → is_arithmetic op ≡ true → (c d : Bool) → on_truth op c d ≡ Fails
no_truth Add k c d = refl
no_truth Sub k c d = refl
no_truth Mul k c d = refl
no_truth Div k c d = refl
no_truth Power k c d = refl
no_truth Lt k c d = refl
no_truth Le k c d = refl
no_truth Eq k c d = refl
no_truth Ne k c d = refl
no_truth Ge k c d = refl
no_truth Gt k c d = refl
no_truth And k c d = absurd (true≢false (sym k))
no_truth Or k c d = absurd (true≢false (sym k))

module _ (op : Operator) (kind : is_arithmetic op ≡ true) (buffer : List Word) (top : ℕ) (below : List Word) (x y : Word) (e : pile_of buffer top ≡ y ∷ x ∷ below) where
  pub arithmetic_operands : MayWork (i.Both op) buffer top → TwoIntegers op x y
  arithmetic_operands m =
      let o = both_operands op buffer top below x y m e in
      integers op x y o.a o.b (no_truth op kind) o.first o.second o.given

  -- nothing is behind the first value
  pub arithmetic_under : MayWork (i.Both op) buffer top → (get_or buffer (top - 2) blank).behind ≡ 0
  arithmetic_under m =
      let t = arithmetic_operands m in
      ap (λ w. w.behind) (pile_second buffer top x y below (both_tall op buffer top m) m.within e) ∙ t.behind

  pub arithmetic_works : (plans : List Fields) (s : Core) (w : World) → Stand s.stack (pile_of buffer top) → IsFine (act plans (Some (i.Both op)) s w) → (z : ℤ) (piled : List Word) → whole (Ok z) ≡ on_whole op x.value y.value → IsInRange z → piled ≡ integer_word z ∷ below → GoesTo (act plans (Some (i.Both op)) s w) s w (s.pc + 1) piled
  arithmetic_works plans s w st fine z piled is small e1 =
      both_works op (pile_of buffer top) below x y e plans s w st fine (integer_word z) piled
      (λ a b h k g. integers_made op x y (Ok (integer_word z)) a b (no_truth op kind) (subst (λ t. IsMade t (Ok (integer_word z))) is (record { value = refl; behind = refl; small = small })) h k g) e1
