-- What intrinsic functions do.
use Rattle.std.proofs.Common.{◌≡◌, ℕ, zero, suc, ◌+◌, ◌-◌, ◌≤◌, ◌<◌, Bool, true, false, List, [], ◌∷◌, length, get_or, nat_eq, Some, refl, sym, ap, ◌∙◌, subst, arith}
use Rattle.std.specs.Prelude.{ℤ, pos, negsuc, unsigned_abs, int_rem, IfOk, Ok, Err, Result, if◌then◌else◌}
use Rattle.std.proofs.lemmas.Bool.{true≢false, eqb-true, leb-true}
use Rattle.ground.specs.declared.trap.Trap.{Trap}
use Rattle.ground.specs.Arithmetic.{IsInRange, remainder}
use Rattle.ground.specs.Content.{Content, Nothing, Whole, Truth}
use Rattle.f66_tree.specs.Fields.{Fields}
use Rattle.f66_tree.specs.World.{World, Trapped, Ended, Out, Halts, Yields}
use Rattle.f66_tree.specs.Evaluation.{Iabs, Mod, Isign, Idim, intrinsic, farthest, excess}
use Rattle.stack_code.specs.Instructions as i
use Rattle.stack_code.specs.StackMachine.{Entry, Val, Core, pushed, known, intrinsic_by, act}
use Rattle.stack_code.specs.Safety.{IsRight}
use Rattle.stack_code.specs.ValidCode.{takes}
use Rattle.runner.specs.declared.words.Word.{Word}
use Rattle.runner.specs.Words.{Stand, Lies, IsMade, IsWholeWord, blank, pile_of}
use Rattle.runner.specs.Work.{IsGiven, GoesTo}
use Rattle.runner.specs.Reaching.{value_at}
use Rattle.runner.specs.Arguments.{AreArguments, beats, better, extreme, few_of}
use Rattle.runner.proofs.Tops.{given_of, pushed_made, pushed_trap}
use Rattle.runner.proofs.Operators.{small_result}
use Rattle.runner.proofs.Takes.{Taken, taken_values}
use Rattle.runner.proofs.Reached.{value_is}

pub small_remainder : (a b : ℤ) → IfOk (remainder a b) IsInRange
small_remainder a (pos zero) = tt
small_remainder a (pos (suc n)) = small_result (int_rem a (pos (suc n)))
small_remainder a (negsuc n) = small_result (int_rem a (negsuc n))

-- ---- one argument or two ----

pub few_last : (f : ℕ) (a b : ℤ) → f ≤ 3 → (f ≡ 0 → ⊥) → (f ≡ 1 → ⊥) → (f ≡ 2 → ⊥) → few_of f a b ≡ excess a b
few_last zero a b le x y z = absurd (x refl)
few_last (suc zero) a b le x y z = absurd (y refl)
few_last (suc (suc zero)) a b le x y z = absurd (z refl)
few_last (suc (suc (suc f))) a b le x y z = refl

whole_at : (buffer : List Word) (low : ℕ) (z : ℤ) (rest : List Content) (l : Lies Val (Whole z ∷ rest) buffer low) → value_at buffer low ≡ z
whole_at buffer low z rest l = value_is buffer low z l.0 l.1 l.2

range_at : (buffer : List Word) (low : ℕ) (z : ℤ) (rest : List Content) → Lies Val (Whole z ∷ rest) buffer low → IsInRange (value_at buffer low)
range_at buffer low z rest l = subst IsInRange (sym (whole_at buffer low z rest l)) l.2.small

pub record AreFew (f count : ℕ) (vs : List Content) (buffer : List Word) (low : ℕ) : Type 0 where
  pub is : intrinsic_by (known f) vs ≡ few_of f (value_at buffer low) (value_at buffer ((low + count) - 1))
  pub first : IsInRange (value_at buffer low)
  pub last : IsInRange (value_at buffer ((low + count) - 1))

module _ (buffer : List Word) (low : ℕ) where
  one_few : (count : ℕ) (vs : List Content) → count ≡ 1 → Lies Val vs buffer low → length vs ≡ count → IsGiven (intrinsic Iabs vs) → AreFew 0 count vs buffer low
  one_few count [] e l long g = absurd g
  one_few count (Truth b ∷ vs) e l long g = absurd g
  one_few count (Nothing ∷ vs) e l long g = absurd g
  one_few count (Whole a ∷ (v ∷ vs)) e l long g = absurd (omega arith)
  one_few count (Whole a ∷ []) e l long g =
      let same : low ≡ (low + count) - 1 = omega arith in
      record { is = ap (λ z. Yields (Whole (pos (unsigned_abs z)))) (sym (whole_at buffer low a [] l)); first = range_at buffer low a [] l; last = subst (λ n. IsInRange (value_at buffer n)) same (range_at buffer low a [] l) }

  -- two integers
  record Two (vs : List Content) : Type 0 where
    a : ℤ
    b : ℤ
    is : vs ≡ Whole a ∷ Whole b ∷ []

  mod_two : (a b : Content) → IsGiven (intrinsic Mod (a ∷ b ∷ [])) → Two (a ∷ b ∷ [])
  mod_two (Whole a) (Whole b) h = record { a = a; b = b; is = refl }
  mod_two (Whole a) (Truth b) h = absurd h
  mod_two (Whole a) Nothing h = absurd h
  mod_two (Truth a) b h = absurd h
  mod_two Nothing b h = absurd h

  sign_two : (a b : Content) → IsGiven (intrinsic Isign (a ∷ b ∷ [])) → Two (a ∷ b ∷ [])
  sign_two (Whole a) (Whole b) h = record { a = a; b = b; is = refl }
  sign_two (Whole a) (Truth b) h = absurd h
  sign_two (Whole a) Nothing h = absurd h
  sign_two (Truth a) b h = absurd h
  sign_two Nothing b h = absurd h

  dim_two : (a b : Content) → IsGiven (intrinsic Idim (a ∷ b ∷ [])) → Two (a ∷ b ∷ [])
  dim_two (Whole a) (Whole b) h = record { a = a; b = b; is = refl }
  dim_two (Whole a) (Truth b) h = absurd h
  dim_two (Whole a) Nothing h = absurd h
  dim_two (Truth a) b h = absurd h
  dim_two Nothing b h = absurd h

  two_few : (f count : ℕ) (vs : List Content) → count ≡ 2 → Lies Val vs buffer low → Two vs → ((a b : ℤ) → intrinsic_by (known f) (Whole a ∷ Whole b ∷ []) ≡ few_of f a b) → AreFew f count vs buffer low
  two_few f count vs e l t same =
      let k : Lies Val (Whole t.a ∷ Whole t.b ∷ []) buffer low = subst (λ x. Lies Val x buffer low) t.is l in
      let at : suc low ≡ (low + count) - 1 = omega arith in
      let one = whole_at buffer low t.a (Whole t.b ∷ []) k in
      let two = whole_at buffer (suc low) t.b [] k.3 in
      record {
        is = ap (intrinsic_by (known f)) t.is ∙ same t.a t.b ∙ ap (λ z. few_of f z t.b) (sym one) ∙ ap (few_of f (value_at buffer low)) (sym two) ∙ ap (λ n. few_of f (value_at buffer low) (value_at buffer n)) at;
        first = range_at buffer low t.a (Whole t.b ∷ []) k;
        last = subst (λ n. IsInRange (value_at buffer n)) at (range_at buffer (suc low) t.b [] k.3);
      }

  -- as many as there are
  by_two : (count : ℕ) (vs : List Content) → count ≡ 2 → length vs ≡ count → ((a b : Content) → vs ≡ a ∷ b ∷ [] → Two (a ∷ b ∷ [])) → Two vs
  by_two count [] e long f = absurd (omega arith)
  by_two count (a ∷ []) e long f = absurd (omega arith)
  by_two count (a ∷ (b ∷ [])) e long f = f a b refl
  by_two count (a ∷ (b ∷ (c ∷ vs))) e long f = absurd (omega arith)

  pub are_few : (f count : ℕ) (vs : List Content) → takes f count ≡ true → f ≤ 3 → Lies Val vs buffer low → length vs ≡ count → IsGiven (intrinsic_by (known f) vs) → AreFew f count vs buffer low
  are_few zero count vs t le l long g = one_few count vs (eqb-true count 1 t) l long g
  are_few (suc zero) count vs t le l long g = let e = eqb-true count 2 t in two_few 1 count vs e l (by_two count vs e long (λ a b is. mod_two a b (subst (λ x. IsGiven (intrinsic Mod x)) is g))) (λ a b. refl)
  are_few (suc (suc zero)) count vs t le l long g = let e = eqb-true count 2 t in two_few 2 count vs e l (by_two count vs e long (λ a b is. sign_two a b (subst (λ x. IsGiven (intrinsic Isign x)) is g))) (λ a b. refl)
  are_few (suc (suc (suc zero))) count vs t le l long g = let e = eqb-true count 2 t in two_few 3 count vs e l (by_two count vs e long (λ a b is. dim_two a b (subst (λ x. IsGiven (intrinsic Idim x)) is g))) (λ a b. refl)
  are_few (suc (suc (suc (suc f)))) count vs t le l long g = absurd (omega arith)

-- ---- the greatest and the smallest ----

module _ (greatest : Bool) (buffer : List Word) where
  test_far : (t : Bool) (a b : ℤ) (vs : List Content) (r : ℤ → ℤ) → (IsGiven (farthest (beats greatest) b vs) → farthest (beats greatest) b vs ≡ Yields (Whole (r b))) → (IsGiven (farthest (beats greatest) a vs) → farthest (beats greatest) a vs ≡ Yields (Whole (r a))) → IsGiven (if t then farthest (beats greatest) b vs else farthest (beats greatest) a vs) → (if t then farthest (beats greatest) b vs else farthest (beats greatest) a vs) ≡ Yields (Whole (r (if t then b else a)))
  test_far true a b vs r h k g = h g
  test_far false a b vs r h k g = k g

  pub farthest_is : (vs : List Content) (a : ℤ) (at n : ℕ) → Lies Val vs buffer at → length vs ≡ n → IsGiven (farthest (beats greatest) a vs) → farthest (beats greatest) a vs ≡ Yields (Whole (extreme greatest a buffer at n))
  farthest_is [] a at zero l long g = refl
  farthest_is [] a at (suc n) l long g = absurd (omega arith)
  farthest_is (v ∷ vs) a at zero l long g = absurd (omega arith)
  farthest_is (Truth b ∷ vs) a at (suc n) l long g = absurd g
  farthest_is (Nothing ∷ vs) a at (suc n) l long g = absurd g
  farthest_is (Whole b ∷ vs) a at (suc n) l long g =
      test_far (beats greatest b a) a b vs (λ z. extreme greatest z buffer (suc at) n) (λ h. farthest_is vs b (suc at) n l.3 (omega arith) h) (λ h. farthest_is vs a (suc at) n l.3 (omega arith) h) g
      ∙ ap (λ z. Yields (Whole (extreme greatest (better greatest a z) buffer (suc at) n))) (sym (whole_at buffer at b vs l))

  better_small : (a b : ℤ) (t : Bool) → IsInRange a → IsInRange b → IsInRange (if t then b else a)
  better_small a b true h k = k
  better_small a b false h k = h

  pub extreme_small : (vs : List Content) (a : ℤ) (at n : ℕ) → Lies Val vs buffer at → length vs ≡ n → IsGiven (farthest (beats greatest) a vs) → IsInRange a → IsInRange (extreme greatest a buffer at n)
  extreme_small [] a at zero l long g h = h
  extreme_small [] a at (suc n) l long g h = absurd (omega arith)
  extreme_small (v ∷ vs) a at zero l long g h = absurd (omega arith)
  extreme_small (Truth b ∷ vs) a at (suc n) l long g h = absurd g
  extreme_small (Nothing ∷ vs) a at (suc n) l long g h = absurd g
  extreme_small (Whole b ∷ vs) a at (suc n) l long g h =
      extreme_small vs (better greatest a (value_at buffer at)) (suc at) n l.3 (omega arith) (subst (λ z. IsGiven (farthest (beats greatest) (better greatest a z) vs)) (sym (whole_at buffer at b vs l)) (chosen (beats greatest b a) g)) (better_small a (value_at buffer at) (beats greatest (value_at buffer at) a) h (range_at buffer at b vs l))
    where
      chosen : (t : Bool) → IsGiven (if t then farthest (beats greatest) b vs else farthest (beats greatest) a vs) → IsGiven (farthest (beats greatest) (if t then b else a) vs)
      chosen true k = k
      chosen false k = k

extreme_as : (greatest : Bool) (best : ℤ) (buffer : List Word) (a n a1 n1 : ℕ) → a ≡ a1 → n ≡ n1 → extreme greatest best buffer a n ≡ extreme greatest best buffer a1 n1
extreme_as greatest best buffer a n a1 n1 e1 e2 = ap (λ x. extreme greatest best buffer x n) e1 ∙ ap (extreme greatest best buffer a1) e2

module _ (greatest : Bool) (buffer : List Word) (at count : ℕ) where
  pub extreme_first : (best : ℤ) → extreme greatest best buffer (at + 0) (count - 0) ≡ extreme greatest best buffer at count
  extreme_first best = extreme_as greatest best buffer (at + 0) (count - 0) at count (omega arith) (omega arith)

  pub extreme_on : (best next : ℤ) (index : ℕ) → index < count → next ≡ better greatest best (value_at buffer (at + index)) → extreme greatest next buffer (at + (index + 1)) (count - (index + 1)) ≡ extreme greatest best buffer (at + index) (count - index)
  extreme_on best next index lt e =
      ap (λ z. extreme greatest z buffer (at + (index + 1)) (count - (index + 1))) e
      ∙ extreme_as greatest (better greatest best (value_at buffer (at + index))) buffer (at + (index + 1)) (count - (index + 1)) (suc (at + index)) (count - (index + 1)) (omega arith) refl
      ∙ sym (extreme_as greatest best buffer (at + index) (count - index) (at + index) (suc (count - (index + 1))) refl (omega arith))

  pub extreme_ends : (best : ℤ) (index : ℕ) → count ≤ index → best ≡ extreme greatest best buffer (at + index) (count - index)
  extreme_ends best index le = sym (extreme_as greatest best buffer (at + index) (count - index) (at + index) 0 refl (omega arith))

pub record AreMany (f count : ℕ) (greatest : Bool) (vs : List Content) (buffer : List Word) (low : ℕ) : Type 0 where
  pub is : intrinsic_by (known f) vs ≡ Yields (Whole (extreme greatest (value_at buffer low) buffer (low + 1) (count - 1)))
  pub small : IsInRange (extreme greatest (value_at buffer low) buffer (low + 1) (count - 1))

module _ (greatest : Bool) (buffer : List Word) (low count : ℕ) (f : ℕ) (a : ℤ) (vs : List Content) (same : intrinsic_by (known f) (Whole a ∷ vs) ≡ farthest (beats greatest) a vs) (l : Lies Val (Whole a ∷ vs) buffer low) (long : length (Whole a ∷ vs) ≡ count) (g : IsGiven (intrinsic_by (known f) (Whole a ∷ vs))) where
  given : IsGiven (farthest (beats greatest) a vs)
  given = subst IsGiven same g

  first : value_at buffer low ≡ a
  first = whole_at buffer low a vs l

  by_first : AreMany f count greatest (Whole a ∷ vs) buffer low
  by_first =
      let at : suc low ≡ low + 1 = omega arith in
      let rest : length vs ≡ count - 1 = omega arith in
      record {
        is = same ∙ farthest_is greatest buffer vs a (suc low) (count - 1) l.3 rest given ∙ ap (λ z. Yields (Whole (extreme greatest z buffer (suc low) (count - 1)))) (sym first) ∙ ap (λ n. Yields (Whole (extreme greatest (value_at buffer low) buffer n (count - 1)))) at;
        small = subst (λ n. IsInRange (extreme greatest (value_at buffer low) buffer n (count - 1))) at (subst (λ z. IsInRange (extreme greatest z buffer (suc low) (count - 1))) (sym first) (extreme_small greatest buffer vs a (suc low) (count - 1) l.3 rest given (subst IsInRange first (range_at buffer low a vs l))));
      }

pub max_many : (buffer : List Word) (low count : ℕ) (vs : List Content) → Lies Val vs buffer low → length vs ≡ count → IsGiven (intrinsic_by (known 4) vs) → AreMany 4 count true vs buffer low
max_many buffer low count [] l long g = absurd g
max_many buffer low count (Truth b ∷ vs) l long g = absurd g
max_many buffer low count (Nothing ∷ vs) l long g = absurd g
max_many buffer low count (Whole a ∷ vs) l long g = by_first true buffer low count 4 a vs refl l long g

pub min_many : (buffer : List Word) (low count : ℕ) (vs : List Content) → Lies Val vs buffer low → length vs ≡ count → IsGiven (intrinsic_by (known 5) vs) → AreMany 5 count false vs buffer low
min_many buffer low count [] l long g = absurd g
min_many buffer low count (Truth b ∷ vs) l long g = absurd g
min_many buffer low count (Nothing ∷ vs) l long g = absurd g
min_many buffer low count (Whole a ∷ vs) l long g = by_first false buffer low count 5 a vs refl l long g

-- what is made of words that lie there
pub few_made : (f count : ℕ) (vs : List Content) (buffer : List Word) (low : ℕ) → AreFew f count vs buffer low → (x y : Word) → x ≡ get_or buffer low blank → y ≡ get_or buffer ((low + count) - 1) blank → (r : Result Word Trap) → IsMade (few_of f x.value y.value) r → IsMade (intrinsic_by (known f) vs) r
few_made f count vs buffer low k x y e1 e2 r m =
    subst (λ t. IsMade t r) (ap (λ w. few_of f w.value y.value) e1 ∙ ap (λ w. few_of f (value_at buffer low) w.value) e2 ∙ sym k.is) m

-- the greatest by number 4, the smallest by number 5
pub are_many : (f count : ℕ) (vs : List Content) (buffer : List Word) (low : ℕ) → takes f count ≡ true → 3 < f → Lies Val vs buffer low → length vs ≡ count → IsGiven (intrinsic_by (known f) vs) → AreMany f count (nat_eq f 4) vs buffer low
are_many zero count vs buffer low t more l long g = absurd (omega arith)
are_many (suc zero) count vs buffer low t more l long g = absurd (omega arith)
are_many (suc (suc zero)) count vs buffer low t more l long g = absurd (omega arith)
are_many (suc (suc (suc zero))) count vs buffer low t more l long g = absurd (omega arith)
are_many (suc (suc (suc (suc zero)))) count vs buffer low t more l long g = max_many buffer low count vs l long g
are_many (suc (suc (suc (suc (suc zero))))) count vs buffer low t more l long g = min_many buffer low count vs l long g
are_many (suc (suc (suc (suc (suc (suc f)))))) count vs buffer low t more l long g = absurd (true≢false (sym t))

module _ (f count : ℕ) (vs : List Content) (buffer : List Word) (low : ℕ) (greatest : Bool) (k : AreMany f count greatest vs buffer low) (first best : Word) (e : first ≡ get_or buffer low blank) (is : best.value ≡ extreme greatest first.value buffer (low + 1) (count - 1)) where
  best_is : best.value ≡ extreme greatest (value_at buffer low) buffer (low + 1) (count - 1)
  best_is = is ∙ ap (λ w. extreme greatest w.value buffer (low + 1) (count - 1)) e

  pub best_small : IsInRange best.value
  best_small = subst IsInRange (sym best_is) k.small

  pub best_made : (made : Word) → IsWholeWord best.value made → IsMade (intrinsic_by (known f) vs) (Ok made)
  best_made made h = subst (λ t. IsMade t (Ok made)) (ap (λ z. Yields (Whole z)) best_is ∙ sym k.is) h

-- it takes one at least
pub takes_some : (f n : ℕ) → takes f n ≡ true → 1 ≤ n
takes_some zero n t = let e = eqb-true n 1 t in omega arith
takes_some (suc zero) n t = let e = eqb-true n 2 t in omega arith
takes_some (suc (suc zero)) n t = let e = eqb-true n 2 t in omega arith
takes_some (suc (suc (suc zero))) n t = let e = eqb-true n 2 t in omega arith
takes_some (suc (suc (suc (suc zero)))) n t = let e = leb-true 2 n t in omega arith
takes_some (suc (suc (suc (suc (suc zero))))) n t = let e = leb-true 2 n t in omega arith
takes_some (suc (suc (suc (suc (suc (suc f)))))) n t = absurd (true≢false (sym t))

-- ---- the instruction ----

module _ (f n : ℕ) (buffer : List Word) (top : ℕ) (le : top ≤ length buffer) (P : Core → Type 0) (plans : List Fields) (s : Core) (w : World) (st : Stand s.stack (pile_of buffer top)) (h : IsRight P (act plans (Some (i.Known f n)) s w)) where
  abbrev pushing : List Content → List Entry → Out Core
  pushing vs rest = pushed s rest w (intrinsic_by (known f) vs)

  values : Taken Val (act plans (Some (i.Known f n)) s w) pushing buffer n 0 top s.stack
  values = taken_values buffer P w n 0 s.stack [] pushing top le refl st tt h

  values_given : IsGiven (intrinsic_by (known f) values.got)
  values_given = given_of P s values.rest w (intrinsic_by (known f) values.got) (subst (IsRight P) values.is h)

  pub known_tall : n ≤ top
  known_tall = let u = values.under in omega arith

  low_is : values.low ≡ top - n
  low_is = let u = values.under in omega arith

  values_lie : Lies Val values.got buffer (top - n)
  values_lie = subst (Lies Val values.got buffer) low_is values.lies

  values_long : length values.got ≡ n
  values_long = let l = values.long in omega arith

  pub known_arguments : AreArguments f buffer (top - n) n
  known_arguments = record { vs = values.got; lies = values_lie; long = values_long; given = values_given }

  module _ (r : Result Word Trap) (m : (vs : List Content) → Lies Val vs buffer (top - n) → length vs ≡ n → IsGiven (intrinsic_by (known f) vs) → IsMade (intrinsic_by (known f) vs) r) where
    known_made : IsMade (intrinsic_by (known f) values.got) r
    known_made = m values.got values_lie values_long values_given

    pub known_traps : (trap : Trap) → r ≡ Err trap → act plans (Some (i.Known f n)) s w ≡ Halts (Ended (Trapped trap s.frame.place)) w
    known_traps trap e = values.is ∙ pushed_trap s values.rest w (intrinsic_by (known f) values.got) trap (subst (IsMade (intrinsic_by (known f) values.got)) e known_made)

    pub known_works : (made : Word) (piled : List Word) → r ≡ Ok made → piled ≡ made ∷ pile_of buffer (top - n) → GoesTo (act plans (Some (i.Known f n)) s w) s w (s.pc + 1) piled
    known_works made piled e e1 =
        subst (λ o. GoesTo o s w (s.pc + 1) piled) (sym values.is) (pushed_made s values.rest w (intrinsic_by (known f) values.got) made (pile_of buffer (top - n)) piled (subst (IsMade (intrinsic_by (known f) values.got)) e known_made) (subst (λ x. Stand values.rest (pile_of buffer x)) low_is values.stand) e1)
