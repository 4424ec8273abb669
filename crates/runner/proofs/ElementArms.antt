-- What the element of an array is.
use Rattle.std.proofs.Common.{◌≡◌, ℕ, zero, suc, ◌+◌, ◌-◌, ◌^◌, ◌≤◌, ◌<◌, Bool, true, false, List, [], ◌∷◌, length, Some, None, refl, sym, ap, ◌∙◌, subst, arith}
use Rattle.std.specs.Prelude.{pos, nat_lt, if◌then◌else◌}
use Rattle.std.proofs.lemmas.Bool.{ltb-true, ltb-false}
use Rattle.ground.specs.declared.trap.Trap.TheVariants.{Subscript}
use Rattle.ground.specs.Content.{Content}
use Rattle.f66_tree.specs.Fields.{Fields}
use Rattle.f66_tree.specs.World.{World, Trapped, Ended, Out, Halts, Try, Yields, Traps, Fails, then_try}
use Rattle.f66_tree.specs.Evaluation.{distance}
use Rattle.stack_code.specs.Instructions as i
use Rattle.stack_code.specs.StackMachine.{Spot, Entry, Val, At, Core, on_spot, take_values, pushed_spot, shift, unit_of, act}
use Rattle.stack_code.specs.Safety.{IsRight}
use Rattle.runner.specs.declared.words.Word.{Word}
use Rattle.runner.specs.Words.{Shows, Stand, IsSpotWord, Lies, pile_of}
use Rattle.runner.specs.Work.{IsGiven, GoesTo}
use Rattle.runner.specs.Reaching.{reaches, at_first, Alike, Same, Many, IsShifted}
use Rattle.runner.proofs.Tops.{spot_given, one_spot}
use Rattle.runner.proofs.Cells.{same_pos}
use Rattle.runner.proofs.Reached.{IsReach, alike_as, reach_is}
use Rattle.runner.proofs.Takes.{taken_values}

-- ---- the spot so many places on ----

abbrev on : Spot → ℕ → Spot
on p n = record { first = p.first; size = p.size; position = p.position + n; fixed = p.fixed }

shift_true : (p : Spot) (n : ℕ) → p.position + n < p.size → shift p n ≡ Yields (on p n)
shift_true p n lt = by (nat_lt (p.position + n) p.size) refl
  where
    by : (t : Bool) → nat_lt (p.position + n) p.size ≡ t → (if t then Yields (on p n) else Traps Subscript) ≡ Yields (on p n)
    by true e = refl
    by false e = let ge = ltb-false (p.position + n) p.size e in absurd (omega arith)

shift_false : (p : Spot) (n : ℕ) → p.size ≤ p.position + n → shift p n ≡ Traps Subscript
shift_false p n ge = by (nat_lt (p.position + n) p.size) refl
  where
    by : (t : Bool) → nat_lt (p.position + n) p.size ≡ t → (if t then Yields (on p n) else Traps Subscript) ≡ Traps Subscript
    by true e = let lt = ltb-true (p.position + n) p.size e in absurd (omega arith)
    by false e = refl

alike_zero : (n : ℕ) → Alike 0 n → n ≡ 0
alike_zero n (Same e) = sym e
alike_zero n (Many a b) = absurd (omega arith)

alike_some : (far n : ℕ) → Alike far n → (far ≡ 0 → ⊥) → 1 ≤ n
alike_some far n (Same e) h = by n (λ z. h (e ∙ z))
  where
    by : (k : ℕ) → (k ≡ 0 → ⊥) → 1 ≤ k
    by zero g = absurd (g refl)
    by (suc k) g = omega arith
alike_some far n (Many a b) h = omega arith

-- a lent value's spot
pub lent_on : (p : Spot) (n : ℕ) (word : Word) (far : ℕ) → word.behind ≡ 0 → far ≡ 0 → Shows (At p) word → Alike far n → IsShifted (shift p n) (Some word)
lent_on p n word far none nil h a = by p.fixed refl h
  where
    no : n ≡ 0
    no = alike_zero n (subst (λ k. Alike k n) nil a)

    by : (fixed : Bool) → p.fixed ≡ fixed → IsSpotWord fixed p word → IsShifted (shift p n) (Some word)
    by true e l =
        let k = no in
        let same : p.position + n ≡ 0 = let z = l.position in omega arith in
        let lt : p.position + n < p.size = let z = l.size in omega arith in
        subst (λ t. IsShifted t (Some word)) (sym (shift_true p n lt)) (subst (λ f. IsSpotWord f (on p n) word) (sym e) (record { value = l.value; behind = l.behind; size = l.size; position = same }))
    by false e l = let z = l.behind in let lt = l.inside in absurd (omega arith)

pub lent_past : (p : Spot) (n : ℕ) (word : Word) (far : ℕ) → word.behind ≡ 0 → (far ≡ 0 → ⊥) → Shows (At p) word → Alike far n → IsShifted (shift p n) None
lent_past p n word far none some h a = by p.fixed h
  where
    by : (fixed : Bool) → IsSpotWord fixed p word → IsShifted (shift p n) None
    by true l =
        let one = alike_some far n a some in
        let z = l.size in
        subst (λ t. IsShifted t None) (sym (shift_false p n (omega arith))) refl
    by false l = let z = l.behind in let lt = l.inside in absurd (omega arith)

-- a spot's word has a unit behind it that is small
pub behind_few : (p : Spot) (word : Word) → Shows (At p) word → word.behind < 2 ^ 31
behind_few p word h = by p.fixed h
  where
    by : (fixed : Bool) → IsSpotWord fixed p word → word.behind < 2 ^ 31
    by true l = let z = l.behind in omega arith
    by false l = l.few

pub unit_here : (r far : ℕ) (word : Word) → pos r ≡ word.value → (u : ℕ) → word.value ≡ pos u → r + far ≡ u + far
unit_here r far word e u h = ap (λ (n : ℕ). n + far) (same_pos r u (e ∙ h))

-- a variable's spot, by the unit that its word tells
module _ (p : Spot) (n : ℕ) (word : Word) (far unit : ℕ) (some : word.behind ≡ 0 → ⊥) (h : Shows (At p) word) (a : Alike far n) (here : (u : ℕ) → word.value ≡ pos u → unit ≡ u + far) where
  by_place : {A : Type 0} → ((fixed : Bool) → p.fixed ≡ fixed → IsSpotWord fixed p word → A) → A
  by_place f = f p.fixed refl h

  pub placed_on : unit < word.behind → (made : Word) → made.value ≡ pos unit → made.behind ≡ word.behind → IsShifted (shift p n) (Some made)
  placed_on lt made value behind = by_place by
    where
      far_is : (q : ℕ) → Alike far n → q ≤ 2 ^ 31 → far < q → far ≡ n
      far_is q (Same e) le l = e
      far_is q (Many x y) le l = absurd (omega arith)

      by : (fixed : Bool) → p.fixed ≡ fixed → IsSpotWord fixed p word → IsShifted (shift p n) (Some made)
      by true e l = absurd (some l.behind)
      by false e l =
          let at = here (unit_of p) l.value in
          let b = l.behind in
          let few = l.few in
          let same = far_is word.behind a (omega arith) (omega arith) in
          let inside : p.position + n < p.size = omega arith in
          let told : unit ≡ p.first + (p.position + n) = omega arith in
          subst (λ t. IsShifted t (Some made)) (sym (shift_true p n inside)) (subst (λ f. IsSpotWord f (on p n) made) (sym e) (record { value = value ∙ ap pos told; behind = behind ∙ b; inside = inside; few = omega arith }))

  pub placed_past : word.behind ≤ unit → IsShifted (shift p n) None
  placed_past ge = by_place by
    where
      past : (b : ℕ) → Alike far n → b < 2 ^ 31 → (u : ℕ) → unit ≡ u + far → b ≤ unit → b ≤ u + n
      past b (Same e) few u at l = omega arith
      past b (Many x y) few u at l = omega arith

      by : (fixed : Bool) → p.fixed ≡ fixed → IsSpotWord fixed p word → IsShifted (shift p n) None
      by true e l = absurd (some l.behind)
      by false e l =
          let b = l.behind in
          let over = past word.behind a l.few (unit_of p) (here (unit_of p) l.value) ge in
          subst (λ t. IsShifted t None) (sym (shift_false p n (omega arith))) refl

-- ---- the instruction ----

pub record Found (t : Try ℕ) (far : ℕ) : Type 0 where
  pub k : ℕ
  pub is : t ≡ Yields k
  pub alike : Alike far k

found : (t : Try ℕ) (far : ℕ) → IsReach t (Some far) 0 → Found t far
found (Yields k) far a = record { k = k; is = refl; alike = alike_as far (0 + k) k (omega arith) a }
found (Traps e) far h = absurd h
found Fails far h = absurd h

lost : (t : Try ℕ) → IsReach t None 0 → t ≡ Traps Subscript
lost (Yields k) h = absurd h
lost (Traps e) h = ap Traps h
lost Fails h = absurd h

pub record Shifted (x : Try Spot) (made : Word) : Type 0 where
  pub q : Spot
  pub is : x ≡ Yields q
  pub shows : Shows (At q) made

shifted : (x : Try Spot) (made : Word) → IsShifted x (Some made) → Shifted x made
shifted (Yields q) made h = record { q = q; is = refl; shows = h }
shifted (Traps e) made h = absurd h
shifted Fails made h = absurd h

no_spot : (x : Try Spot) → IsShifted x None → x ≡ Traps Subscript
no_spot (Yields q) h = absurd h
no_spot (Traps e) h = ap Traps h
no_spot Fails h = absurd h

first_given : (t : Try ℕ) (p : Spot) → IsGiven (then_try t (λ m. shift p m)) → IsGiven t
first_given (Yields k) p h = tt
first_given (Traps e) p h = tt
first_given Fails p h = h

low_some : (e : Entry) (es : List Entry) (buffer : List Word) (low : ℕ) → Stand (e ∷ es) (pile_of buffer low) → 1 ≤ low
low_some e es buffer zero h = absurd h
low_some e es buffer (suc low) h = omega arith

abbrev shifting : Core → World → List Content → List Content → Spot → List Entry → Out Core
shifting s w ds is' p under = pushed_spot s under w (then_try (distance 1 is' ds) (λ m. shift p m))

abbrev by_subscripts : Core → World → List Content → List Content → List Entry → Out Core
by_subscripts s w ds is' below = on_spot w below (shifting s w ds is')

abbrev by_sizes : ℕ → Core → World → List Content → List Entry → Out Core
by_sizes n s w ds rest = take_values w n rest [] (by_subscripts s w ds)

pub record AnElement (o : Out Core) (s : Core) (w : World) (n : ℕ) (buffer : List Word) (top : ℕ) : Type 0 where
  pub ds : List Content
  pub is' : List Content
  pub p : Spot
  pub under : List Entry
  pub low : ℕ
  pub is : o ≡ shifting s w ds is' p under
  pub high : (low + n) + n ≡ top
  pub sizes : length ds ≡ n
  pub subscripts : length is' ≡ n
  pub sizes_lie : Lies Val ds buffer (low + n)
  pub subscripts_lie : Lies Val is' buffer low
  pub stand : Stand (At p ∷ under) (pile_of buffer low)
  pub given : IsGiven (distance 1 is' ds)

module _ (n : ℕ) (buffer : List Word) (top : ℕ) (le : top ≤ length buffer) (P : Core → Type 0) (plans : List Fields) (s : Core) (w : World) (st : Stand s.stack (pile_of buffer top)) (h : IsRight P (act plans (Some (i.Element n)) s w)) where
  an_element : AnElement (act plans (Some (i.Element n)) s w) s w n buffer top
  an_element =
      let a = taken_values buffer P w n 0 s.stack [] (by_sizes n s w) top le refl st tt h in
      let h1 = subst (IsRight P) a.is h in
      let u = a.under in
      let b = taken_values buffer P w n 0 a.rest [] (by_subscripts s w a.got) a.low (omega arith) refl a.stand tt h1 in
      let h2 = subst (IsRight P) b.is h1 in
      let c = one_spot P w b.rest (shifting s w a.got b.got) h2 in
      let e = ap (λ es. on_spot w es (shifting s w a.got b.got)) c.is in
      record {
        ds = a.got;
        is' = b.got;
        p = c.p;
        under = c.below;
        low = b.low;
        is = a.is ∙ b.is ∙ e;
        high = let v = b.under in omega arith;
        sizes = let l = a.long in omega arith;
        subscripts = let l = b.long in omega arith;
        sizes_lie = subst (Lies Val a.got buffer) (sym b.under) a.lies;
        subscripts_lie = b.lies;
        stand = subst (λ es. Stand es (pile_of buffer b.low)) c.is b.stand;
        given = first_given (distance 1 b.got a.got) c.p (spot_given P s c.below w (then_try (distance 1 b.got a.got) (λ m. shift c.p m)) (subst (IsRight P) e h2));
      }

  pub element_tall : (n + n) + 1 ≤ top
  element_tall = let x = an_element in let l = low_some (At x.p) x.under buffer x.low x.stand in let e = x.high in omega arith

  module _ (at : ℕ) (at_is : at ≡ (top - n) - n) where
    here : at ≡ an_element.low
    here = let e = an_element.high in omega arith

    spot_words : (word : Word) (below : List Word) → pile_of buffer at ≡ word ∷ below → Stand (At an_element.p ∷ an_element.under) (word ∷ below)
    spot_words word below e = subst (Stand (At an_element.p ∷ an_element.under)) (ap (pile_of buffer) (sym here) ∙ e) an_element.stand

    pub element_spot : (word : Word) (below : List Word) → pile_of buffer at ≡ word ∷ below → (p : Spot) × Shows (At p) word
    element_spot word below e = (an_element.p, (spot_words word below e).0)

    far_is : IsReach (distance 1 an_element.is' an_element.ds) (reaches at_first buffer at (top - n) n) 0
    far_is =
        let x = an_element in
        let e = x.high in
        let sizes_at : x.low + n ≡ top - n = omega arith in
        reach_is buffer n x.is' x.ds at_first at (top - n) 1 0 x.subscripts x.sizes (subst (Lies Val x.is' buffer) (sym here) x.subscripts_lie) (subst (Lies Val x.ds buffer) sizes_at x.sizes_lie) x.given (Same refl) (Same refl)

    trap_is : then_try (distance 1 an_element.is' an_element.ds) (λ m. shift an_element.p m) ≡ Traps Subscript → act plans (Some (i.Element n)) s w ≡ Halts (Ended (Trapped Subscript s.frame.place)) w
    trap_is e = an_element.is ∙ ap (pushed_spot s an_element.under w) e

    pub element_outside : None ≡ reaches at_first buffer at (top - n) n → act plans (Some (i.Element n)) s w ≡ Halts (Ended (Trapped Subscript s.frame.place)) w
    element_outside e = trap_is (ap (λ t. then_try t (λ m. shift an_element.p m)) (lost (distance 1 an_element.is' an_element.ds) (subst (λ r. IsReach (distance 1 an_element.is' an_element.ds) r 0) (sym e) far_is)))

    module _ (far : ℕ) (e : Some far ≡ reaches at_first buffer at (top - n) n) (word : Word) (below : List Word) (words : pile_of buffer at ≡ word ∷ below) where
      reached : Found (distance 1 an_element.is' an_element.ds) far
      reached = found (distance 1 an_element.is' an_element.ds) far (subst (λ r. IsReach (distance 1 an_element.is' an_element.ds) r 0) (sym e) far_is)

      shift_is : then_try (distance 1 an_element.is' an_element.ds) (λ m. shift an_element.p m) ≡ shift an_element.p reached.k
      shift_is = ap (λ t. then_try t (λ m. shift an_element.p m)) reached.is

      pub element_past : ((p : Spot) (k : ℕ) → Shows (At p) word → Alike far k → IsShifted (shift p k) None) → act plans (Some (i.Element n)) s w ≡ Halts (Ended (Trapped Subscript s.frame.place)) w
      element_past f = trap_is (shift_is ∙ no_spot (shift an_element.p reached.k) (f an_element.p reached.k (spot_words word below words).0 reached.alike))

      pub element_works : (made : Word) (piled : List Word) → ((p : Spot) (k : ℕ) → Shows (At p) word → Alike far k → IsShifted (shift p k) (Some made)) → piled ≡ made ∷ below → GoesTo (act plans (Some (i.Element n)) s w) s w (s.pc + 1) piled
      element_works made piled f e1 =
          let x = shifted (shift an_element.p reached.k) made (f an_element.p reached.k (spot_words word below words).0 reached.alike) in
          record {
            stack = At x.q ∷ an_element.under;
            is = an_element.is ∙ ap (pushed_spot s an_element.under w) (shift_is ∙ x.is);
            stand = subst (Stand (At x.q ∷ an_element.under)) (sym e1) (x.shows, (spot_words word below words).1);
          }
