-- An element whose subscripts are variables: the instructions from the array's spot to the element are done in one turn of the loop.
-- Each of them keeps the invariant over a buffer on which it has written; the turn itself writes the element's spot alone.
use Rattle.std.proofs.Common.{◌≡◌, ℕ, suc, ◌+◌, ◌-◌, ◌*◌, ◌<◌, ◌≤◌, ◌^◌, List, ◌∷◌, ◌++◌, length, drop, Option, Some, None, Bool, true, false, refl, sym, ap, ◌∙◌, subst, arith, slice_get, slice_set}
use Rattle.std.specs.Prelude.{ℤ, Result, Ok, Err, pos, ◌-ℤ◌, unsigned_abs, int_le, ◌&&◌, if◌then◌else◌}
use Rattle.std.proofs.lemmas.List.{length-set}
use Rattle.std.proofs.lemmas.Option.{get_or_from_slice_get, none-some}
use Rattle.ground.specs.declared.place.Place.{Place}
use Rattle.ground.specs.declared.trap.Trap.{Trap}
use Rattle.ground.specs.declared.trap.Trap.TheVariants.{Subscript}
use Rattle.ground.specs.declared.value.Kind.TheVariants.{Integer}
use Rattle.ground.specs.Arithmetic.{IsInRange}
use Rattle.ground.specs.Content.{Whole}
use Rattle.f66_tree.specs.Evaluation.{asked}
use Rattle.f66_tree.specs.Fields.{Fields}
use Rattle.f66_tree.specs.Turns.{Hand}
use Rattle.f66_tree.specs.World.{Record, World, Trapped, Ended, Halts}
use Rattle.format_io.specs.Places.{Stand as Standing}
use Rattle.stack_code.specs.declared.op.Op.{Op}
use Rattle.stack_code.specs.declared.valid.Code.{Code}
use Rattle.stack_code.specs.Instructions as i
use Rattle.stack_code.specs.Instructions.{Instruction}
use Rattle.stack_code.specs.Views.{code_of}
use Rattle.stack_code.specs.Safety.{ValidIsSafe}
use Rattle.stack_code.specs.StackMachine.{Spot, Core, At, Val, shift, act}
use Rattle.stack_code.specs.ValidCode.{and_then}
use Rattle.stack_code.proofs.FactsLemmas.{get_set_same}
use Rattle.runner.specs.declared.subscripts.Subscripts.{Subscripts}
use Rattle.runner.specs.declared.subscripts.Subscripts.TheVariants as subscripts
use Rattle.runner.specs.declared.words.Word.{Word}
use Rattle.runner.specs.declared.words.Cell.{Cell}
use Rattle.runner.specs.Frames.{Level}
use Rattle.runner.specs.Running.{IsValidCode, RunsTo, program}
use Rattle.runner.specs.Words.{Shows, Stand, IsMade, IsSmall, blank, content_of, pile_of, spot_word}
use Rattle.runner.specs.Work.{Works, IsFine, GoesTo}
use Rattle.runner.specs.declared.elements.Reach.{Reach}
use Rattle.runner.specs.Reaching.{Alike, Same, Many, IsShifted, advanced, reaches, at_first, value_at, capped, before, two_reach}
use Rattle.runner.specs.Subscripted.{IsPlacedBy, AreSubscripts, IsVariable, IsByOne, IsByTwo, IsRead, IsLaidOne, AreLaidTwo, integer_word}
use Rattle.runner.proofs.ElementArms.{element_outside, element_past, element_works}
use Rattle.runner.proofs.Measure.{far}
use Rattle.runner.proofs.PlaceArms.{load_works, load_traps}
use Rattle.runner.proofs.Reached.{alike_capped, alike_plus, alike_times}
use Rattle.runner.proofs.Piles.{pile_push, pile_above, set_later}
use Rattle.runner.proofs.Pushes.{push_room, push_works}
use Rattle.runner.proofs.Roles.{range_of}
use Rattle.runner.proofs.SpotArms as spots
use Rattle.runner.proofs.Turn as turn
use Rattle.runner.proofs.Turn.{IsTurn, CountsOne}

-- ---- how far ----

value_there : (buffer : List Word) (at : ℕ) (w : Word) → slice_get buffer at ≡ Some w → value_at buffer at ≡ w.value
value_there buffer at w e = ap (λ x. x.value) (get_or_from_slice_get buffer at w blank e)

-- the same with the cap
abbrev one_capped : ℤ → ℤ → Option ℕ
one_capped i d = and_then (advanced at_first i d) (λ r. Some r.far)

abbrev two_capped : ℤ → ℤ → ℤ → ℤ → Option ℕ
two_capped i j d e = and_then (advanced at_first i d) (λ r. and_then (advanced r j e) (λ q. Some q.far))

one_reached : (buffer : List Word) (at to : ℕ) (i d : ℤ) → value_at buffer at ≡ i → value_at buffer to ≡ d → reaches at_first buffer at to 1 ≡ one_capped i d
one_reached buffer at to i d e1 e2 = ap (λ z. one_capped z (value_at buffer to)) e1 ∙ ap (one_capped i) e2

two_reached : (buffer : List Word) (at to : ℕ) (i j d e : ℤ) → value_at buffer at ≡ i → value_at buffer (suc at) ≡ j → value_at buffer to ≡ d → value_at buffer (suc to) ≡ e → reaches at_first buffer at to 2 ≡ two_capped i j d e
two_reached buffer at to i j d e e1 e2 e3 e4 =
    ap (λ z. two_capped z (value_at buffer (suc at)) (value_at buffer to) (value_at buffer (suc to))) e1
    ∙ ap (λ z. two_capped i z (value_at buffer to) (value_at buffer (suc to))) e2
    ∙ ap (λ z. two_capped i j z (value_at buffer (suc to))) e3 ∙ ap (two_capped i j d) e4

-- both come to numbers that are the same up to the cap, or to none
abbrev AreAlike : Option ℕ → Option ℕ → Type 0
AreAlike (Some a) (Some b) = Alike a b
AreAlike None None = Unit {0}
AreAlike _ _ = ⊥

first_alike : (a : ℕ) → Alike (capped (0 + a * 1)) a
first_alike a = alike_capped (0 + a * 1) a (Same (omega arith))

-- the first subscript with its dimension, where it is within it, and the second
abbrev with_first : ℕ → ℕ → Bool → Option Reach
with_first a rows t = if t then Some (record { far = capped (0 + a * 1); step = capped (1 * rows) }) else None

abbrev with_second : ℕ → ℕ → Bool → Reach → Option Reach
with_second b columns u r = if u then Some (record { far = capped (r.far + b * r.step); step = capped (r.step * columns) }) else None

one_of_alike : (a rows : ℕ) (t : Bool) → AreAlike (and_then (with_first a rows t) (λ r. Some r.far)) (if t then Some a else None)
one_of_alike a rows true = first_alike a
one_of_alike a rows false = tt

one_alike : (i d : ℤ) → AreAlike (one_capped i d) (before i d)
one_alike i d = one_of_alike (unsigned_abs (i -ℤ pos 1)) (unsigned_abs d) (int_le (pos 1) i && int_le i d)

both_alike : (a b rows columns : ℕ) (t u : Bool) → AreAlike (and_then (with_first a rows t) (λ r. and_then (with_second b columns u r) (λ q. Some q.far))) (and_then (if t then Some a else None) (λ m. and_then (if u then Some b else None) (λ n. Some (m + n * rows))))
both_alike a b rows columns true true =
    let step = alike_capped (1 * rows) rows (Same (omega arith)) in
    alike_capped (capped (0 + a * 1) + b * capped (1 * rows)) (a + b * rows) (alike_plus (capped (0 + a * 1)) a (b * capped (1 * rows)) (b * rows) (first_alike a) (alike_times b (capped (1 * rows)) rows step))
both_alike a b rows columns true false = tt
both_alike a b rows columns false u = tt

two_alike : (i j d e : ℤ) → AreAlike (two_capped i j d e) (two_reach i j d e)
two_alike i j d e = both_alike (unsigned_abs (i -ℤ pos 1)) (unsigned_abs (j -ℤ pos 1)) (unsigned_abs d) (unsigned_abs e) (int_le (pos 1) i && int_le i d) (int_le (pos 1) j && int_le j e)

record IsAlike (r : Option ℕ) (far : ℕ) : Type 0 where
  n : ℕ
  is : Some n ≡ r
  alike : Alike n far

some_alike : (r o : Option ℕ) (far : ℕ) → Some far ≡ o → AreAlike r o → IsAlike r far
some_alike r o far e h = by r (subst (AreAlike r) (sym e) h)
  where
    by : (x : Option ℕ) → AreAlike x (Some far) → IsAlike x far
    by (Some n) a = record { n = n; is = refl; alike = a }
    by None a = absurd a

none_alike : (r o : Option ℕ) → None ≡ o → AreAlike r o → None ≡ r
none_alike r o e h = by r (subst (AreAlike r) (sym e) h)
  where
    by : (x : Option ℕ) → AreAlike x None → None ≡ x
    by (Some n) a = absurd a
    by None a = refl

alike_both : (n far k : ℕ) → Alike n far → Alike n k → Alike far k
alike_both n far k (Same p) (Same q) = Same (sym p ∙ q)
alike_both n far k (Same p) (Many x y) = Many (omega (arith, p, x)) y
alike_both n far k (Many x y) (Same q) = Many y (omega (arith, q, x))
alike_both n far k (Many x y) (Many z v) = Many y v

pub one_same : {i i1 d d1 : ℤ} → i ≡ i1 → d ≡ d1 → before i d ≡ before i1 d1
one_same {i} {i1} {d} {d1} e1 e2 = ap (λ z. before z d) e1 ∙ ap (before i1) e2

pub two_same : {i i1 j j1 d d1 e e1 : ℤ} → i ≡ i1 → j ≡ j1 → d ≡ d1 → e ≡ e1 → two_reach i j d e ≡ two_reach i1 j1 d1 e1
two_same {i} {i1} {j} {j1} {d} {d1} {e} {e1} p q r s = ap (λ z. two_reach z j d e) p ∙ ap (λ z. two_reach i1 z d e) q ∙ ap (λ z. two_reach i1 j1 z e) r ∙ ap (two_reach i1 j1 d1) s

-- ---- the element, whatever lies in the buffer ----

module _ (first size : ℕ) (one : Word) (extent : ℤ) (old : List Word) (top : ℕ) (buffer : List Word) (l : IsLaidOne first size one extent old top buffer) (plans : List Fields) (s : Core) (w : World) (st : Stand s.stack (pile_of buffer (top + 3))) (fine : IsFine (act plans (Some (i.Element 1)) s w)) where
  reached_by_one : AreAlike (reaches at_first buffer (top + 1) ((top + 3) - 1) 1) (before one.value extent)
  reached_by_one =
      let e : (top + 3) - 1 ≡ top + 2 = omega arith in
      subst (λ r. AreAlike r (before one.value extent)) (sym (one_reached buffer (top + 1) ((top + 3) - 1) one.value extent (value_there buffer (top + 1) one l.subscript) (ap (value_at buffer) e ∙ value_there buffer (top + 2) (integer_word extent) l.extent))) (one_alike one.value extent)

  pub one_outside : None ≡ before one.value extent → act plans (Some (i.Element 1)) s w ≡ Halts (Ended (Trapped Subscript s.frame.place)) w
  one_outside e = element_outside 1 buffer (top + 3) l.within _ plans s w st fine (top + 1) (omega arith) (none_alike _ _ e reached_by_one)

  module _ (far : ℕ) (e : Some far ≡ before one.value extent) where
    found_by_one : IsAlike (reaches at_first buffer (top + 1) ((top + 3) - 1) 1) far
    found_by_one = some_alike _ _ far e reached_by_one

    pub one_past : ((p : Spot) (k : ℕ) → Shows (At p) (spot_word first size) → Alike far k → IsShifted (shift p k) None) → act plans (Some (i.Element 1)) s w ≡ Halts (Ended (Trapped Subscript s.frame.place)) w
    one_past f = element_past 1 buffer (top + 3) l.within _ plans s w st fine (top + 1) (omega arith) found_by_one.n found_by_one.is (spot_word first size) (pile_of old top) l.spot (λ p m h a. f p m h (alike_both found_by_one.n far m found_by_one.alike a))

    pub one_works : (made : Word) (piled : List Word) → ((p : Spot) (k : ℕ) → Shows (At p) (spot_word first size) → Alike far k → IsShifted (shift p k) (Some made)) → piled ≡ made ∷ pile_of old top → GoesTo (act plans (Some (i.Element 1)) s w) s w (s.pc + 1) piled
    one_works made piled f e1 = element_works 1 buffer (top + 3) l.within _ plans s w st fine (top + 1) (omega arith) found_by_one.n found_by_one.is (spot_word first size) (pile_of old top) l.spot made piled (λ p m h a. f p m h (alike_both found_by_one.n far m found_by_one.alike a)) e1

  pub one_unplaced : IsPlacedBy first size (before one.value extent) None → act plans (Some (i.Element 1)) s w ≡ Halts (Ended (Trapped Subscript s.frame.place)) w
  one_unplaced h = by (before one.value extent) refl h
    where
      by : (o : Option ℕ) → o ≡ before one.value extent → IsPlacedBy first size o None → act plans (Some (i.Element 1)) s w ≡ Halts (Ended (Trapped Subscript s.frame.place)) w
      by None e p = one_outside e
      by (Some n) e p = one_past n e p

  pub one_placed : (made : Word) (piled : List Word) → IsPlacedBy first size (before one.value extent) (Some made) → piled ≡ made ∷ pile_of old top → GoesTo (act plans (Some (i.Element 1)) s w) s w (s.pc + 1) piled
  one_placed made piled h e1 = by (before one.value extent) refl h
    where
      by : (o : Option ℕ) → o ≡ before one.value extent → IsPlacedBy first size o (Some made) → GoesTo (act plans (Some (i.Element 1)) s w) s w (s.pc + 1) piled
      by None e p = absurd (none-some made p)
      by (Some n) e p = one_works n e made piled p e1

module _ (first size : ℕ) (one two : Word) (rows columns : ℤ) (old : List Word) (top : ℕ) (buffer : List Word) (l : AreLaidTwo first size one two rows columns old top buffer) (plans : List Fields) (s : Core) (w : World) (st : Stand s.stack (pile_of buffer (top + 5))) (fine : IsFine (act plans (Some (i.Element 2)) s w)) where
  reached_by_two : AreAlike (reaches at_first buffer (top + 1) ((top + 5) - 2) 2) (two_reach one.value two.value rows columns)
  reached_by_two =
      let e : (top + 5) - 2 ≡ top + 3 = omega arith in
      let e1 : suc ((top + 5) - 2) ≡ top + 4 = omega arith in
      let e2 : suc (top + 1) ≡ top + 2 = omega arith in
      let told = two_reached buffer (top + 1) ((top + 5) - 2) one.value two.value rows columns (value_there buffer (top + 1) one l.one) (ap (value_at buffer) e2 ∙ value_there buffer (top + 2) two l.two) (ap (value_at buffer) e ∙ value_there buffer (top + 3) (integer_word rows) l.rows) (ap (value_at buffer) e1 ∙ value_there buffer (top + 4) (integer_word columns) l.columns) in
      subst (λ r. AreAlike r (two_reach one.value two.value rows columns)) (sym told) (two_alike one.value two.value rows columns)

  pub two_outside : None ≡ two_reach one.value two.value rows columns → act plans (Some (i.Element 2)) s w ≡ Halts (Ended (Trapped Subscript s.frame.place)) w
  two_outside e = element_outside 2 buffer (top + 5) l.within _ plans s w st fine (top + 1) (omega arith) (none_alike _ _ e reached_by_two)

  module _ (far : ℕ) (e : Some far ≡ two_reach one.value two.value rows columns) where
    found_by_two : IsAlike (reaches at_first buffer (top + 1) ((top + 5) - 2) 2) far
    found_by_two = some_alike _ _ far e reached_by_two

    pub two_past : ((p : Spot) (k : ℕ) → Shows (At p) (spot_word first size) → Alike far k → IsShifted (shift p k) None) → act plans (Some (i.Element 2)) s w ≡ Halts (Ended (Trapped Subscript s.frame.place)) w
    two_past f = element_past 2 buffer (top + 5) l.within _ plans s w st fine (top + 1) (omega arith) found_by_two.n found_by_two.is (spot_word first size) (pile_of old top) l.spot (λ p m h a. f p m h (alike_both found_by_two.n far m found_by_two.alike a))

    pub two_works : (made : Word) (piled : List Word) → ((p : Spot) (k : ℕ) → Shows (At p) (spot_word first size) → Alike far k → IsShifted (shift p k) (Some made)) → piled ≡ made ∷ pile_of old top → GoesTo (act plans (Some (i.Element 2)) s w) s w (s.pc + 1) piled
    two_works made piled f e1 = element_works 2 buffer (top + 5) l.within _ plans s w st fine (top + 1) (omega arith) found_by_two.n found_by_two.is (spot_word first size) (pile_of old top) l.spot made piled (λ p m h a. f p m h (alike_both found_by_two.n far m found_by_two.alike a)) e1

  pub two_unplaced : IsPlacedBy first size (two_reach one.value two.value rows columns) None → act plans (Some (i.Element 2)) s w ≡ Halts (Ended (Trapped Subscript s.frame.place)) w
  two_unplaced h = by (two_reach one.value two.value rows columns) refl h
    where
      by : (o : Option ℕ) → o ≡ two_reach one.value two.value rows columns → IsPlacedBy first size o None → act plans (Some (i.Element 2)) s w ≡ Halts (Ended (Trapped Subscript s.frame.place)) w
      by None e p = two_outside e
      by (Some n) e p = two_past n e p

  pub two_placed : (made : Word) (piled : List Word) → IsPlacedBy first size (two_reach one.value two.value rows columns) (Some made) → piled ≡ made ∷ pile_of old top → GoesTo (act plans (Some (i.Element 2)) s w) s w (s.pc + 1) piled
  two_placed made piled h e1 = by (two_reach one.value two.value rows columns) refl h
    where
      by : (o : Option ℕ) → o ≡ two_reach one.value two.value rows columns → IsPlacedBy first size o (Some made) → GoesTo (act plans (Some (i.Element 2)) s w) s w (s.pc + 1) piled
      by None e p = absurd (none-some made p)
      by (Some n) e p = two_works n e made piled p e1

-- ---- a subscript is read, and a dimension pushed ----

pub is_read : (unit : ℕ) (cells : List Cell) (x : Cell) (r : Result Word Trap) → slice_get cells unit ≡ Some x → (IsSmall (content_of x) → IsMade (asked Integer (content_of x)) r) → IsRead unit cells r
is_read unit cells x (Ok word) there m = λ buffer at size room plans s w st a fine. load_works Integer _ _ _ (pile_push buffer at (spot_word unit size) room) cells unit refl x there (Ok word) m plans s w st a fine word _ refl (pile_push buffer at word room)
is_read unit cells x (Err trap) there m = λ buffer new at size room plans s w st a fine. load_traps Integer _ _ _ (pile_push buffer at (spot_word unit size) room) cells unit refl x there (Err trap) m plans s w st a fine trap refl

stands_at : (code : List Instruction) (m n : ℕ) (o : Option Instruction) → m ≡ n → slice_get code m ≡ o → slice_get code n ≡ o
stands_at code m n o e h = subst (λ k. slice_get code k ≡ o) e h

module _ {code : Code} (valid : IsValidCode code) (law : ValidIsSafe) (few : code.units < 2 ^ 31) {steps pc left top : ℕ} {stack : List Word} {cells : List Cell} {place : Place} {executed from : ℕ} {level : Level} {taken written : List Record} {hand : Hand} {stand : Standing} {plan : ℕ} (t : IsTurn code steps pc left top stack cells place executed from level taken written hand stand plan) (room : suc code.depth * code.stack ≤ length stack) where
  room_set : (x : Word) → suc code.depth * code.stack ≤ length (slice_set stack top x)
  room_set x = subst (λ n. suc code.depth * code.stack ≤ n) (sym (length-set stack top x)) room

  module _ (unit : ℕ) (v : IsVariable (code_of code.ops.items) pc unit) where
    pub read_unit : unit < length cells
    read_unit = spots.unit_there valid law few t room unit v.size v.spot

    has_room : top < length stack
    has_room = spots.has_room valid law few t room unit v.size v.spot

    laid : IsTurn code steps (pc + 1) left (top + 1) (slice_set stack top (spot_word unit v.size)) cells place executed from level taken written hand stand plan
    laid = spots.after valid law few t room unit v.size v.spot

    pub reads_on : (x : Word) → IsRead unit cells (Ok x) → IsTurn code steps (pc + 2) left (top + 1) (slice_set stack top x) cells place executed from level taken written hand stand plan
    reads_on x h = subst (λ n. IsTurn code steps n left (top + 1) (slice_set stack top x) cells place executed from level taken written hand stand plan) (let e : pc + 1 + 1 ≡ pc + 2 = omega arith in e) (turn.holds_on valid law laid v.load refl (h stack top v.size has_room) (let r = has_room in let n = length-set stack top x in omega (arith, r, n)) refl)

    pub reads_nearer : far (code_of code.ops.items) (pc + 2) left level.level < far (code_of code.ops.items) pc left level.level
    reads_nearer =
        let one = turn.nearer_next valid law t v.spot refl in
        let two = subst (λ n. far (code_of code.ops.items) n left level.level < far (code_of code.ops.items) (pc + 1) left level.level) (let e : pc + 1 + 1 ≡ pc + 2 = omega arith in e) (turn.nearer_next valid law laid v.load refl) in
        omega (arith, one, two)

    pub reads_over : {trap : Trap} {executed1 : ℕ} → CountsOne executed from (pc + 1) executed1 → IsRead unit cells (Err trap) → (input : List Record) → RunsTo (program code) (taken ++ input) steps written (Ended (Trapped trap place)) left executed1
    reads_over told h = turn.holds_over valid law laid v.load told (h stack stack top v.size has_room)

  module _ (d : ℤ) (at : slice_get (code_of code.ops.items) pc ≡ Some (i.Push (Whole d))) where
    pub small : IsInRange d
    small = range_of (code_of code.ops.items) (length code.plans.items) code.units pc (i.Push (Whole d)) few (turn.in_range valid law t at)

    push_has_room : top < length stack
    push_has_room = push_room (i.Push (Whole d)) (Val (Whole d)) stack top (λ plans s w. refl) (turn.may_work valid law t at room)

    pub pushes_on : IsTurn code steps (pc + 1) left (top + 1) (slice_set stack top (integer_word d)) cells place executed from level taken written hand stand plan
    pushes_on = turn.works_on valid law t at refl (λ plans s w st fine. push_works (Val (Whole d)) (integer_word d) s w _ _ st (record { value = refl; behind = refl; small = small }) (pile_push stack top (integer_word d) push_has_room)) (let r = push_has_room in let n = length-set stack top (integer_word d) in omega (arith, r, n))

-- ---- the instructions in a row ----

-- of those in the code from an instruction on
module _ {xs : List Op} (ops : List Op) (pc : ℕ) (same : xs ≡ drop pc ops) where
  moved : {o : Option Instruction} (k n : ℕ) → pc + k ≡ n → slice_get (code_of xs) k ≡ o → slice_get (code_of ops) n ≡ o
  moved k n e h = ap (slice_get (code_of ops)) (sym e) ∙ sym (turn.ahead ops pc k same) ∙ h

  variable_on : (k n unit : ℕ) → pc + k ≡ n → IsVariable (code_of xs) k unit → IsVariable (code_of ops) n unit
  variable_on k n unit e v = record { size = v.size; spot = moved k n e v.spot; load = moved (k + 1) (n + 1) (omega (arith, e)) v.load }

  subscripts_on : (r : Subscripts) → AreSubscripts (code_of xs) 1 r → AreSubscripts (code_of ops) (pc + 1) r
  subscripts_on subscripts.Other h = tt
  subscripts_on (subscripts.One unit extent) h =
      record { subscript = variable_on 1 (pc + 1) unit refl h.subscript; extent = moved (1 + 2) (pc + 1 + 2) (omega arith) h.extent; element = moved (1 + 3) (pc + 1 + 3) (omega arith) h.element }
  subscripts_on (subscripts.Two one two rows columns) h =
      record {
        first = variable_on 1 (pc + 1) one refl h.first;
        second = variable_on (1 + 2) (pc + 1 + 2) two (omega arith) h.second;
        rows = moved (1 + 4) (pc + 1 + 4) (omega arith) h.rows;
        columns = moved (1 + 5) (pc + 1 + 5) (omega arith) h.columns;
        element = moved (1 + 6) (pc + 1 + 6) (omega arith) h.element;
      }

pub subscripts_in : {xs : List Op} (ops : List Op) (code : Code) (pc : ℕ) (r r1 : Subscripts) → xs ≡ drop pc ops → ops ≡ code.ops.items → r ≡ r1 → AreSubscripts (code_of xs) 1 r → AreSubscripts (code_of code.ops.items) (pc + 1) r1
subscripts_in ops code pc r r1 from same is h = subst (λ l. AreSubscripts (code_of l) (pc + 1) r1) same (subst (AreSubscripts (code_of ops) (pc + 1)) is (subscripts_on ops pc from r h))

module _ {code : Code} (valid : IsValidCode code) (law : ValidIsSafe) (few : code.units < 2 ^ 31) {steps pc left top : ℕ} {stack : List Word} {cells : List Cell} {place : Place} {executed from : ℕ} {level : Level} {taken written : List Record} {hand : Hand} {stand : Standing} {plan : ℕ} (t : IsTurn code steps pc left top stack cells place executed from level taken written hand stand plan) (room : suc code.depth * code.stack ≤ length stack) (first size : ℕ) (at : slice_get (code_of code.ops.items) pc ≡ Some (i.PushSpot first size)) where
  abbrev Turns : ℕ → ℕ → List Word → Type 0
  Turns pc1 top1 stack1 = IsTurn code steps pc1 left top1 stack1 cells place executed from level taken written hand stand plan

  abbrev Nearer : ℕ → ℕ → Type 0
  Nearer to pc1 = far (code_of code.ops.items) to left level.level < far (code_of code.ops.items) pc1 left level.level

  abbrev Ends : Trap → ℕ → Type 0
  Ends trap executed1 = (input : List Record) → RunsTo (program code) (taken ++ input) steps written (Ended (Trapped trap place)) left executed1

  abbrev stack1 : List Word
  stack1 = slice_set stack top (spot_word first size)

  spot_room : top < length stack
  spot_room = spots.has_room valid law few t room first size at

  after : Turns (pc + 1) (top + 1) stack1
  after = spots.after valid law few t room first size at

  room1 : suc code.depth * code.stack ≤ length stack1
  room1 = room_set valid law few t room (spot_word first size)

  spot_nearer : Nearer (pc + 1) pc
  spot_nearer = turn.nearer_next valid law t at refl

  module _ (unit : ℕ) (v : IsVariable (code_of code.ops.items) (pc + 1) unit) where
    -- the first subscript
    pub first_unit : unit < length cells
    first_unit = read_unit valid law few after room1 unit v

    pub first_undefined : {trap : Trap} {executed1 : ℕ} → CountsOne executed from (pc + 2) executed1 → IsRead unit cells (Err trap) → Ends trap executed1
    first_undefined {trap} {executed1} told h = reads_over valid law few after room1 unit v (subst (λ n. CountsOne executed from n executed1) (let e : pc + 2 ≡ pc + 1 + 1 = omega arith in e) told) h

    module _ (x : Word) (h : IsRead unit cells (Ok x)) where
      abbrev stack2 : List Word
      stack2 = slice_set stack1 (top + 1) x

      read : Turns (pc + 1 + 2) (top + 1 + 1) stack2
      read = reads_on valid law few after room1 unit v x h

      room2 : suc code.depth * code.stack ≤ length stack2
      room2 = room_set valid law few after room1 x

      read_room : top + 1 < length stack1
      read_room = has_room valid law few after room1 unit v

      read_nearer : Nearer (pc + 1 + 2) (pc + 1)
      read_nearer = reads_nearer valid law few after room1 unit v

      -- ---- one dimension ----

      module _ (extent : ℤ) (b : IsByOne (code_of code.ops.items) (pc + 1) unit extent) where
        abbrev pub stack3 : List Word
        stack3 = slice_set stack2 (top + 1 + 1) (integer_word extent)

        pub extent_small : IsInRange extent
        extent_small = small valid law few read room2 extent b.extent

        sized : Turns (pc + 1 + 2 + 1) (top + 1 + 1 + 1) stack3
        sized = pushes_on valid law few read room2 extent b.extent

        sized_room : top + 1 + 1 < length stack2
        sized_room = push_has_room valid law few read room2 extent b.extent

        element_at : slice_get (code_of code.ops.items) (pc + 1 + 2 + 1) ≡ Some (i.Element 1)
        element_at = stands_at (code_of code.ops.items) (pc + 1 + 3) (pc + 1 + 2 + 1) (Some (i.Element 1)) (omega arith) b.element

        pub laid_one : IsLaidOne first size x extent stack top stack3
        laid_one =
            record {
              within = let w = sized.within in omega (arith, w);
              spot = pile_above stack2 (top + 1 + 1) (top + 1) (integer_word extent) (omega arith) ∙ pile_above stack1 (top + 1) (top + 1) x (omega arith) ∙ pile_push stack top (spot_word first size) spot_room;
              subscript = set_later stack2 (top + 1 + 1) (top + 1) (integer_word extent) (omega arith) ∙ get_set_same stack1 (top + 1) x read_room;
              extent = ap (slice_get stack3) (let e : top + 2 ≡ top + 1 + 1 = omega arith in e) ∙ get_set_same stack2 (top + 1 + 1) (integer_word extent) sized_room;
            }

        pub one_on : {new : List Word} {rest : ℕ} → Works (i.Element 1) stack3 (top + 3) new (Ok rest) → rest ≤ length new → Turns (pc + 5) rest new
        one_on {new} {rest} h1 fits = subst (λ n. Turns n rest new) (let e : pc + 1 + 2 + 1 + 1 ≡ pc + 5 = omega arith in e) (turn.works_on valid law sized element_at refl (subst (λ n. Works (i.Element 1) stack3 n new (Ok rest)) (let e : top + 3 ≡ top + 1 + 1 + 1 = omega arith in e) h1) fits)

        pub one_over : (new : List Word) {trap : Trap} {executed1 : ℕ} → CountsOne executed from (pc + 4) executed1 → Works (i.Element 1) stack3 (top + 3) new (Err trap) → Ends trap executed1
        one_over new {trap} {executed1} told h1 = turn.works_over valid law sized element_at (subst (λ n. CountsOne executed from n executed1) (let e : pc + 4 ≡ pc + 1 + 2 + 1 = omega arith in e) told) (subst (λ n. Works (i.Element 1) stack3 n new (Err trap)) (let e : top + 3 ≡ top + 1 + 1 + 1 = omega arith in e) h1)

        pub one_nearer : Nearer (pc + 5) pc
        one_nearer =
            let a = spot_nearer in
            let b1 = read_nearer in
            let c = turn.nearer_next valid law read b.extent refl in
            let d = subst (λ n. Nearer n (pc + 1 + 2 + 1)) (let e : pc + 1 + 2 + 1 + 1 ≡ pc + 5 = omega arith in e) (turn.nearer_next valid law sized element_at refl) in
            omega (arith, a, b1, c, d)

      -- ---- two ----

      module _ (two : ℕ) (u : IsVariable (code_of code.ops.items) (pc + 1 + 2) two) where
        pub second_unit : two < length cells
        second_unit = read_unit valid law few read room2 two u

        pub second_undefined : {trap : Trap} {executed1 : ℕ} → CountsOne executed from (pc + 4) executed1 → IsRead two cells (Err trap) → Ends trap executed1
        second_undefined {trap} {executed1} told h1 = reads_over valid law few read room2 two u (subst (λ n. CountsOne executed from n executed1) (let e : pc + 4 ≡ pc + 1 + 2 + 1 = omega arith in e) told) h1

        module _ (y : Word) (h1 : IsRead two cells (Ok y)) (rows columns : ℤ) (b : IsByTwo (code_of code.ops.items) (pc + 1) unit two rows columns) where
          abbrev pair3 : List Word
          pair3 = slice_set stack2 (top + 1 + 1) y

          abbrev pair4 : List Word
          pair4 = slice_set pair3 (top + 1 + 1 + 1) (integer_word rows)

          abbrev pub pair5 : List Word
          pair5 = slice_set pair4 (top + 1 + 1 + 1 + 1) (integer_word columns)

          second : Turns (pc + 1 + 2 + 2) (top + 1 + 1 + 1) pair3
          second = reads_on valid law few read room2 two u y h1

          room3 : suc code.depth * code.stack ≤ length pair3
          room3 = room_set valid law few read room2 y

          second_room : top + 1 + 1 < length stack2
          second_room = has_room valid law few read room2 two u

          rows_at : slice_get (code_of code.ops.items) (pc + 1 + 2 + 2) ≡ Some (i.Push (Whole rows))
          rows_at = stands_at (code_of code.ops.items) (pc + 1 + 4) (pc + 1 + 2 + 2) (Some (i.Push (Whole rows))) (omega arith) b.rows

          pub rows_small : IsInRange rows
          rows_small = small valid law few second room3 rows rows_at

          rowed : Turns (pc + 1 + 2 + 2 + 1) (top + 1 + 1 + 1 + 1) pair4
          rowed = pushes_on valid law few second room3 rows rows_at

          room4 : suc code.depth * code.stack ≤ length pair4
          room4 = room_set valid law few second room3 (integer_word rows)

          rows_room : top + 1 + 1 + 1 < length pair3
          rows_room = push_has_room valid law few second room3 rows rows_at

          columns_at : slice_get (code_of code.ops.items) (pc + 1 + 2 + 2 + 1) ≡ Some (i.Push (Whole columns))
          columns_at = stands_at (code_of code.ops.items) (pc + 1 + 5) (pc + 1 + 2 + 2 + 1) (Some (i.Push (Whole columns))) (omega arith) b.columns

          pub columns_small : IsInRange columns
          columns_small = small valid law few rowed room4 columns columns_at

          columned : Turns (pc + 1 + 2 + 2 + 1 + 1) (top + 1 + 1 + 1 + 1 + 1) pair5
          columned = pushes_on valid law few rowed room4 columns columns_at

          columns_room : top + 1 + 1 + 1 + 1 < length pair4
          columns_room = push_has_room valid law few rowed room4 columns columns_at

          pair_at : slice_get (code_of code.ops.items) (pc + 1 + 2 + 2 + 1 + 1) ≡ Some (i.Element 2)
          pair_at = stands_at (code_of code.ops.items) (pc + 1 + 6) (pc + 1 + 2 + 2 + 1 + 1) (Some (i.Element 2)) (omega arith) b.element

          pub laid_two : AreLaidTwo first size x y rows columns stack top pair5
          laid_two =
              record {
                within = let w = columned.within in omega (arith, w);
                spot =
                    pile_above pair4 (top + 1 + 1 + 1 + 1) (top + 1) (integer_word columns) (omega arith) ∙ pile_above pair3 (top + 1 + 1 + 1) (top + 1) (integer_word rows) (omega arith) ∙ pile_above stack2 (top + 1 + 1) (top + 1) y (omega arith)
                    ∙ pile_above stack1 (top + 1) (top + 1) x (omega arith) ∙ pile_push stack top (spot_word first size) spot_room;
                one =
                    set_later pair4 (top + 1 + 1 + 1 + 1) (top + 1) (integer_word columns) (omega arith) ∙ set_later pair3 (top + 1 + 1 + 1) (top + 1) (integer_word rows) (omega arith) ∙ set_later stack2 (top + 1 + 1) (top + 1) y (omega arith)
                    ∙ get_set_same stack1 (top + 1) x read_room;
                two =
                    ap (slice_get pair5) (let e : top + 2 ≡ top + 1 + 1 = omega arith in e) ∙ set_later pair4 (top + 1 + 1 + 1 + 1) (top + 1 + 1) (integer_word columns) (omega arith) ∙ set_later pair3 (top + 1 + 1 + 1) (top + 1 + 1) (integer_word rows) (omega arith)
                    ∙ get_set_same stack2 (top + 1 + 1) y second_room;
                rows = ap (slice_get pair5) (let e : top + 3 ≡ top + 1 + 1 + 1 = omega arith in e) ∙ set_later pair4 (top + 1 + 1 + 1 + 1) (top + 1 + 1 + 1) (integer_word columns) (omega arith) ∙ get_set_same pair3 (top + 1 + 1 + 1) (integer_word rows) rows_room;
                columns = ap (slice_get pair5) (let e : top + 4 ≡ top + 1 + 1 + 1 + 1 = omega arith in e) ∙ get_set_same pair4 (top + 1 + 1 + 1 + 1) (integer_word columns) columns_room;
              }

          pub two_on : {new : List Word} {rest : ℕ} → Works (i.Element 2) pair5 (top + 5) new (Ok rest) → rest ≤ length new → Turns (pc + 8) rest new
          two_on {new} {rest} h2 fits = subst (λ n. Turns n rest new) (let e : pc + 1 + 2 + 2 + 1 + 1 + 1 ≡ pc + 8 = omega arith in e) (turn.works_on valid law columned pair_at refl (subst (λ n. Works (i.Element 2) pair5 n new (Ok rest)) (let e : top + 5 ≡ top + 1 + 1 + 1 + 1 + 1 = omega arith in e) h2) fits)

          pub two_over : (new : List Word) {trap : Trap} {executed1 : ℕ} → CountsOne executed from (pc + 7) executed1 → Works (i.Element 2) pair5 (top + 5) new (Err trap) → Ends trap executed1
          two_over new {trap} {executed1} told h2 = turn.works_over valid law columned pair_at (subst (λ n. CountsOne executed from n executed1) (let e : pc + 7 ≡ pc + 1 + 2 + 2 + 1 + 1 = omega arith in e) told) (subst (λ n. Works (i.Element 2) pair5 n new (Err trap)) (let e : top + 5 ≡ top + 1 + 1 + 1 + 1 + 1 = omega arith in e) h2)

          pub two_nearer : Nearer (pc + 8) pc
          two_nearer =
              let a = spot_nearer in
              let b1 = read_nearer in
              let c = reads_nearer valid law few read room2 two u in
              let d = turn.nearer_next valid law second rows_at refl in
              let f = turn.nearer_next valid law rowed columns_at refl in
              let g = subst (λ n. Nearer n (pc + 1 + 2 + 2 + 1 + 1)) (let e : pc + 1 + 2 + 2 + 1 + 1 + 1 ≡ pc + 8 = omega arith in e) (turn.nearer_next valid law columned pair_at refl) in
              omega (arith, a, b1, c, d, f, g)
