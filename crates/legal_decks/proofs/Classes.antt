-- Where no row of places is tied to itself at another offset, the rows stand in classes, each at an offset: so there are numbers that
-- two places have in common exactly where they are one storage unit.
use Rattle.std.proofs.Common.{◌≡◌, ◌≢◌, ◌⊎◌, inl, inr, ℕ, ℤ, pos, ◌+ℤ◌, ◌-ℤ◌, Bool, true, false, cond, List, [], ◌∷◌, Some, None, refl, sym, ap, ◌∙◌, subst, arith, eqb}
use Rattle.std.specs.Prelude.{◌↔◌}
use Rattle.std.specs.List.{Contains}
use Rattle.std.proofs.lemmas.Int.{ints}
use Rattle.std.proofs.lemmas.Bool.{cases_eq, eqb-true, eqb-false}
use Rattle.std.proofs.lemmas.List.Elements.{Contains-append_cases, Contains-append_left, Contains-append_right, Contains-push, Contains-push_cases}
use Rattle.f66_tree.specs.Syntax.{Text}
use Rattle.f66_program.specs.Association.{Row, Own, Block, Tie, IsSame, by_tie, itself, back, onward}
use Rattle.legal_decks.proofs.Codes.{pair, pair_tells, text_number, text_tells, whole_number, whole_tells}

-- ---- rows ----

abbrev row_number : Row → ℕ
row_number (Own u x) = pair 0 (pair u (text_number x))
row_number (Block None) = pair 1 0
row_number (Block (Some x)) = pair 2 (text_number x)

row_tells : (a b : Row) → row_number a ≡ row_number b → a ≡ b
row_tells (Own u x) (Own v y) e =
    let parts = pair_tells u (text_number x) v (text_number y) (pair_tells 0 _ 0 _ e).1 in
    ap (λ (w : ℕ). Own w x) parts.0 ∙ ap (Own v) (text_tells x y parts.1)
row_tells (Own u x) (Block None) e = absurd (let no = (pair_tells 0 _ 1 0 e).0 in omega (arith, no))
row_tells (Own u x) (Block (Some y)) e = absurd (let no = (pair_tells 0 _ 2 _ e).0 in omega (arith, no))
row_tells (Block None) (Own v y) e = absurd (let no = (pair_tells 1 0 0 _ e).0 in omega (arith, no))
row_tells (Block None) (Block None) e = refl
row_tells (Block None) (Block (Some y)) e = absurd (let no = (pair_tells 1 0 2 _ e).0 in omega (arith, no))
row_tells (Block (Some x)) (Own v y) e = absurd (let no = (pair_tells 2 _ 0 _ e).0 in omega (arith, no))
row_tells (Block (Some x)) (Block None) e = absurd (let no = (pair_tells 2 _ 1 0 e).0 in omega (arith, no))
row_tells (Block (Some x)) (Block (Some y)) e = ap (λ (z : Text). Block (Some z)) (text_tells x y (pair_tells 2 _ 2 _ e).1)

-- ---- ties ----

at : {ties : List Tie} {a b : Row} {d e : ℤ} → d ≡ e → IsSame ties a b d → IsSame ties a b e
at {ties} {a} {b} {d} {e} same h = subst (λ (x : ℤ). IsSame ties a b x) same h

wider : (ties more : List Tie) {a b : Row} {d : ℤ} → ((t : Tie) → Contains ties t → Contains more t) → IsSame ties a b d → IsSame more a b d
wider ties more there (by_tie t h) = by_tie t (there t h)
wider ties more there (itself a) = itself a
wider ties more there (back h) = back (wider ties more there h)
wider ties more there (onward h k) = onward (wider ties more there h) (wider ties more there k)

-- each tie fits these classes and offsets
abbrev Fit : List Tie → (Row → ℕ) → (Row → ℤ) → Type 0
Fit ties class offset = (t : Tie) → Contains ties t → (class t.from ≡ class t.to) × (t.by ≡ offset t.from -ℤ offset t.to)

all_fit : (ties : List Tie) (class : Row → ℕ) (offset : Row → ℤ) → Fit ties class offset → {a b : Row} {d : ℤ} → IsSame ties a b d → (class a ≡ class b) × (d ≡ offset a -ℤ offset b)
all_fit ties class offset fit (by_tie t h) = fit t h
all_fit ties class offset fit (itself a) = (refl, omega (arith, ints))
all_fit ties class offset fit (back h) = let g = all_fit ties class offset fit h in (sym g.0, omega (arith, ints, g.1))
all_fit ties class offset fit (onward h k) =
    let g = all_fit ties class offset fit h in
    let q = all_fit ties class offset fit k in
    (g.0 ∙ q.0, omega (arith, ints, g.1, q.1))

-- rows of one class are tied, by the difference of their offsets
abbrev Tied : List Tie → (Row → ℕ) → (Row → ℤ) → Type 0
Tied ties class offset = (a b : Row) → class a ≡ class b → IsSame ties a b (offset a -ℤ offset b)

record AreClassed (ties : List Tie) : Type 0 where
  class : Row → ℕ
  offset : Row → ℤ
  fit : Fit ties class offset
  tied : Tied ties class offset

-- no row is tied to itself at another offset
abbrev pub IsOnce : List Tie → Type 0
IsOnce ties = (a : Row) (d : ℤ) → IsSame ties a a d → d ≡ pos 0

-- ---- one tie more ----

module _ (t : Tie) (ties : List Tie) (old : AreClassed ties) where
  abbrev more : List Tie
  more = t ∷ ties

  behind : (s : Tie) → Contains ties s → Contains more s
  behind s h = Contains-append_right (t ∷ []) ties s h

  here : Contains more t
  here = Contains-append_left (t ∷ []) ties t (Contains-push [] t)

  either : (s : Tie) → Contains more s → (t ≡ s) ⊎ Contains ties s
  either s h = elim (Contains-append_cases (t ∷ []) ties s h) [
    | inr rest ↦ inr rest
    | inl first ↦ elim (Contains-push_cases [] t s first) [ inl none ↦ absurd (omega (arith, none.1)) | inr same ↦ inl same ]
  ]

  -- what holds of the tie and of those behind it
  each : (P : Tie → Type 0) → P t → ((s : Tie) → Contains ties s → P s) → (s : Tie) → Contains more s → P s
  each P first rest s h = elim (either s h) [ inl same ↦ subst P same first | inr there ↦ rest s there ]

  was : (a b : Row) → old.class a ≡ old.class b → IsSame more a b (old.offset a -ℤ old.offset b)
  was a b e = wider ties more behind (old.tied a b e)

  -- between two rows of one class
  within : IsOnce more → old.class t.from ≡ old.class t.to → AreClassed more
  within once same = record {
    class = old.class;
    offset = old.offset;
    fit = each (λ s. (old.class s.from ≡ old.class s.to) × (s.by ≡ old.offset s.from -ℤ old.offset s.to)) (same, by_same) old.fit;
    tied = was;
  }
    where
      by_same : t.by ≡ old.offset t.from -ℤ old.offset t.to
      by_same = let none = once t.from _ (onward (by_tie t here) (back (was t.from t.to same))) in omega (arith, ints, none)

  -- the class of the first row moves into that of the second
  abbrev lost : ℕ
  lost = old.class t.from

  abbrev kept : ℕ
  kept = old.class t.to

  abbrev delta : ℤ
  delta = t.by -ℤ old.offset t.from +ℤ old.offset t.to

  abbrev new_class : Row → ℕ
  new_class a = cond (eqb (old.class a) lost) kept (old.class a)

  abbrev new_offset : Row → ℤ
  new_offset a = cond (eqb (old.class a) lost) (old.offset a +ℤ delta) (old.offset a)

  -- rows of the classes that are joined
  joined : (a b : Row) (x y : Bool) → eqb (old.class a) lost ≡ x → eqb (old.class b) lost ≡ y → cond x kept (old.class a) ≡ cond y kept (old.class b) →
      IsSame more a b (cond x (old.offset a +ℤ delta) (old.offset a) -ℤ cond y (old.offset b +ℤ delta) (old.offset b))
  joined a b true true ea eb e = at (omega (arith, ints)) (was a b (eqb-true _ _ ea ∙ sym (eqb-true _ _ eb)))
  joined a b true false ea eb e = at (omega (arith, ints)) (onward (was a t.from (eqb-true _ _ ea)) (onward (by_tie t here) (was t.to b e)))
  joined a b false true ea eb e = at (omega (arith, ints)) (back (onward (was b t.from (eqb-true _ _ eb)) (onward (by_tie t here) (was t.to a (sym e)))))
  joined a b false false ea eb e = was a b e

  -- a tie that fits still fits
  still : (a b : Row) (d : ℤ) (x y : Bool) → eqb (old.class a) lost ≡ x → eqb (old.class b) lost ≡ y → old.class a ≡ old.class b → d ≡ old.offset a -ℤ old.offset b →
      (cond x kept (old.class a) ≡ cond y kept (old.class b)) × (d ≡ cond x (old.offset a +ℤ delta) (old.offset a) -ℤ cond y (old.offset b +ℤ delta) (old.offset b))
  still a b d true true ea eb e is = (refl, omega (arith, ints, is))
  still a b d true false ea eb e is = absurd (eqb-false _ _ eb (sym e ∙ eqb-true _ _ ea))
  still a b d false true ea eb e is = absurd (eqb-false _ _ ea (e ∙ eqb-true _ _ eb))
  still a b d false false ea eb e is = (e, is)

  -- the tie itself
  now : (x y : Bool) → eqb (old.class t.from) lost ≡ x → eqb (old.class t.to) lost ≡ y → lost ≢ kept →
      (cond x kept (old.class t.from) ≡ cond y kept (old.class t.to)) × (t.by ≡ cond x (old.offset t.from +ℤ delta) (old.offset t.from) -ℤ cond y (old.offset t.to +ℤ delta) (old.offset t.to))
  now true true ea eb differ = absurd (differ (sym (eqb-true _ _ eb)))
  now true false ea eb differ = (refl, omega (arith, ints))
  now false y ea eb differ = absurd (eqb-false _ _ ea refl)

  between : lost ≢ kept → AreClassed more
  between differ = record {
    class = new_class;
    offset = new_offset;
    fit = each (λ s. (new_class s.from ≡ new_class s.to) × (s.by ≡ new_offset s.from -ℤ new_offset s.to)) (now _ _ refl refl differ)
        (λ s h. still s.from s.to s.by _ _ refl refl (old.fit s h).0 (old.fit s h).1);
    tied = λ a b e. joined a b _ _ refl refl e;
  }

  with_tie : IsOnce more → AreClassed more
  with_tie once = elim (cases_eq lost kept) [ inl same ↦ within once same | inr differ ↦ between differ ]

-- ---- all ties ----

classed : (ties : List Tie) → IsOnce ties → AreClassed ties
classed [] once = record {
  class = row_number;
  offset = λ a. pos 0;
  fit = λ t h. absurd (omega (arith, h.1));
  tied = λ a b e. at (omega (arith, ints)) (subst (λ (c : Row). IsSame [] a c (pos 0)) (row_tells a b e) (itself a));
}
classed (t ∷ ties) once = with_tie t ties (classed ties (λ a d h. once a d (wider ties (t ∷ ties) (λ s. Contains-append_right (t ∷ []) ties s) h))) once

-- ---- numbers of places ----

-- numbers of the places of units
abbrev pub Numbers : Type 0
Numbers = ℕ → Text → ℕ → ℕ

-- two places have one number exactly where they are one
abbrev pub Tell : List Tie → Numbers → Type 0
Tell ties number = (u : ℕ) (x : Text) (o v : ℕ) (y : Text) (p : ℕ) → (number u x o ≡ number v y p) ↔ IsSame ties (Own u x) (Own v y) (pos p -ℤ pos o)

pub numbers : (ties : List Tie) → IsOnce ties → (number : Numbers) × Tell ties number
numbers ties once = (number, tell)
  where
    all : AreClassed ties
    all = classed ties once

    number : Numbers
    number u x o = pair (all.class (Own u x)) (whole_number (all.offset (Own u x) +ℤ pos o))

    tell : Tell ties number
    tell u x o v y p = (
      λ e.
          let parts = pair_tells _ _ _ _ e in
          let places = whole_tells _ _ parts.1 in
          at (omega (arith, ints, places)) (all.tied (Own u x) (Own v y) parts.0),
      λ h.
          let fit = all_fit ties all.class all.offset all.fit h in
          let places : all.offset (Own u x) +ℤ pos o ≡ all.offset (Own v y) +ℤ pos p = omega (arith, ints, fit.1) in
          ap (λ (c : ℕ). pair c (whole_number (all.offset (Own u x) +ℤ pos o))) fit.0 ∙ ap (λ (z : ℤ). pair (all.class (Own v y)) (whole_number z)) places,
    )
