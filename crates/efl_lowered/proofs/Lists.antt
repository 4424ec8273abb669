-- Lists with the numbers of their elements, and names in them.
use Rattle.std.proofs.Common.{◌≡◌, ℕ, zero, suc, ◌+◌, ◌≤◌, ◌<◌, Bool, true, false, true≢false, cond, List, [], ◌∷◌, map, Option, None, Some, refl, sym, ap, ◌∙◌, arith, ◌||◌, ◌&&◌}
use Rattle.std.specs.Prelude.{nat_eq}
use Rattle.std.specs.List.{list_any, filter, enumerate_from, range_with_len, slice_get}
use Rattle.std.specs.Option.{option_map, is_some}
use Rattle.std.specs.Str.{bytes_eq}
use Rattle.std.proofs.lemmas.Bool.{eqb-true, eq-eqb}
use Rattle.std.proofs.lemmas.Option.{none-some, same_Some}
use Rattle.std.proofs.lemmas.Slice.Eq.{bytes_eq-Decides}
use Rattle.rule_table.specs.Words.{is_some_and}
use Rattle.f66_tree.specs.Syntax.{Text}
use Rattle.f66_tree.specs.Units.{position, one_on}

-- ---- answers ----

pub false_from : (b : Bool) → (b ≡ true → ⊥) → b ≡ false
false_from true h = absurd (h refl)
false_from false h = refl

pub or_left : (a b : Bool) → a ≡ true → (a || b) ≡ true
or_left a b h = ap (λ c. c || b) h

pub or_right : (a b : Bool) → b ≡ true → (a || b) ≡ true
or_right true b h = refl
or_right false b h = h

pub neither : (a b : Bool) → a ≡ false → b ≡ false → (a || b) ≡ false
neither a b h k = ap (λ c. c || b) h ∙ k

pub same_text : (x : Text) → bytes_eq x x ≡ true
same_text x = (bytes_eq-Decides x x).1 refl

pub text_is : (x y : Text) → bytes_eq x y ≡ true → x ≡ y
text_is x y h = (bytes_eq-Decides x y).0 h

-- what passes a test of a value is there
pub some_and : {X : Type 0} (test : X → Bool) (o : Option X) → is_some_and test o ≡ true → (x : X) × (o ≡ Some x) × (test x ≡ true)
some_and test None h = absurd (true≢false (sym h))
some_and test (Some x) h = (x, refl, h)

pub and_some : {X : Type 0} (test : X → Bool) (o : Option X) (x : X) → o ≡ Some x → test x ≡ true → is_some_and test o ≡ true
and_some test o x e h = ap (is_some_and test) e ∙ h

pub some_of : {X : Type 0} (o : Option X) → is_some o ≡ true → (x : X) × (o ≡ Some x)
some_of None h = absurd (true≢false (sym h))
some_of (Some x) h = (x, refl)

pub mapped_some : {X Y : Type 0} (f : X → Y) (o : Option X) (y : Y) → option_map f o ≡ Some y → (x : X) × (o ≡ Some x) × (f x ≡ y)
mapped_some f None y e = absurd (none-some y e)
mapped_some f (Some x) y e = (x, refl, same_Some (f x) y e)

-- ---- numbered elements ----

pub numbered_at : {X Y : Type 0} (f : ℕ × X → Y) (k : ℕ) (xs : List X) (i : ℕ) → slice_get (map f (enumerate_from k xs)) i ≡ option_map (λ x. f (k + i, x)) (slice_get xs i)
numbered_at f k [] i = refl
numbered_at {X} f k (x ∷ xs) zero = let e : k ≡ k + 0 = omega arith in ap {B = Option _} (λ n. Some (f (n, x))) e
numbered_at f k (x ∷ xs) (suc i) = let e : k + 1 + i ≡ k + suc i = omega arith in numbered_at f (k + 1) xs i ∙ ap (λ n. option_map (λ y. f (n, y)) (slice_get xs i)) e

module _ {X : Type 0} (f : ℕ → Text) (test : ℕ × X → Bool) where
  -- the names of the numbers that pass
  abbrev pub names_from : ℕ → List X → List Text
  names_from k xs = map f (map (λ y. y.0) (filter test (enumerate_from k xs)))

  kept : (q : Text) (b : Bool) (n : ℕ) (x : X) (rest : List (ℕ × X)) → list_any (bytes_eq q) (map f (map (λ y. y.0) (cond b ((n, x) ∷ rest) rest))) ≡ ((b && bytes_eq q (f n)) || list_any (bytes_eq q) (map f (map (λ y. y.0) rest)))
  kept q true n x rest = refl
  kept q false n x rest = refl

  pub among : (k : ℕ) (xs : List X) (i : ℕ) (x : X) → slice_get xs i ≡ Some x → test (k + i, x) ≡ true → list_any (bytes_eq (f (k + i))) (names_from k xs) ≡ true
  among k [] i x e h = absurd (none-some x e)
  among k (y ∷ xs) zero x e h =
      let n : k + 0 ≡ k = omega arith in
      let h1 : test (k, y) ≡ true = ap (λ z. test (k, z)) (same_Some y x e) ∙ ap (λ m. test (m, x)) (sym n) ∙ h in
      kept (f (k + 0)) (test (k, y)) k y (filter test (enumerate_from (k + 1) xs))
      ∙ or_left _ _ (ap (λ b. b && bytes_eq (f (k + 0)) (f k)) h1 ∙ ap (λ m. bytes_eq (f m) (f k)) n ∙ same_text (f k))
  among k (y ∷ xs) (suc i) x e h =
      let n : k + 1 + i ≡ k + suc i = omega arith in
      kept (f (k + suc i)) (test (k, y)) k y (filter test (enumerate_from (k + 1) xs))
      ∙ or_right _ _ (ap (λ m. list_any (bytes_eq (f m)) (names_from (k + 1) xs)) (sym n) ∙ among (k + 1) xs i x e (ap (λ m. test (m, x)) n ∙ h))

  pub not_among : (q : Text) (k : ℕ) (xs : List X) → ((i : ℕ) (x : X) → slice_get xs i ≡ Some x → test (k + i, x) ≡ true → bytes_eq q (f (k + i)) ≡ false) → list_any (bytes_eq q) (names_from k xs) ≡ false
  not_among q k [] h = refl
  not_among q k (y ∷ xs) h =
      kept q (test (k, y)) k y (filter test (enumerate_from (k + 1) xs))
      ∙ neither _ _ (by_test (test (k, y)) refl) (not_among q (k + 1) xs (λ i x e t. let n : k + 1 + i ≡ k + suc i = omega arith in ap (λ m. bytes_eq q (f m)) n ∙ h (suc i) x e (ap (λ m. test (m, x)) (sym n) ∙ t)))
    where
      by_test : (b : Bool) → test (k, y) ≡ b → (b && bytes_eq q (f k)) ≡ false
      by_test false e = refl
      by_test true e = let n : k ≡ k + 0 = omega arith in ap (λ m. bytes_eq q (f m)) n ∙ h 0 y refl (ap (λ m. test (m, y)) (sym n) ∙ e)

-- names of so many numbers in a row
pub among_range : (f : ℕ → Text) (a m i : ℕ) → a ≤ i → i < a + m → list_any (bytes_eq (f i)) (map f (range_with_len a m)) ≡ true
among_range f a zero i le lt = absurd (omega (le, lt, arith))
among_range f a (suc m) i le lt = by_first (nat_eq a i) refl (λ on. among_range f (a + 1) m i on (omega (lt, arith)))
  where
    by_first : (b : Bool) → nat_eq a i ≡ b → (a + 1 ≤ i → list_any (bytes_eq (f i)) (map f (range_with_len (a + 1) m)) ≡ true) → list_any (bytes_eq (f i)) (map f (range_with_len a (suc m))) ≡ true
    by_first true e later = or_left _ _ (ap (λ n. bytes_eq (f i) (f n)) (eqb-true a i e) ∙ same_text (f i))
    by_first false e later = or_right _ _ (later (let ne = λ (g : a ≡ i). true≢false (sym (eq-eqb a i g) ∙ e) in omega (le, ne, arith)))

pub not_among_range : (f : ℕ → Text) (q : Text) (a m : ℕ) → ((i : ℕ) → i < a + m → bytes_eq q (f i) ≡ false) → list_any (bytes_eq q) (map f (range_with_len a m)) ≡ false
not_among_range f q a zero h = refl
not_among_range f q a (suc m) h = neither _ _ (h a (omega arith)) (not_among_range f q (a + 1) m (λ i lt. h i (omega (lt, arith))))

-- ---- dummies ----

pub not_listed : (q : Text) (f : ℕ → Text) (vs : List ℕ) → ((i v : ℕ) → slice_get vs i ≡ Some v → bytes_eq q (f v) ≡ false) → list_any (bytes_eq q) (map f vs) ≡ false
not_listed q f [] h = refl
not_listed q f (v ∷ vs) h = neither _ _ (h 0 v refl) (not_listed q f vs (λ i. h (suc i)))

pub no_position : (q : Text) (ys : List Text) → list_any (bytes_eq q) ys ≡ false → position q ys ≡ None
no_position q [] h = refl
no_position q (y ∷ ys) h = by_first (bytes_eq q y) refl (no_position q ys)
  where
    by_first : (b : Bool) → bytes_eq q y ≡ b → (list_any (bytes_eq q) ys ≡ false → position q ys ≡ None) → position q (y ∷ ys) ≡ None
    by_first true e later = absurd (true≢false (sym (or_left (bytes_eq q y) (list_any (bytes_eq q) ys) e) ∙ h))
    by_first false e later = ap (λ b. cond b (Some zero) (one_on (position q ys))) e ∙ ap one_on (later (sym (ap (λ b. b || list_any (bytes_eq q) ys) e) ∙ h))

-- ---- numbers below another ----

-- one of the numbers below n passes
abbrev pub some_below : ℕ → (ℕ → Bool) → Bool
some_below zero f = false
some_below (suc n) f = f n || some_below n f

pub below_some : (n : ℕ) (f : ℕ → Bool) (i : ℕ) → i < n → f i ≡ true → some_below n f ≡ true
below_some zero f i lt h = absurd (omega (lt, arith))
below_some (suc n) f i lt h = by_last (nat_eq n i) refl (λ less. below_some n f i less h)
  where
    by_last : (b : Bool) → nat_eq n i ≡ b → (i < n → some_below n f ≡ true) → some_below (suc n) f ≡ true
    by_last true e later = or_left _ _ (ap f (eqb-true n i e) ∙ h)
    by_last false e later = or_right _ _ (later (let ne = λ (g : n ≡ i). true≢false (sym (eq-eqb n i g) ∙ e) in omega (lt, ne, arith)))

pub some_below_is : (n : ℕ) (f : ℕ → Bool) → some_below n f ≡ true → (i : ℕ) × (i < n) × (f i ≡ true)
some_below_is zero f h = absurd (true≢false (sym h))
some_below_is (suc n) f h = by_last (f n) refl (some_below_is n f)
  where
    by_last : (b : Bool) → f n ≡ b → (some_below n f ≡ true → (i : ℕ) × (i < n) × (f i ≡ true)) → (i : ℕ) × (i < suc n) × (f i ≡ true)
    by_last true e later = (n, omega arith, e)
    by_last false e later = let w = later (sym (ap (λ b. b || some_below n f) e) ∙ h) in (w.0, omega (arith, w.1), w.2)
