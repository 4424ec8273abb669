-- Lists whose elements are all different, and texts of them that do not repeat.
use Rattle.std.proofs.Common.{◌≡◌, ℕ, zero, suc, ◌+◌, ◌≤◌, Bool, true, false, cond, List, [], ◌∷◌, ◌++◌, map, Some, refl, sym, ap, ◌∙◌, subst, arith}
use Rattle.std.specs.Prelude.{⊤}
use Rattle.std.specs.List.{All, list_any, filter, enumerate_from, range_with_len, slice_get}
use Rattle.std.specs.Str.{bytes_eq}
use Rattle.std.proofs.lemmas.List.Elements.{All-nil, All-cons}
use Rattle.std.proofs.lemmas.Option.{none-some, same_Some}
use Rattle.rule_table.specs.Words.{repeats}
use Rattle.f66_tree.specs.Syntax.{Text}
use Rattle.efl_typed.proofs.Each.{Each}
use Rattle.efl_lowered.proofs.Lists.{false_from, neither, text_is}
use Rattle.efl_lowered.proofs.TypedChecks.{each_at, at_each, each_on}
use Rattle.efl_lowered.proofs.TypedVariables.{each_mapped}

-- ---- facts of each element ----

pub each_all : {X : Type 0} (P : X → Type 0) (xs : List X) → Each P xs → All P xs
each_all P [] h = All-nil P
each_all P (x ∷ xs) h = All-cons P x xs h.0 (each_all P xs h.1)

pub each_range : (P : ℕ → Type 0) (a m : ℕ) → ((i : ℕ) → a ≤ i → i + 1 ≤ a + m → P i) → Each P (range_with_len a m)
each_range P a zero h = tt
each_range P a (suc m) h = (h a (omega arith) (omega arith), each_range P (a + 1) m (λ i le lt. h i (omega (le, arith)) (omega (lt, arith))))

module _ {X : Type 0} (test : ℕ × X → Bool) where
  -- the numbers of the elements that pass
  abbrev pub numbers_from : ℕ → List X → List ℕ
  numbers_from k xs = map (λ x. x.0) (filter test (enumerate_from k xs))

  pub each_number : (P : ℕ → Type 0) (k : ℕ) (xs : List X) → ((i : ℕ) (x : X) → slice_get xs i ≡ Some x → test (k + i, x) ≡ true → P (k + i)) → Each P (numbers_from k xs)
  each_number P k [] h = tt
  each_number P k (y ∷ xs) h =
      by_test (test (k, y)) refl
      (each_number P (k + 1) xs (λ i x e t. let n : k + suc i ≡ k + 1 + i = omega arith in subst P n (h (suc i) x e (ap (λ m. test (m, x)) n ∙ t))))
    where
      by_test : (b : Bool) → test (k, y) ≡ b → Each P (numbers_from (k + 1) xs) → Each P (map (λ x. x.0) (cond b ((k, y) ∷ filter test (enumerate_from (k + 1) xs)) (filter test (enumerate_from (k + 1) xs))))
      by_test true e later = let n : k + 0 ≡ k = omega arith in (subst P n (h 0 y refl (ap (λ m. test (m, y)) n ∙ e)), later)
      by_test false e later = later

-- ---- different elements ----

abbrev pub IsOther : {X : Type 0} → X → X → Type 0
IsOther x y = x ≡ y → ⊥

abbrev pub Distinct : {X : Type 0} → List X → Type 0
Distinct [] = ⊤
Distinct (x ∷ xs) = Each (IsOther x) xs × Distinct xs

-- each stands at one place
pub distinct_at : {X : Type 0} (xs : List X) → ((i j : ℕ) (x : X) → slice_get xs i ≡ Some x → slice_get xs j ≡ Some x → i ≡ j) → Distinct xs
distinct_at [] h = tt
distinct_at (x ∷ xs) h = (
  each_at (IsOther x) xs (λ i y e same. let n : 0 ≡ suc i = h 0 (suc i) x refl (e ∙ ap Some (sym same)) in omega (n, arith)),
  distinct_at xs (λ i j y e f. let n : suc i ≡ suc j = h (suc i) (suc j) y e f in omega (n, arith)),
)

pub one_place : {X : Type 0} (xs : List X) → Distinct xs → (i j : ℕ) (x : X) → slice_get xs i ≡ Some x → slice_get xs j ≡ Some x → i ≡ j
one_place [] d i j x e f = absurd (none-some x e)
one_place (y ∷ xs) d zero zero x e f = refl
one_place (y ∷ xs) d zero (suc j) x e f = absurd (at_each (IsOther y) xs d.0 j x f (same_Some y x e))
one_place (y ∷ xs) d (suc i) zero x e f = absurd (at_each (IsOther y) xs d.0 i x e (same_Some y x f))
one_place (y ∷ xs) d (suc i) (suc j) x e f = ap suc (one_place xs d.1 i j x e f)

pub distinct_range : (a m : ℕ) → Distinct (range_with_len a m)
distinct_range a zero = tt
distinct_range a (suc m) = (each_range (IsOther a) (a + 1) m (λ i le lt same. omega (le, same, arith)), distinct_range (a + 1) m)

pub distinct_numbers : {X : Type 0} (test : ℕ × X → Bool) (k : ℕ) (xs : List X) → Distinct (numbers_from test k xs)
distinct_numbers test k [] = tt
distinct_numbers test k (y ∷ xs) = by_test (test (k, y)) (each_number test (IsOther k) (k + 1) xs (λ i x e t same. omega (same, arith))) (distinct_numbers test (k + 1) xs)
  where
    by_test : (b : Bool) → Each (IsOther k) (numbers_from test (k + 1) xs) → Distinct (numbers_from test (k + 1) xs) → Distinct (map (λ x. x.0) (cond b ((k, y) ∷ filter test (enumerate_from (k + 1) xs)) (filter test (enumerate_from (k + 1) xs))))
    by_test true first later = (first, later)
    by_test false first later = later

pub distinct_mapped : {X Y : Type 0} (f : X → Y) → ((x y : X) → f x ≡ f y → x ≡ y) → (xs : List X) → Distinct xs → Distinct (map f xs)
distinct_mapped f same [] h = tt
distinct_mapped f same (x ∷ xs) h = (each_mapped (IsOther (f x)) f xs (others xs h.0), distinct_mapped f same xs h.1)
  where
    others : (ys : List _) → Each (IsOther x) ys → Each (λ y. IsOther (f x) (f y)) ys
    others [] k = tt
    others (y ∷ ys) k = (λ e. k.0 (same x y e), others ys k.1)

-- two lists, of which the elements of one are none of the other
module _ {X : Type 0} (P Q : X → Type 0) (apart : (x y : X) → P x → Q y → x ≡ y → ⊥) where
  none_of : (x : X) (ys : List X) → P x → Each Q ys → Each (IsOther x) ys
  none_of x [] h k = tt
  none_of x (y ∷ ys) h k = (apart x y h k.0, none_of x ys h k.1)

  pub distinct_joined : (xs ys : List X) → Distinct xs → Distinct ys → Each P xs → Each Q ys → Distinct (xs ++ ys)
  distinct_joined [] ys d e h k = e
  distinct_joined (x ∷ xs) ys d e h k = (each_on (IsOther x) xs ys d.0 (none_of x ys h.0 k), distinct_joined xs ys d.1 e h.1 k)

-- ---- texts ----

-- where no two have one text
module _ {X : Type 0} (text : X → Text) (P : X → Type 0) (apart : (x y : X) → P x → P y → text x ≡ text y → x ≡ y) where
  not_again : (x : X) (xs : List X) → P x → Each P xs → Each (IsOther x) xs → list_any (bytes_eq (text x)) (map text xs) ≡ false
  not_again x [] h k d = refl
  not_again x (y ∷ xs) h k d = neither _ _ (false_from (bytes_eq (text x) (text y)) (λ e. d.0 (apart x y h k.0 (text_is (text x) (text y) e)))) (not_again x xs h k.1 d.1)

  pub never_again : (xs : List X) → Each P xs → Distinct xs → repeats (map text xs) ≡ false
  never_again [] h d = refl
  never_again (x ∷ xs) h d = neither _ _ (not_again x xs h.0 h.1 d.0) (never_again xs h.1 d.1)
