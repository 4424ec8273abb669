-- Places in a list: an element's, those of two lists together, and the first and the last place that passes a test.
use Rattle.std.proofs.Common.{◌≡◌, ℕ, zero, suc, ◌+◌, ◌<◌, Bool, true, false, true≢false, cond, List, [], ◌∷◌, ◌++◌, length, Option, Some, None, refl, sym, ap, ◌∙◌, subst, arith, option_map, ◌⊎◌, inl, inr, ⊎_elim, ◌&&◌}
use Rattle.std.specs.Prelude.{nat_lt, nat_eq, not}
use Rattle.std.specs.List.{All, slice_get}
use Rattle.std.proofs.lemmas.Bool.Decides.{nat_tests}
use Rattle.std.proofs.lemmas.Option.{none-some, same_Some}
use Rattle.rule_table.specs.Words.{first_place, last_place, is_below, is_number}
use Rattle.rule_table.proofs.WordLemmas.{last_place-push}
use Rattle.plain_units.proofs.Found.{item_of}

-- in which of two lists an element stands
pub part_at : {X : Type 0} (xs ys : List X) (i : ℕ) (x : X) → slice_get (xs ++ ys) i ≡ Some x →
    ((i < length xs) × (slice_get xs i ≡ Some x)) ⊎ ((j : ℕ) × (i ≡ length xs + j) × (slice_get ys j ≡ Some x))
part_at [] ys i x e = inr (i, omega arith, e)
part_at (y ∷ xs) ys zero x e = inl (omega arith, e)
part_at (y ∷ xs) ys (suc i) x e =
    elim (part_at xs ys i x e) [ inl h ↦ inl (omega (arith, h.0), h.1) | inr h ↦ inr (h.0, omega (arith, h.1), h.2) ]

pub only_at : {X : Type 0} (y x : X) (j : ℕ) → slice_get (y ∷ []) j ≡ Some x → y ≡ x
only_at y x zero e = same_Some y x e
only_at y x (suc j) e = absurd (none-some x e)

pub at_seam : {X : Type 0} (xs ys : List X) (y : X) → slice_get (xs ++ y ∷ ys) (length xs) ≡ Some y
at_seam [] ys y = refl
at_seam (x ∷ xs) ys y = at_seam xs ys y

-- ---- the first place ----

pub first_at : {X : Type 0} (test : X → Bool) (xs : List X) (m : ℕ) → first_place test xs ≡ Some m → (x : X) × (slice_get xs m ≡ Some x) × (test x ≡ true)
first_at test [] m e = absurd (none-some m e)
first_at {X} test (y ∷ xs) m e = go (test y) refl m e (first_at test xs)
  where
    Found : List X → ℕ → Type 0
    Found zs m = (x : X) × (slice_get zs m ≡ Some x) × (test x ≡ true)

    later : (o : Option ℕ) (m : ℕ) → option_map (λ n. n + 1) o ≡ Some m → ((n : ℕ) → o ≡ Some n → Found xs n) → Found (y ∷ xs) m
    later None m e rest = absurd (none-some m e)
    later (Some n) m e rest =
        let is : suc n ≡ m = omega (arith, same_Some (n + 1) m e) in
        let at = rest n refl in
        (at.0, subst (λ k. slice_get (y ∷ xs) k ≡ Some at.0) is at.1, at.2)

    go : (b : Bool) → test y ≡ b → (m : ℕ) → cond b (Some 0) (option_map (λ n. n + 1) (first_place test xs)) ≡ Some m → ((n : ℕ) → first_place test xs ≡ Some n → Found xs n) → Found (y ∷ xs) m
    go true f m e rest = (y, subst (λ k. slice_get (y ∷ xs) k ≡ Some y) (same_Some 0 m e) refl, f)
    go false f m e rest = later (first_place test xs) m e rest

pub first_some : {X : Type 0} (test : X → Bool) (xs : List X) (i : ℕ) (x : X) → slice_get xs i ≡ Some x → test x ≡ true → (m : ℕ) × (first_place test xs ≡ Some m)
first_some test [] i x e h = absurd (none-some x e)
first_some test (y ∷ xs) zero x e h =
    (0, ap (λ b. cond b (Some 0) (option_map (λ n. n + 1) (first_place test xs))) (ap test (same_Some y x e) ∙ h))
first_some test (y ∷ xs) (suc i) x e h = go (test y) (first_some test xs i x e h)
  where
    go : (b : Bool) → (m : ℕ) × (first_place test xs ≡ Some m) → (m : ℕ) × (cond b (Some 0) (option_map (λ n. n + 1) (first_place test xs)) ≡ Some m)
    go true f = (0, refl)
    go false f = (f.0 + 1, ap (option_map (λ n. n + 1)) f.1)

-- the place of an element that alone passes
pub first_is : {X : Type 0} (test : X → Bool) (xs : List X) (i : ℕ) (x : X) → slice_get xs i ≡ Some x → test x ≡ true →
    ((j : ℕ) (y : X) → slice_get xs j ≡ Some y → test y ≡ true → j ≡ i) → first_place test xs ≡ Some i
first_is test xs i x e h alone =
    let found = first_some test xs i x e h in
    let at = first_at test xs found.0 found.1 in
    found.1 ∙ ap (λ k. Some k) (alone found.0 at.0 at.1 at.2)

-- none passes before a place among the first ones, of which none does
pub first_late : {X : Type 0} (test : X → Bool) (xs ys : List X) (i : ℕ) → All (λ x. test x ≡ false) xs → i < length xs → is_below i (first_place test (xs ++ ys)) ≡ false
first_late test xs ys i none lt = go (first_place test (xs ++ ys)) refl
  where
    go : (o : Option ℕ) → first_place test (xs ++ ys) ≡ o → is_below i o ≡ false
    go None e = refl
    go (Some m) e =
        let at = first_at test (xs ++ ys) m e in
        elim (part_at xs ys m at.0 at.1) [
          | inl h ↦ absurd (true≢false (sym at.2 ∙ item_of (λ x. test x ≡ false) xs m at.0 none h.1))
          | inr h ↦ (let past : length xs + h.0 ≡ m = sym h.1 in let no : nat_lt m i ≡ false = grind (arith, nat_tests) in no)
        ]

pub first_none : {X : Type 0} (test : X → Bool) (xs : List X) → ((i : ℕ) (x : X) → slice_get xs i ≡ Some x → test x ≡ false) → first_place test xs ≡ None
first_none test xs none = go (first_place test xs) refl
  where
    go : (o : Option ℕ) → first_place test xs ≡ o → o ≡ None
    go None e = refl
    go (Some m) e = let at = first_at test xs m e in absurd (true≢false (sym at.2 ∙ none m at.0 at.1))

-- ---- the last place ----

-- where the last element passes one test, it alone stands at the last place, so that another one that it passes holds there
pub last_passes : {X : Type 0} (test good : X → Bool) (xs : List X) (last : X) (i : ℕ) (x : X) → test last ≡ true → good last ≡ true →
    slice_get (xs ++ last ∷ []) i ≡ Some x → (is_number i (last_place test (xs ++ last ∷ [])) && not (good x)) ≡ false
last_passes {X} test good xs last i x is so e =
    ap (λ o. is_number i o && not (good x)) (last_place-push test xs last ∙ ap (λ b. cond b (Some (length xs)) (last_place test xs)) is)
    ∙ ⊎_elim before here (part_at xs (last ∷ []) i x e)
  where
    before : (i < length xs) × (slice_get xs i ≡ Some x) → (nat_eq (length xs) i && not (good x)) ≡ false
    before h = let lt : i < length xs = h.0 in let no : nat_eq (length xs) i ≡ false = grind (arith, nat_tests) in ap (λ b. b && not (good x)) no

    and_not : (b c : Bool) → c ≡ true → (b && not c) ≡ false
    and_not true c f = ap not f
    and_not false c f = refl

    here : (j : ℕ) × (i ≡ length xs + j) × (slice_get (last ∷ []) j ≡ Some x) → (nat_eq (length xs) i && not (good x)) ≡ false
    here h = and_not (nat_eq (length xs) i) (good x) (ap good (sym (only_at last x h.0 h.2)) ∙ so)
