-- What is found in lists: elements, and values that are all the same where there are any.
use Rattle.std.proofs.Common.{◌≡◌, ℕ, zero, suc, Bool, false, List, [], ◌∷◌, ◌++◌, map, Option, None, Some, ◌⊎◌, inl, inr, refl, ap, ◌∙◌, subst}
use Rattle.std.specs.List.{All, list_any, slice_get}
use Rattle.std.specs.Option.{IfSome, option_or, option_map}
use Rattle.std.proofs.lemmas.Bool.{or_from}
use Rattle.std.proofs.lemmas.Option.{none-some, same_Some, slice_get-map, slice_get_within, get_or_from_slice_get}
use Rattle.rule_table.specs.Words.{find_map}

-- ---- elements ----

pub item_of : {X : Type 0} (P : X → Type 0) (xs : List X) (i : ℕ) (x : X) → All P xs → slice_get xs i ≡ Some x → P x
item_of P xs i x all e = subst P (get_or_from_slice_get xs i x x e) (all i x (slice_get_within xs i x e))

-- an element of two lists one behind the other
pub either_get : {X : Type 0} (xs ys : List X) (i : ℕ) (x : X) → slice_get (xs ++ ys) i ≡ Some x → (slice_get xs i ≡ Some x) ⊎ ((j : ℕ) × (slice_get ys j ≡ Some x))
either_get [] ys i x e = inr (i, e)
either_get (y ∷ xs) ys zero x e = inl e
either_get (y ∷ xs) ys (suc i) x e = either_get xs ys i x e

pub map_get : {X Y : Type 0} (f : X → Y) (xs : List X) (i : ℕ) (y : Y) → slice_get (map f xs) i ≡ Some y → (x : X) × (slice_get xs i ≡ Some x) × (f x ≡ y)
map_get f [] i y e = absurd (none-some y e)
map_get f (x ∷ xs) zero y e = (x, refl, same_Some (f x) y e)
map_get f (x ∷ xs) (suc i) y e = map_get f xs i y e

pub get_map : {X Y : Type 0} (f : X → Y) (xs : List X) (i : ℕ) (x : X) → slice_get xs i ≡ Some x → slice_get (map f xs) i ≡ Some (f x)
get_map f xs i x e = slice_get-map f xs i ∙ ap (option_map f) e

-- none of them passes
pub none_passes : {X : Type 0} (test : X → Bool) (xs : List X) → ((i : ℕ) (x : X) → slice_get xs i ≡ Some x → test x ≡ false) → list_any test xs ≡ false
none_passes test [] h = refl
none_passes test (x ∷ xs) h = or_from (test x) (list_any test xs) (h 0 x refl) (none_passes test xs (λ i y e. h (suc i) y e))

-- ---- values ----

-- the value r, or none
abbrev pub Only : {A : Type 0} → A → Option A → Type 0
Only r o = IfSome o (λ v. v ≡ r)

pub either_only : {A : Type 0} (r : A) (o p : Option A) → Only r o → Only r p → Only r (option_or o p)
either_only r None p h k = k
either_only r (Some v) p h k = h

pub either_gives : {A : Type 0} (r : A) (o p : Option A) → Only r o → p ≡ Some r → option_or o p ≡ Some r
either_gives r None p h k = k
either_gives r (Some v) p h k = ap Some h

pub find_only : {X A : Type 0} (r : A) (f : X → Option A) (xs : List X) → ((i : ℕ) (x : X) → slice_get xs i ≡ Some x → Only r (f x)) → Only r (find_map f xs)
find_only r f [] h = tt
find_only r f (x ∷ xs) h = either_only r (f x) (find_map f xs) (h 0 x refl) (find_only r f xs (λ i y e. h (suc i) y e))

-- one of them gives it
pub find_gives : {X A : Type 0} (r : A) (f : X → Option A) (xs : List X) → ((i : ℕ) (x : X) → slice_get xs i ≡ Some x → Only r (f x)) → (i : ℕ) (x : X) → slice_get xs i ≡ Some x → f x ≡ Some r →
    find_map f xs ≡ Some r
find_gives r f [] h i x e is = absurd (none-some x e)
find_gives r f (y ∷ xs) h zero x e is = ap (λ o. option_or o (find_map f xs)) (ap f (same_Some y x e) ∙ is)
find_gives r f (y ∷ xs) h (suc i) x e is = either_gives r (f y) (find_map f xs) (h 0 y refl) (find_gives r f xs (λ j z g. h (suc j) z g) i x e is)

-- none of them gives one
pub find_none : {X A : Type 0} (f : X → Option A) (xs : List X) → ((i : ℕ) (x : X) → slice_get xs i ≡ Some x → f x ≡ None) → find_map f xs ≡ None
find_none f [] h = refl
find_none f (x ∷ xs) h = ap (λ o. option_or o (find_map f xs)) (h 0 x refl) ∙ find_none f xs (λ i y e. h (suc i) y e)
