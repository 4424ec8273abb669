-- What the code's words find, and what the definition's words find.
use Rattle.std.proofs.lemmas.Grind.{common_steps}
use Rattle.std.proofs.Common.{◌≡◌, ◌+◌, ℕ, zero, suc, Bool, true, false, cond, Option, Some, None, List, [], ◌∷◌, ◌++◌, length, take, drop, refl, ◌∙◌, arith, get_or, ◌<◌, ap, find, filter, map, ◌||◌, ◌&&◌, option_and_then, option_copied, sym}
use Rattle.std.specs.Option.{option_or}
use Rattle.std.specs.Slice.{IsItemAt}
use Rattle.std.proofs.lemmas.Option.{slice_get_past, slice_get_read}
use denote.Bor.{Bor}
use Rattle.std.specs.List.{slice_get, list_any}
use Rattle.std.specs.Str.{bytes_eq}
use Rattle.std.proofs.lemmas.List.{append-nil, take_more, take-append-drop, map-append}
use Rattle.std.proofs.lemmas.List.Elements.{filter-append}
use Rattle.std.proofs.lemmas.Slice.Eq.{bytes_eq-Decides}
use Rattle.rule_table.specs.Words.{first_place, last_place, find_map, repeats}

pub first_place-push : {X : Type 0} (test : X → Bool) (xs : List X) (y : X) →
    first_place test (xs ++ y ∷ []) ≡ option_or (first_place test xs) (cond (test y) (Some (length xs)) None)
first_place-push test [] y = grind arith
first_place-push test (x ∷ xs) y = grind (arith, first_place-push test xs y)

-- a map that has nothing at a name, with a place put there, and looked up at any name
pub note_once : {V : Type 0} (old : List ℕ → Option V) (name q : List ℕ) (place : V) → old name ≡ None →
    cond (bytes_eq name q) (Some place) (old q) ≡ option_or (old q) (cond (bytes_eq q name) (Some place) None)
note_once old name q place absent = grind (arith, bytes_eq-Decides name q, bytes_eq-Decides q name, ap old {x = name} {y = q})

pub last_place-push : {X : Type 0} (test : X → Bool) (xs : List X) (y : X) →
    last_place test (xs ++ y ∷ []) ≡ cond (test y) (Some (length xs)) (last_place test xs)
last_place-push test [] y = grind arith
last_place-push test (x ∷ xs) y = grind (arith, last_place-push test xs y)

-- the first element that passes, after a prefix that has none
pub first_place-found : {X : Type 0} (test : X → Bool) (xs : List X) (i : ℕ) (d : X) →
    first_place test (take i xs) ≡ None → i < length xs → test (get_or xs i d) ≡ true → first_place test xs ≡ Some i
first_place-found test [] i d none h here = absurd (omega arith)
first_place-found test (x ∷ xs) zero d none h here = grind arith
first_place-found test (x ∷ xs) (suc i) d none h here = grind (arith, first_place-found test xs i d)

-- the first element that passes is the one at the first place
pub find-first_place : {X : Type 0} (test : X → Bool) (xs : List X) → find test xs ≡ option_and_then (slice_get xs) (first_place test xs)
find-first_place test [] = refl
find-first_place test (x ∷ xs) = grind (arith, find-first_place test xs)

-- what `get` lends is the element at the place
pub got_at : {X : Type 0} (xs : List X) (i : ℕ) (r : Option (Bor X)) → IsItemAt xs i r → option_copied r ≡ slice_get xs i
got_at xs i None e = sym (slice_get_past xs i e.3)
got_at xs i (Some x) e = sym (slice_get_read xs (length xs) i x.now refl e.3.0 e.1)

pub find_map-push : {X V : Type 0} (f : X → Option V) (xs : List X) (y : X) →
    find_map f (xs ++ y ∷ []) ≡ option_or (find_map f xs) (f y)
find_map-push f [] y = grind arith
find_map-push f (x ∷ xs) y = grind (arith, find_map-push f xs y)

pub list_any-push : {X : Type 0} (test : X → Bool) (xs : List X) (y : X) → list_any test (xs ++ y ∷ []) ≡ (list_any test xs || test y)
list_any-push test [] y = grind arith
list_any-push test (x ∷ xs) y = grind (arith, list_any-push test xs y)

pub filter-push : {X : Type 0} (test : X → Bool) (xs : List X) (y : X) → filter test (xs ++ y ∷ []) ≡ filter test xs ++ cond (test y) (y ∷ []) []
filter-push test [] y = grind arith
filter-push test (x ∷ xs) y = grind (arith, filter-push test xs y)

pub find-push : {X : Type 0} (test : X → Bool) (xs : List X) (y : X) → find test (xs ++ y ∷ []) ≡ option_or (find test xs) (cond (test y) (Some y) None)
find-push test [] y = grind arith
find-push test (x ∷ xs) y = grind (arith, find-push test xs y)

pub list_any_map : {X Y : Type 0} (test : Y → Bool) (f : X → Y) (xs : List X) → list_any test (map f xs) ≡ list_any (λ x. test (f x)) xs
list_any_map test f [] = refl
list_any_map test f (x ∷ xs) = ap (λ b. test (f x) || b) (list_any_map test f xs)

bytes_eq-symm : (xs ys : List ℕ) → bytes_eq xs ys ≡ bytes_eq ys xs
bytes_eq-symm xs ys = grind (arith, bytes_eq-Decides xs ys, bytes_eq-Decides ys xs)

pub repeats-push : (xs : List (List ℕ)) (y : List ℕ) → repeats (xs ++ y ∷ []) ≡ (repeats xs || list_any (bytes_eq y) xs)
repeats-push [] y = grind arith
repeats-push (x ∷ xs) y = grind (arith, repeats-push xs y, list_any-push (bytes_eq x) xs y, bytes_eq-symm x y)

list_any-append : {X : Type 0} (test : X → Bool) (xs ys : List X) → list_any test xs ≡ true → list_any test (xs ++ ys) ≡ true
list_any-append test [] ys e = grind arith
list_any-append test (x ∷ xs) ys e = grind (arith, list_any-append test xs ys)

pub repeats-append : (xs ys : List (List ℕ)) → repeats xs ≡ true → repeats (xs ++ ys) ≡ true
repeats-append [] ys e = grind arith
repeats-append (x ∷ xs) ys e = grind (arith, repeats-append xs ys, list_any-append (bytes_eq x) xs ys)

twice : (xs : List (List ℕ)) (y : List ℕ) → list_any (bytes_eq y) xs ≡ true → repeats (xs ++ y ∷ []) ≡ true
twice xs y e = grind (arith, repeats-push xs y)

maybe_more : {X : Type 0} (f : X → List ℕ) (x : X) (b : Bool) (ys : List X) → repeats (map f ys) ≡ false →
    (b && list_any (bytes_eq (f x)) (map f ys)) ≡ false → repeats (map f (ys ++ cond b (x ∷ []) [])) ≡ false
maybe_more f x true ys old new =
    ap repeats (map-append f ys (x ∷ [])) ∙ repeats-push (map f ys) (f x) ∙ ap (λ b. b || list_any (bytes_eq (f x)) (map f ys)) old ∙ new
maybe_more f x false ys old new = ap (λ zs. repeats (map f zs)) (append-nil ys) ∙ old

read_more : {X : Type 0} (xs : List X) (i : ℕ) (x : X) → i < length xs → x ≡ get_or xs i x → take (i + 1) xs ≡ take i xs ++ x ∷ []
read_more xs i x h is = take_more xs i x h ∙ ap (λ y. take i xs ++ y ∷ []) (sym is)

-- a list around the element that a loop reads
pub around : {X : Type 0} (xs : List X) (i : ℕ) (x : X) → i < length xs → x ≡ get_or xs i x → (take i xs ++ x ∷ []) ++ drop (i + 1) xs ≡ xs
around xs i x h is = ap (λ y. (take i xs ++ y ∷ []) ++ drop (i + 1) xs) is ∙ ap (λ ys. ys ++ drop (i + 1) xs) (sym (take_more xs i x h)) ∙ take-append-drop (i + 1) xs

-- an element that a loop reads and that stood before
pub repeated : {X : Type 0} (f : X → List ℕ) (xs : List X) (i : ℕ) (x : X) → i < length xs → x ≡ get_or xs i x →
    list_any (bytes_eq (f x)) (map f (take i xs)) ≡ true → repeats (map f xs) ≡ true
repeated f xs i x h is e =
    ap (λ ys. repeats (map f ys)) (sym (around xs i x h is))
    ∙ ap repeats (map-append f (take i xs ++ x ∷ []) (drop (i + 1) xs) ∙ ap (λ ys. ys ++ map f (drop (i + 1) xs)) (map-append f (take i xs) (x ∷ [])))
    ∙ repeats-append (map f (take i xs) ++ f x ∷ []) (map f (drop (i + 1) xs)) (twice (map f (take i xs)) (f x) e)

-- the same of those that pass
pub repeated_among : {X : Type 0} (f : X → List ℕ) (test : X → Bool) (xs : List X) (i : ℕ) (x : X) → i < length xs → x ≡ get_or xs i x →
    test x ≡ true → list_any (bytes_eq (f x)) (map f (filter test (take i xs))) ≡ true → repeats (map f (filter test xs)) ≡ true
repeated_among f test xs i x h is t e =
    let kept : filter test (take i xs ++ x ∷ []) ≡ filter test (take i xs) ++ x ∷ [] = filter-push test (take i xs) x ∙ ap (λ b. filter test (take i xs) ++ cond b (x ∷ []) []) t in
    let named : map f (filter test (take i xs ++ x ∷ [])) ≡ map f (filter test (take i xs)) ++ f x ∷ [] = ap (map f) kept ∙ map-append f (filter test (take i xs)) (x ∷ []) in
    ap (λ ys. repeats (map f (filter test ys))) (sym (around xs i x h is))
    ∙ ap (λ ys. repeats (map f ys)) (filter-append test (take i xs ++ x ∷ []) (drop (i + 1) xs))
    ∙ ap repeats (map-append f (filter test (take i xs ++ x ∷ [])) (filter test (drop (i + 1) xs)) ∙ ap (λ ys. ys ++ map f (filter test (drop (i + 1) xs))) named)
    ∙ repeats-append (map f (filter test (take i xs)) ++ f x ∷ []) (map f (filter test (drop (i + 1) xs))) (twice (map f (filter test (take i xs))) (f x) e)

-- an element that a loop reads and that did not stand before
pub not_repeated : {X : Type 0} (f : X → List ℕ) (xs : List X) (i : ℕ) (x : X) → i < length xs → x ≡ get_or xs i x →
    repeats (map f (take i xs)) ≡ false → list_any (bytes_eq (f x)) (map f (take i xs)) ≡ false → repeats (map f (take (i + 1) xs)) ≡ false
not_repeated f xs i x h is old new =
    ap (λ ys. repeats (map f ys)) (read_more xs i x h is) ∙ ap repeats (map-append f (take i xs) (x ∷ []))
    ∙ repeats-push (map f (take i xs)) (f x) ∙ ap (λ b. b || list_any (bytes_eq (f x)) (map f (take i xs))) old ∙ new

pub not_repeated_among : {X : Type 0} (f : X → List ℕ) (test : X → Bool) (xs : List X) (i : ℕ) (x : X) → i < length xs → x ≡ get_or xs i x →
    repeats (map f (filter test (take i xs))) ≡ false → (test x && list_any (bytes_eq (f x)) (map f (filter test (take i xs)))) ≡ false →
    repeats (map f (filter test (take (i + 1) xs))) ≡ false
not_repeated_among f test xs i x h is old new =
    ap (λ ys. repeats (map f (filter test ys))) (read_more xs i x h is) ∙ ap (λ ys. repeats (map f ys)) (filter-push test (take i xs) x)
    ∙ maybe_more f x (test x) (filter test (take i xs)) old new

pub and_left : (a b : Bool) → (a && b) ≡ true → a ≡ true
and_left true b e = refl
and_left false b e = e

pub and_right : (a b : Bool) → (a && b) ≡ true → b ≡ true
and_right true b e = e
and_right false b e = grind arith

pub list_any_filter : {X : Type 0} (test kept : X → Bool) (xs : List X) → list_any test (filter kept xs) ≡ list_any (λ x. kept x && test x) xs
list_any_filter test kept [] = refl
list_any_filter test kept (x ∷ xs) = grind (arith, list_any_filter test kept xs)

pub ruleset place_steps = (common_steps, first_place-push, last_place-push, first_place-found, find_map-push, list_any-push, filter-push, find-push)
