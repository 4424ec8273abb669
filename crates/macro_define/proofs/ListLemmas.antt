-- Lists: positions under a map, and the rest of a list at a place; and steps that follow one another up to a fault.
use Rattle.std.proofs.Common.{◌≡◌, ℕ, zero, suc, ◌+◌, Bool, true, false, not, cond, nat_lt, List, [], ◌∷◌, length, map, drop, refl, sym, ◌∙◌, ap, arith, position, slice_get, Some, None, Result, Ok, Err}
use Rattle.std.specs.Prelude.{Option}
use Rattle.std.specs.List.{position_from, prefix_len}
use Rattle.std.proofs.Math.Nat.{zero-add}
use Rattle.macro_define.specs.Made.{and_then}

prefix_len-map : {A B : Type 0} (p : B → Bool) (f : A → B) (xs : List A) → prefix_len p (map f xs) ≡ prefix_len (λ x. p (f x)) xs
prefix_len-map p f [] = refl
prefix_len-map p f (x ∷ xs) = ap (λ n. cond (p (f x)) (1 + n) 0) (prefix_len-map p f xs)

length-of_map : {A B : Type 0} (f : A → B) (xs : List A) → length (map f xs) ≡ length xs
length-of_map f [] = refl
length-of_map f (x ∷ xs) = ap suc (length-of_map f xs)

pub position-map : {A B : Type 0} (p : B → Bool) (f : A → B) (xs : List A) → position p (map f xs) ≡ position (λ x. p (f x)) xs
position-map p f xs =
    ap (λ n. cond (nat_lt n (length (map f xs))) (Some n) None) (prefix_len-map (λ x. not (p x)) f xs)
    ∙ ap (λ k. cond (nat_lt (prefix_len (λ x. not (p (f x))) xs) k) (Some (prefix_len (λ x. not (p (f x))) xs)) None) (length-of_map f xs)

-- the first place where a test holds, counted on from i
counted_on : {A : Type 0} (p : A → Bool) (i : ℕ) (xs : List A) → Option ℕ
counted_on p i xs = cond (nat_lt (prefix_len (λ x. not (p x)) xs) (length xs)) (Some (i + prefix_len (λ x. not (p x)) xs)) None

counted_next : {A : Type 0} (p : A → Bool) (i : ℕ) (x : A) (xs : List A) (b : Bool) → p x ≡ b → position_from p (i + 1) xs ≡ counted_on p (i + 1) xs
    → cond b (Some i) (position_from p (i + 1) xs) ≡ counted_on p i (x ∷ xs)
unfolding counted_on
counted_next p i x xs true e h = grind (arith, e)
counted_next p i x xs false e h = grind (arith, e, h)

position_from-counted : {A : Type 0} (p : A → Bool) (i : ℕ) (xs : List A) → position_from p i xs ≡ counted_on p i xs
unfolding counted_on
position_from-counted p i [] = refl
position_from-counted p i (x ∷ xs) = counted_next p i x xs (p x) refl (position_from-counted p (i + 1) xs)

pub position-from : {A : Type 0} (p : A → Bool) (xs : List A) → position p xs ≡ position_from p 0 xs
unfolding counted_on
position-from p xs =
    ap (λ n. cond (nat_lt (prefix_len (λ x. not (p x)) xs) (length xs)) (Some n) None) (sym (zero-add (prefix_len (λ x. not (p x)) xs)))
    ∙ sym (position_from-counted p 0 xs)

pub drop-at_none : {A : Type 0} (xs : List A) (n : ℕ) → slice_get xs n ≡ None → drop n xs ≡ []
drop-at_none [] zero h = refl
drop-at_none [] (suc n) h = refl
drop-at_none (x ∷ xs) zero h = cc
drop-at_none (x ∷ xs) (suc n) h = drop-at_none xs n h

pub drop-at_some : {A : Type 0} (xs : List A) (n : ℕ) (x : A) → slice_get xs n ≡ Some x → drop n xs ≡ x ∷ drop (n + 1) xs
drop-at_some [] n x h = absurd cc
drop-at_some (y ∷ xs) zero x h = let same : y ≡ x = cc in ap (λ z. z ∷ xs) same
drop-at_some (y ∷ xs) (suc n) x h =
    let next : suc n + 1 ≡ suc (n + 1) = omega arith in
    drop-at_some xs n x h ∙ ap (λ k. x ∷ drop k (y ∷ xs)) (sym next)

pub and_then-ok : {A E : Type 0} (r : Result A E) → and_then r Ok ≡ r
and_then-ok (Ok a) = refl
and_then-ok (Err e) = refl

pub and_then-assoc : {A B C E : Type 0} (r : Result A E) (f : A → Result B E) (g : B → Result C E) → and_then (and_then r f) g ≡ and_then r (λ a. and_then (f a) g)
and_then-assoc (Ok a) f g = refl
and_then-assoc (Err e) f g = refl

pub and_then-same : {A B E : Type 0} (r : Result A E) (f g : A → Result B E) → ((a : A) → f a ≡ g a) → and_then r f ≡ and_then r g
and_then-same (Ok a) f g same = same a
and_then-same (Err e) f g same = refl
