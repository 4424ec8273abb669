-- The stack and its values, as the machine holds them.
use Rattle.std.proofs.Common.{◌≡◌, true, false, ℕ, zero, suc, ◌+◌, arith, length, take, drop, ◌++◌, Option, Some, None, List, [], ◌∷◌, refl, sym, ◌∙◌, ap, subst}
use Rattle.std.specs.Prelude.{min, slice_get, MatchOption, is_some}
use Rattle.std.proofs.lemmas.List.{take_all, drop_all}
use Rattle.grammar.specs.Stack.{piled}

drop_at : {A : Type 0} → (xs : List A) → (n : ℕ) → (x : A) → slice_get xs n ≡ Some x → drop n xs ≡ x ∷ drop (suc n) xs
drop_at [] n x e = cc
drop_at (y ∷ xs) zero x e = cc
drop_at (y ∷ xs) (suc n) x e = drop_at xs n x e

drop_past : {A : Type 0} → (xs : List A) → (n : ℕ) → slice_get xs n ≡ None → drop n xs ≡ []
drop_past [] zero e = refl
drop_past [] (suc n) e = refl
drop_past (y ∷ xs) zero e = cc
drop_past (y ∷ xs) (suc n) e = drop_past xs n e

length-piled : {A B : Type 0} → (f : A → B) → (xs : List A) → (old : List B) → length (piled f xs old) ≡ length xs + length old
length-piled f [] old = omega arith
length-piled f (y ∷ xs) old = omega (arith, length-piled f xs (f y ∷ old))

pub piled-append : {A B : Type 0} → (f : A → B) → (xs : List A) → (x : A) → (old : List B) → piled f (xs ++ x ∷ []) old ≡ f x ∷ piled f xs old
piled-append f [] x old = refl
piled-append f (y ∷ xs) x old = piled-append f xs x (f y ∷ old)

pub length-values : {A B : Type 0} → (f : A → B) → (xs : List A) → length (piled f xs []) ≡ length xs
length-values f xs = omega (arith, length-piled f xs [])

-- what stands at a place, and what stands from there on
pub found : {S : Type 0} → (o : Option S) → (xs : List S) → (n m : ℕ) → o ≡ slice_get xs n → m ≡ n →
    MatchOption o (drop m xs ≡ []) (λ x. drop m xs ≡ x ∷ drop (suc m) xs)
found None xs n m e h = subst (λ k. drop k xs ≡ []) (sym h) (drop_past xs n (sym e))
found (Some x) xs n m e h = subst (λ k. drop k xs ≡ x ∷ drop (suc k) xs) (sym h) (drop_at xs n x (sym e))

pub nil_of : {A : Type 0} → (xs : List A) → length xs ≡ 0 → xs ≡ []
nil_of [] h = refl
nil_of (x ∷ xs) h = absurd (omega arith)

pub some_of : {A : Type 0} → (o : Option A) → (B : Type 0) → (C : A → Type 0) → MatchOption o B C → is_some o ≡ true → (x : A) × C x
some_of None B C h e = absurd (let f : false ≡ true = e in cc)
some_of (Some x) B C h e = (x, h)

pub none_of : {A : Type 0} → (o : Option A) → (B : Type 0) → (C : A → Type 0) → MatchOption o B C → is_some o ≡ false → B
none_of None B C h e = h
none_of (Some x) B C h e = absurd (let f : true ≡ false = e in cc)

-- no more than there are
pub take_least : {A : Type 0} → (n m : ℕ) → (xs : List A) → m ≡ min n (length xs) → take m xs ≡ take n xs
take_least zero m xs e =
    let none : m ≡ 0 = omega arith in
    ap (λ k. take k xs) none
take_least (suc n) m [] e = take_all m [] (omega arith) ∙ sym (take_all (suc n) [] (omega arith))
take_least (suc n) zero (x ∷ xs) e = absurd (omega arith)
take_least (suc n) (suc m) (x ∷ xs) e = ap (λ ys. x ∷ ys) (take_least n m xs (omega arith))

pub drop_least : {A : Type 0} → (n m : ℕ) → (xs : List A) → m ≡ min n (length xs) → drop m xs ≡ drop n xs
drop_least zero m xs e =
    let none : m ≡ 0 = omega arith in
    ap (λ k. drop k xs) none
drop_least (suc n) m [] e = drop_all m [] (omega arith) ∙ sym (drop_all (suc n) [] (omega arith))
drop_least (suc n) zero (x ∷ xs) e = absurd (omega arith)
drop_least (suc n) (suc m) (x ∷ xs) e = drop_least n m xs (omega arith)
