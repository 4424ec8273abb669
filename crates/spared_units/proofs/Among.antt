-- What a list has among its elements.
use Rattle.std.proofs.Common.{◌≡◌, ◌<◌, ◌⊎◌, inl, inr, ℕ, zero, suc, Bool, true, false, true≢false, List, [], ◌∷◌, ◌++◌, length, get_or, Some, refl, sym, ap, ◌∙◌, arith}
use Rattle.std.specs.Prelude.{◌||◌}
use Rattle.std.specs.List.{Contains, slice_get, flat_map, list_any}
use Rattle.std.proofs.lemmas.Bool.{or_left, or_right}

abbrev pub Among : {X : Type 0} → List X → X → Type 0
Among [] x = ⊥
Among (y ∷ ys) x = (y ≡ x) ⊎ Among ys x

-- ---- by places ----

at_place : {X : Type 0} (xs : List X) (x : X) (i : ℕ) → i < length xs → get_or xs i x ≡ x → Among xs x
at_place [] x i lt e = absurd (omega (arith, lt))
at_place (y ∷ xs) x zero lt e = inl e
at_place (y ∷ xs) x (suc i) lt e = inr (at_place xs x i (omega (arith, lt)) e)

pub among : {X : Type 0} (xs : List X) (x : X) → Contains xs x → Among xs x
among xs x c = at_place xs x c.0 c.1 c.2

pub contained : {X : Type 0} (xs : List X) (x : X) → Among xs x → Contains xs x
contained [] x h = absurd h
contained (y ∷ xs) x (inl e) = (0, omega arith, e)
contained (y ∷ xs) x (inr h) = (let c = contained xs x h in (suc c.0, (let l = c.1 in omega (arith, l)), c.2))

pub got : {X : Type 0} (xs : List X) (x : X) → Among xs x → (i : ℕ) × (slice_get xs i ≡ Some x)
got [] x h = absurd h
got (y ∷ xs) x (inl e) = (0, ap Some e)
got (y ∷ xs) x (inr h) = (let c = got xs x h in (suc c.0, c.1))

pub some_of : {X : Type 0} (x y : X) → Some x ≡ Some y → x ≡ y
some_of x y e = cc

pub among_got : {X : Type 0} (xs : List X) (i : ℕ) (x : X) → slice_get xs i ≡ Some x → Among xs x
among_got [] i x e = absurd (cc)
among_got (y ∷ xs) zero x e = inl (some_of y x e)
among_got (y ∷ xs) (suc i) x e = inr (among_got xs i x e)

-- ---- one list behind another ----

pub split : {X : Type 0} (xs ys : List X) (x : X) → Among (xs ++ ys) x → Among xs x ⊎ Among ys x
split [] ys x h = inr h
split (z ∷ xs) ys x (inl e) = inl (inl e)
split (z ∷ xs) ys x (inr h) = elim (split xs ys x h) [ inl a ↦ inl (inr a) | inr b ↦ inr b ]

pub before : {X : Type 0} (xs ys : List X) (x : X) → Among xs x → Among (xs ++ ys) x
before [] ys x h = absurd h
before (z ∷ xs) ys x (inl e) = inl e
before (z ∷ xs) ys x (inr h) = inr (before xs ys x h)

pub behind : {X : Type 0} (xs ys : List X) (x : X) → Among ys x → Among (xs ++ ys) x
behind [] ys x h = h
behind (z ∷ xs) ys x h = inr (behind xs ys x h)

-- ---- lists of lists ----

pub of_some : {X Y : Type 0} (f : X → List Y) (xs : List X) (y : Y) → Among (flat_map f xs) y → (x : X) × Among xs x × Among (f x) y
of_some f [] y h = absurd h
of_some f (x ∷ xs) y h = elim (split (f x) (flat_map f xs) y h) [ inl a ↦ (x, inl refl, a) | inr b ↦ (let k = of_some f xs y b in (k.0, inr k.1, k.2)) ]

pub in_all : {X Y : Type 0} (f : X → List Y) (xs : List X) (x : X) (y : Y) → Among xs x → Among (f x) y → Among (flat_map f xs) y
in_all f [] x y h k = absurd h
in_all f (z ∷ xs) x y (inl e) k = before (f z) (flat_map f xs) y (rw e k)
in_all f (z ∷ xs) x y (inr h) k = behind (f z) (flat_map f xs) y (in_all f xs x y h k)

-- ---- tests ----

either : (a b : Bool) → (a || b) ≡ true → (a ≡ true) ⊎ (b ≡ true)
either true b e = inl refl
either false b e = inr e

pub passing : {X : Type 0} (test : X → Bool) (xs : List X) → list_any test xs ≡ true → (x : X) × Among xs x × (test x ≡ true)
passing test [] e = absurd (true≢false (sym e))
passing test (x ∷ xs) e = elim (either (test x) (list_any test xs) e) [ inl h ↦ (x, inl refl, h) | inr h ↦ (let k = passing test xs h in (k.0, inr k.1, k.2)) ]

pub passes : {X : Type 0} (test : X → Bool) (xs : List X) (x : X) → Among xs x → test x ≡ true → list_any test xs ≡ true
passes test [] x h e = absurd h
passes test (y ∷ xs) x (inl same) e = or_left (test y) (list_any test xs) (ap test same ∙ e)
passes test (y ∷ xs) x (inr h) e = or_right (test y) (list_any test xs) (passes test xs x h e)

-- truth values that follow from each other are the same
pub same_truth : (a b : Bool) → (a ≡ true → b ≡ true) → (b ≡ true → a ≡ true) → a ≡ b
same_truth true b f g = sym (f refl)
same_truth false true f g = g refl
same_truth false false f g = refl
