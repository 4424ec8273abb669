-- What an element passes, in a list or in a list of lists.
use Rattle.std.proofs.Common.{◌≡◌, ◌<◌, ℕ, zero, suc, Bool, true, false, Option, Some, None, List, [], ◌∷◌, length, get_or, ◌∙◌, arith}
use Rattle.std.specs.Option.{option_or, IfSome}
use Rattle.std.specs.List.{list_any, flat_map}
use Rattle.std.proofs.lemmas.Bool.{both_ways, false_from_ne_true, or_left, or_right}
use Rattle.std.proofs.lemmas.List.Folds.{list_any_at, list_any-append}
use Rattle.rule_table.specs.Words.{find_map}

-- where none passes, the one at a place does not
pub none_at : {X : Type 0} (test : X → Bool) (xs : List X) (i : ℕ) (d : X) → list_any test xs ≡ false → i < length xs → test (get_or xs i d) ≡ false
none_at test xs i d none lt = false_from_ne_true _ (λ e. both_ways _ none (list_any_at test xs i d lt e))

-- one of a list that stands at a place passes
pub any_in : {X Y : Type 0} (test : Y → Bool) (f : X → List Y) (xs : List X) (i : ℕ) (d : X) → i < length xs → list_any test (f (get_or xs i d)) ≡ true → list_any test (flat_map f xs) ≡ true
any_in test f [] i d lt e = absurd (omega (arith, lt))
any_in test f (x ∷ xs) zero d lt e = list_any-append test (f x) (flat_map f xs) ∙ or_left (list_any test (f x)) (list_any test (flat_map f xs)) e
any_in test f (x ∷ xs) (suc i) d lt e =
    list_any-append test (f x) (flat_map f xs) ∙ or_right (list_any test (f x)) (list_any test (flat_map f xs)) (any_in test f xs i d (omega (arith, lt)) e)

pub none_in : {X Y : Type 0} (test : Y → Bool) (f : X → List Y) (xs : List X) (i : ℕ) (d : X) → list_any test (flat_map f xs) ≡ false → i < length xs → list_any test (f (get_or xs i d)) ≡ false
none_in test f xs i d none lt = false_from_ne_true _ (λ e. both_ways _ none (any_in test f xs i d lt e))

-- what holds of a value that one of two gives, and of the first that a list gives
either_keeps : {V : Type 0} (P : V → Type 0) (a b : Option V) → IfSome a P → IfSome b P → IfSome (option_or a b) P
either_keeps P None b p q = q
either_keeps P (Some v) b p q = p

pub first_keeps : {X V : Type 0} (P : V → Type 0) (f : X → Option V) (xs : List X) → ((i : ℕ) (d : X) → i < length xs → IfSome (f (get_or xs i d)) P) → IfSome (find_map f xs) P
first_keeps P f [] h = tt
first_keeps P f (x ∷ xs) h = either_keeps P (f x) (find_map f xs) (h 0 x (omega arith)) (first_keeps P f xs (λ i d lt. h (suc i) d (omega (arith, lt))))
