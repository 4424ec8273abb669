-- Bounds one by one.
use Rattle.std.proofs.Common.{◌≡◌, ◌<◌, ◌+◌, ◌-◌, ℕ, suc, nat_eq, Bool, true, false, ◌&&◌, ◌||◌, List, [], ◌∷◌, length, drop, refl, sym, ap, ◌∙◌, arith}
use Rattle.std.proofs.lemmas.List.{length-drop}
use Rattle.efl_tree.specs.declared.declaration.EflBound.{EflBound}
use Rattle.efl_scope.specs.DataTypes.{is_closed}
use Rattle.efl_types.specs.Declarations.{is_open, are_bounds}
use Rattle.efl_statements.specs.Bounds.{is_bound}

-- ---- tests ----

pub and_assoc : (a b d : Bool) → ((a && b) && d) ≡ (a && (b && d))
and_assoc true b d = refl
and_assoc false b d = refl

pub and_true : (a : Bool) → (a && true) ≡ a
and_true true = refl
and_true false = refl

or_false : (a : Bool) → (a || false) ≡ a
or_false true = refl
or_false false = refl

-- ---- bounds ----

-- nothing stands behind the last one
abbrev none_of : {X : Type 0} → List X → Bool
none_of xs = nat_eq (length xs) 0

nothing_left : (m i : ℕ) → i < m → nat_eq (i + 1) m ≡ nat_eq (m - (i + 1)) 0
nothing_left m i lt = each (nat_eq (i + 1) m) (nat_eq (m - (i + 1)) 0) refl refl
  where
    each : (b d : Bool) → nat_eq (i + 1) m ≡ b → nat_eq (m - (i + 1)) 0 ≡ d → b ≡ d
    each true true one two = refl
    each true false one two = absurd (grind (arith, lt, one, two))
    each false true one two = absurd (grind (arith, lt, one, two))
    each false false one two = refl

pub last_is : {X : Type 0} (xs : List X) (i : ℕ) → i < length xs → nat_eq (i + 1) (length xs) ≡ none_of (drop (i + 1) xs)
last_is xs i lt = nothing_left (length xs) i lt ∙ sym (ap (λ m. nat_eq m 0) (length-drop (i + 1) xs))

some_behind : (m : ℕ) → nat_eq (suc m) 0 ≡ false
some_behind m = grind arith

last_bound : (a b d : Bool) → (a || ((b && true) && d)) ≡ ((a || (b && d)))
last_bound a true d = refl
last_bound a false d = refl

front_bound : (a b d : Bool) → (a || ((b && false) && d)) ≡ a
front_bound a true d = or_false a
front_bound a false d = or_false a

-- one bound, and those behind it
pub bounds_next : (formal : Bool) (b : EflBound) (bs : List EflBound) → are_bounds formal (b ∷ bs) ≡ (is_bound formal (none_of bs) b && are_bounds formal bs)
bounds_next formal b [] = sym (and_true (is_bound formal true b) ∙ last_bound (is_closed b) formal (is_open b))
bounds_next formal b (d ∷ bs) =
    sym (ap (λ last. is_bound formal last b && are_bounds formal (d ∷ bs)) (some_behind (length bs)) ∙ ap (λ x. x && are_bounds formal (d ∷ bs)) (front_bound (is_closed b) formal (is_open b)))
