-- A part without a fault: each test of the rules that it could break fails.
use Rattle.std.proofs.Common.{◌≡◌, ℕ, ◌≤◌, Bool, true, false, true≢false, List, [], ◌∷◌, ◌++◌, refl, sym, ap, arith}
use Rattle.std.specs.Prelude.{not, max}
use Rattle.std.proofs.Math.Nat.{le-max_left, le-max_right}
use Rattle.ground.specs.declared.value.Kind.{Kind}
use Rattle.ground.specs.declared.value.Kind.TheVariants.{Integer, Logical}
use Rattle.efl_scope.specs.DataTypes.{same_kind}
use Rattle.efl_types.specs.declared.rule.TypeRule.{TypeRule}
use Rattle.efl_types.specs.Expressions.{when}

-- ---- lists of rules ----

abbrev has_none : {X : Type 0} → List X → Bool
has_none [] = true
has_none (x ∷ xs) = false

pub not_none : {X : Type 0} (x : X) (xs : List X) → x ∷ xs ≡ [] → ⊥
not_none x xs h = true≢false (sym (ap has_none h))

pub none_left : {X : Type 0} (xs ys : List X) → xs ++ ys ≡ [] → xs ≡ []
none_left [] ys h = refl
none_left (x ∷ xs) ys h = absurd (not_none x (xs ++ ys) h)

pub none_right : {X : Type 0} (xs ys : List X) → xs ++ ys ≡ [] → ys ≡ []
none_right [] ys h = h
none_right (x ∷ xs) ys h = absurd (not_none x (xs ++ ys) h)

pub none_of_three : {X : Type 0} (xs ys zs : List X) → xs ++ ys ++ zs ≡ [] → (xs ≡ []) × (ys ≡ []) × (zs ≡ [])
none_of_three xs ys zs h = let two = none_left (xs ++ ys) zs h in (none_left xs ys two, none_right xs ys two, none_right (xs ++ ys) zs h)

pub none_of_four : {X : Type 0} (ws xs ys zs : List X) → ws ++ xs ++ ys ++ zs ≡ [] → (ws ≡ []) × (xs ≡ []) × (ys ≡ []) × (zs ≡ [])
none_of_four ws xs ys zs h = let three = none_of_three ws xs ys (none_left (ws ++ xs ++ ys) zs h) in (three.0, three.1, three.2, none_right (ws ++ xs ++ ys) zs h)

pub none_of_five : {X : Type 0} (vs ws xs ys zs : List X) → vs ++ ws ++ xs ++ ys ++ zs ≡ [] → (vs ≡ []) × (ws ≡ []) × (xs ≡ []) × (ys ≡ []) × (zs ≡ [])
none_of_five vs ws xs ys zs h = let four = none_of_four vs ws xs ys (none_left (vs ++ ws ++ xs ++ ys) zs h) in (four.0, four.1, four.2, four.3, none_right (vs ++ ws ++ xs ++ ys) zs h)

pub fails : (b : Bool) (r : TypeRule) → when b r ≡ [] → b ≡ false
fails false r h = refl
fails true r h = absurd (not_none r [] h)

pub holds_by : (b : Bool) (r : TypeRule) → when (not b) r ≡ [] → b ≡ true
holds_by true r h = refl
holds_by false r h = absurd (not_none r [] h)

-- ---- types ----

pub same_kinds : (j k : Kind) → same_kind j k ≡ true → k ≡ j
same_kinds Integer Integer h = refl
same_kinds Logical Logical h = refl
same_kinds Integer Logical h = absurd (true≢false (sym h))
same_kinds Logical Integer h = absurd (true≢false (sym h))

-- ---- the larger one of two numbers ----

pub first_within : (a b r : ℕ) → max a b ≤ r → a ≤ r
first_within a b r h = let l : a ≤ max a b = le-max_left a b in omega (l, h, arith)

pub second_within : (a b r : ℕ) → max a b ≤ r → b ≤ r
second_within a b r h = let l : b ≤ max a b = le-max_right a b in omega (l, h, arith)
