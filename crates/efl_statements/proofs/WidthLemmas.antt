-- The room that items leave, and what items break, one by one.
use Rattle.std.proofs.Common.{◌≡◌, ℕ, nat_le, ◌+◌, ◌-◌, Bool, true, false, not, ◌&&◌, ◌||◌, List, [], ◌∷◌, Option, Some, None, is_some, sum_by, flat_map, refl, sym, ap, ◌∙◌, arith, if◌then◌else◌}
use Rattle.std.specs.List.{list_all}
use Rattle.std.proofs.lemmas.List.Sums.{sum_by-cons}
use Rattle.efl_types.specs.declared.rule.TypeRule.{TypeRule}
use Rattle.efl_types.specs.Statements.{is_width}
use Rattle.efl_expressions.specs.FirstRule.{or_lower, first_rule}
use Rattle.efl_expressions.proofs.RuleLemmas.{first_of_both}
use Rattle.efl_statements.specs.Widths.{room_after, fit_into}

-- ---- widths ----

never : (b : Bool) → (b && false) ≡ false
never true = refl
never false = refl

too_wide : (w s r : ℕ) → nat_le w r ≡ false → nat_le (w + s) r ≡ false
too_wide w s r wide = grind (arith, wide)

moved : (w s r : ℕ) → nat_le w r ≡ true → nat_le (w + s) r ≡ nat_le s (r - w)
moved w s r fits = each (nat_le (w + s) r) (nat_le s (r - w)) refl refl
  where
    each : (b d : Bool) → nat_le (w + s) r ≡ b → nat_le s (r - w) ≡ d → b ≡ d
    each true true one two = refl
    each true false one two = absurd (grind (arith, fits, one, two))
    each false true one two = absurd (grind (arith, fits, one, two))
    each false false one two = refl

-- one item more
pub fit_next : {X : Type 0} (f : X → ℕ) (o : Option ℕ) (x : X) (xs : List X) → fit_into f (room_after o (f x)) xs ≡ fit_into f o (x ∷ xs)
fit_next f None x xs = refl
fit_next f (Some r) x xs =
    each (is_width (f x)) (nat_le (f x) r) refl ∙ sym (ap (λ m. (is_width (f x) && list_all (λ y. is_width (f y)) xs) && nat_le m r) (sum_by-cons f x xs))
  where
    each : (b d : Bool) → nat_le (f x) r ≡ d →
        fit_into f (if b && d then Some (r - f x) else None) xs ≡ ((b && list_all (λ y. is_width (f y)) xs) && nat_le (f x + sum_by f xs) r)
    each false d is = refl
    each true false is = sym (ap (λ c. list_all (λ y. is_width (f y)) xs && c) (too_wide (f x) (sum_by f xs) r is) ∙ never (list_all (λ y. is_width (f y)) xs))
    each true true is = sym (ap (λ c. list_all (λ y. is_width (f y)) xs && c) (moved (f x) (sum_by f xs) r is))

zero_fits : (r : ℕ) → true ≡ nat_le 0 r
zero_fits r = grind arith

-- no item more
pub fit_end : {X : Type 0} (f : X → ℕ) (o : Option ℕ) → is_some o ≡ fit_into f o []
fit_end f None = refl
fit_end f (Some r) = zero_fits r

-- ---- rules ----

-- what items break, together
abbrev pub all_rule : {X : Type 0} → (X → List TypeRule) → List X → Option TypeRule
all_rule g xs = first_rule (flat_map g xs)

pub all_next : {X : Type 0} (g : X → List TypeRule) (x : X) (xs : List X) → all_rule g (x ∷ xs) ≡ or_lower (first_rule (g x)) (all_rule g xs)
all_next g x xs = first_of_both (g x) (flat_map g xs)

-- ---- both tests of widths ----

pub format_is : (a b : Bool) → not (a && b) ≡ (not a || not b)
format_is true b = refl
format_is false b = refl
