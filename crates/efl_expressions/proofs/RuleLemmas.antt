-- The first rule of two lists is the lower of both.
use Rattle.std.proofs.Common.{◌≡◌, ℕ, nat_le, Bool, true, false, List, [], ◌∷◌, ◌++◌, Option, Some, None, refl, sym, ap, ◌∙◌, arith, if◌then◌else◌}
use Rattle.efl_types.specs.declared.rule.TypeRule.{TypeRule}
use Rattle.efl_types.specs.TypeRules.{rule_number}
use Rattle.efl_expressions.specs.FirstRule.{or_lower, first_rule}

le_on : (a b c : ℕ) → nat_le a b ≡ true → nat_le b c ≡ true → nat_le a c ≡ true
le_on a b c one two = grind (arith, one, two)

gt_on : (a b c : ℕ) → nat_le a b ≡ false → nat_le b c ≡ false → nat_le a c ≡ false
gt_on a b c one two = grind (arith, one, two)

pub lower_assoc : (o p q : Option TypeRule) → or_lower (or_lower o p) q ≡ or_lower o (or_lower p q)
lower_assoc None p q = refl
lower_assoc (Some r) None q = refl
lower_assoc (Some r) (Some s) None = each (nat_le (rule_number r) (rule_number s))
  where
    each : (b : Bool) → or_lower (if b then Some r else Some s) None ≡ (if b then Some r else Some s)
    each true = refl
    each false = refl
lower_assoc (Some r) (Some s) (Some t) = each (nat_le (rule_number r) (rule_number s)) (nat_le (rule_number s) (rule_number t)) refl refl
  where
    each : (b d : Bool) → nat_le (rule_number r) (rule_number s) ≡ b → nat_le (rule_number s) (rule_number t) ≡ d →
        or_lower (if b then Some r else Some s) (Some t) ≡ or_lower (Some r) (if d then Some s else Some t)
    each true true one two =
        ap (λ x. if x then Some r else Some t) (le_on (rule_number r) (rule_number s) (rule_number t) one two) ∙ sym (ap (λ x. if x then Some r else Some s) one)
    each true false one two = refl
    each false true one two = ap (λ x. if x then Some s else Some t) two ∙ sym (ap (λ x. if x then Some r else Some s) one)
    each false false one two =
        ap (λ x. if x then Some s else Some t) two ∙ sym (ap (λ x. if x then Some r else Some t) (gt_on (rule_number r) (rule_number s) (rule_number t) one two))

pub first_of_both : (rs ss : List TypeRule) → first_rule (rs ++ ss) ≡ or_lower (first_rule rs) (first_rule ss)
first_of_both [] ss = refl
first_of_both (r ∷ rs) ss = ap (or_lower (Some r)) (first_of_both rs ss) ∙ sym (lower_assoc (Some r) (first_rule rs) (first_rule ss))

pub first_of_four : (ps qs rs ss : List TypeRule) → first_rule (ps ++ qs ++ rs ++ ss) ≡ or_lower (first_rule ps) (or_lower (first_rule qs) (or_lower (first_rule rs) (first_rule ss)))
first_of_four ps qs rs ss =
    first_of_both (ps ++ qs ++ rs) ss
    ∙ ap (λ x. or_lower x (first_rule ss)) (first_of_both (ps ++ qs) rs ∙ ap (λ x. or_lower x (first_rule rs)) (first_of_both ps qs))
    ∙ lower_assoc (or_lower (first_rule ps) (first_rule qs)) (first_rule rs) (first_rule ss)
    ∙ lower_assoc (first_rule ps) (first_rule qs) (or_lower (first_rule rs) (first_rule ss))
