-- Of rules the lower one is the same in any order, and so the first one of lists in any order.
use Rattle.std.proofs.Common.{◌≡◌, ℕ, nat_le, nat_eq, Bool, true, false, not, ◌&&◌, List, ◌++◌, Option, Some, None, refl, sym, ap, ◌∙◌, arith, if◌then◌else◌}
use Rattle.efl_types.specs.declared.rule.TypeRule.{TypeRule}
use Rattle.efl_types.specs.declared.rule.TypeRule.TheVariants.{OutOfProfileType, TypeClash, WrongCount, DuplicateCase, BadConstant, MissingUnit, BadFormat, NotAssignable, InitialTwice, LargeVariable, ManyValues}
use Rattle.efl_types.specs.TypeRules.{rule_number}
use Rattle.efl_types.specs.Expressions.{when}
use Rattle.efl_expressions.specs.FirstRule.{or_lower, first_rule}
use Rattle.efl_expressions.proofs.RuleLemmas.{lower_assoc, first_of_both, first_of_four}

-- ---- the order does not matter ----

-- the rule of a number
rule_at : ℕ → TypeRule
rule_at m =
    if nat_eq m (rule_number OutOfProfileType) then OutOfProfileType else if nat_eq m (rule_number TypeClash) then TypeClash else
    if nat_eq m (rule_number WrongCount) then WrongCount else if nat_eq m (rule_number DuplicateCase) then DuplicateCase else
    if nat_eq m (rule_number BadConstant) then BadConstant else if nat_eq m (rule_number MissingUnit) then MissingUnit else
    if nat_eq m (rule_number BadFormat) then BadFormat else if nat_eq m (rule_number NotAssignable) then NotAssignable else
    if nat_eq m (rule_number InitialTwice) then InitialTwice else if nat_eq m (rule_number LargeVariable) then LargeVariable else ManyValues

back : (r : TypeRule) → rule_at (rule_number r) ≡ r
unfolding rule_at
back OutOfProfileType = refl
back TypeClash = refl
back WrongCount = refl
back DuplicateCase = refl
back BadConstant = refl
back MissingUnit = refl
back BadFormat = refl
back NotAssignable = refl
back InitialTwice = refl
back LargeVariable = refl
back ManyValues = refl

same_number : (a b : ℕ) → nat_le a b ≡ true → nat_le b a ≡ true → a ≡ b
same_number a b one two = grind (arith, one, two)

never : (a b : ℕ) → nat_le a b ≡ false → nat_le b a ≡ false → ⊥
never a b one two = grind (arith, one, two)

pub lower_comm : (o p : Option TypeRule) → or_lower o p ≡ or_lower p o
lower_comm None None = refl
lower_comm None (Some s) = refl
lower_comm (Some r) None = refl
lower_comm (Some r) (Some s) = each (nat_le (rule_number r) (rule_number s)) (nat_le (rule_number s) (rule_number r)) refl refl
  where
    each : (b d : Bool) → nat_le (rule_number r) (rule_number s) ≡ b → nat_le (rule_number s) (rule_number r) ≡ d → (if b then Some r else Some s) ≡ (if d then Some s else Some r)
    each true true one two = ap Some (sym (back r) ∙ ap rule_at (same_number (rule_number r) (rule_number s) one two) ∙ back s)
    each true false one two = refl
    each false true one two = refl
    each false false one two = absurd (never (rule_number r) (rule_number s) one two)

pub lower_none : (o : Option TypeRule) → or_lower o None ≡ o
lower_none None = refl
lower_none (Some r) = refl

pub lower_turned : (o p q : Option TypeRule) → or_lower o (or_lower p q) ≡ or_lower p (or_lower o q)
lower_turned o p q = sym (lower_assoc o p q) ∙ ap (λ x. or_lower x q) (lower_comm o p) ∙ lower_assoc p o q

pub lower_pairs : (o p q r : Option TypeRule) → or_lower (or_lower o p) (or_lower q r) ≡ or_lower (or_lower o q) (or_lower p r)
lower_pairs o p q r =
    lower_assoc o p (or_lower q r) ∙ ap (or_lower o) (lower_turned p q r) ∙ sym (lower_assoc o q (or_lower p r))

-- ---- lists ----

pub first_of_three : (ps qs rs : List TypeRule) → first_rule (ps ++ qs ++ rs) ≡ or_lower (first_rule ps) (or_lower (first_rule qs) (first_rule rs))
first_of_three ps qs rs = first_of_both (ps ++ qs) rs ∙ ap (λ x. or_lower x (first_rule rs)) (first_of_both ps qs) ∙ lower_assoc (first_rule ps) (first_rule qs) (first_rule rs)

-- what heads and rests break, together
pub first_of_pairs : (ps qs rs ss : List TypeRule) → first_rule ((ps ++ qs) ++ (rs ++ ss)) ≡ or_lower (first_rule (ps ++ rs)) (first_rule (qs ++ ss))
first_of_pairs ps qs rs ss =
    first_of_both (ps ++ qs) (rs ++ ss) ∙ ap (λ x. or_lower x (first_rule (rs ++ ss))) (first_of_both ps qs) ∙ ap (or_lower (or_lower (first_rule ps) (first_rule qs))) (first_of_both rs ss)
    ∙ lower_pairs (first_rule ps) (first_rule qs) (first_rule rs) (first_rule ss)
    ∙ ap (λ x. or_lower x (or_lower (first_rule qs) (first_rule ss))) (sym (first_of_both ps rs)) ∙ ap (or_lower (first_rule (ps ++ rs))) (sym (first_of_both qs ss))

-- two tests of one rule
pub clash_of_both : (a b : Bool) → first_rule (when (not (a && b)) TypeClash) ≡ or_lower (first_rule (when (not a) TypeClash)) (first_rule (when (not b) TypeClash))
clash_of_both true true = refl
clash_of_both true false = refl
clash_of_both false true = refl
clash_of_both false false = refl

-- ---- loops ----

-- one more has been seen
pub passed : (before now own more rest all : Option TypeRule) → more ≡ or_lower own rest → now ≡ or_lower before own → or_lower before more ≡ all → or_lower now rest ≡ all
passed before now own more rest all split next so_far =
    ap (λ x. or_lower x rest) next ∙ lower_assoc before own rest ∙ ap (or_lower before) (sym split) ∙ so_far

-- all have been seen
pub ended : (now rest all : Option TypeRule) → rest ≡ None → or_lower now rest ≡ all → now ≡ all
ended now rest all none so_far = sym (lower_none now) ∙ ap (or_lower now) (sym none) ∙ so_far

-- ---- rules of lists that stand one behind the other ----

pub both_are : (r a b : Option TypeRule) (xs ys : List TypeRule) → r ≡ or_lower a b → a ≡ first_rule xs → b ≡ first_rule ys → r ≡ first_rule (xs ++ ys)
both_are r a b xs ys is one two = is ∙ ap (λ x. or_lower x b) one ∙ ap (or_lower (first_rule xs)) two ∙ sym (first_of_both xs ys)

pub three_are : (r a b : Option TypeRule) (xs ys zs : List TypeRule) → r ≡ or_lower a b → a ≡ first_rule xs → b ≡ first_rule (ys ++ zs) → r ≡ first_rule (xs ++ ys ++ zs)
three_are r a b xs ys zs is one two =
    is ∙ ap (λ x. or_lower x b) one ∙ ap (or_lower (first_rule xs)) (two ∙ first_of_both ys zs) ∙ sym (first_of_three xs ys zs)

pub four_are : (r a b : Option TypeRule) (ws xs ys zs : List TypeRule) → r ≡ or_lower a b → a ≡ first_rule ws → b ≡ first_rule (xs ++ ys ++ zs) → r ≡ first_rule (ws ++ xs ++ ys ++ zs)
four_are r a b ws xs ys zs is one two =
    is ∙ ap (λ x. or_lower x b) one ∙ ap (or_lower (first_rule ws)) (two ∙ first_of_three xs ys zs) ∙ sym (first_of_four ws xs ys zs)

-- of a step: what is asked of the member, its subscripts, what these break, and the steps behind it
pub step_rule : (before now own clash inner : Option TypeRule) (cs ss ps rest : List TypeRule) → now ≡ or_lower before own → own ≡ or_lower clash inner → clash ≡ first_rule cs → inner ≡ first_rule (ss ++ ps) →
    or_lower now (first_rule rest) ≡ or_lower before (first_rule (cs ++ ss ++ ps ++ rest))
step_rule before now own clash inner cs ss ps rest is own_is one two =
    ap (λ x. or_lower x (first_rule rest)) is ∙ lower_assoc before own (first_rule rest)
    ∙ ap (λ x. or_lower before (or_lower x (first_rule rest))) (three_are own clash inner cs ss ps own_is one two)
    ∙ ap (or_lower before) (sym (first_of_both (cs ++ ss ++ ps) rest))

-- of a place: the name, whether a step stands behind a call, what stands in parentheses, and the steps
pub place_rule : (r clash last : Option TypeRule) (ns cs ps ss : List TypeRule) → r ≡ or_lower clash last → clash ≡ first_rule cs → or_lower (first_rule (ns ++ ps)) (first_rule ss) ≡ last →
    first_rule (ns ++ cs ++ ps ++ ss) ≡ r
place_rule r clash last ns cs ps ss is one two =
    first_of_four ns cs ps ss ∙ lower_turned (first_rule ns) (first_rule cs) (or_lower (first_rule ps) (first_rule ss))
    ∙ ap (or_lower (first_rule cs)) (sym (lower_assoc (first_rule ns) (first_rule ps) (first_rule ss)) ∙ ap (λ x. or_lower x (first_rule ss)) (sym (first_of_both ns ps)) ∙ two)
    ∙ ap (λ x. or_lower x last) (sym one) ∙ sym is

pub overlay_rule : (before now clash : Option TypeRule) (cs rest : List TypeRule) → now ≡ or_lower before clash → clash ≡ first_rule cs →
    or_lower now (first_rule rest) ≡ or_lower before (first_rule (cs ++ rest))
overlay_rule before now clash cs rest is one =
    ap (λ x. or_lower x (first_rule rest)) is ∙ lower_assoc before clash (first_rule rest)
    ∙ ap (λ x. or_lower before (or_lower x (first_rule rest))) one ∙ ap (or_lower before) (sym (first_of_both cs rest))
