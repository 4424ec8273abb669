-- Two tables of rules over one statement: what they tell together is the lesser of what each tells.
use Rattle.std.proofs.Common.{◌≡◌, ◌≤◌, ◌<◌, ◌⊎◌, inl, inr, ap, ◌∙◌, Bool, true, false, cond, Option, Some, None, List, [], ◌∷◌, find, ◌||◌, refl, sym, arith}
use Rattle.std.proofs.lemmas.Bool.{cases_lt}
use Rattle.rule_table.specs.declared.rule.Rule.{Rule}
use Rattle.rule_table.specs.FaultRules.{rules, rule_number, first_rule, lesser}
use Rattle.rule_table.proofs.FirstLemmas.{IsAbove, IsRising}
use Rattle.rule_table.proofs.RuleLemmas.{rules-rise}

lesser_left : (k l : Rule) → rule_number k ≤ rule_number l → lesser (Some k) (Some l) ≡ Some k
lesser_left k l h = grind arith

lesser_right : (k l : Rule) → rule_number l < rule_number k → lesser (Some k) (Some l) ≡ Some l
lesser_right k l h = grind arith

one_more : (x y : Rule) (b : Bool) (o : Option Rule) → rule_number x < rule_number y → lesser (Some x) o ≡ Some x → lesser (Some x) (cond b (Some y) o) ≡ Some x
one_more x y true o h rest = lesser_left x y (omega (arith, h))
one_more x y false o h rest = rest

more_behind : (x y : Rule) (b : Bool) (o : Option Rule) → rule_number x < rule_number y → lesser o (Some x) ≡ Some x → lesser (cond b (Some y) o) (Some x) ≡ Some x
more_behind x y true o h rest = lesser_right y x h
more_behind x y false o h rest = rest

-- what the rest of the list tells loses against its first rule
before : (x : Rule) (c : Rule → Bool) (xs : List Rule) → IsAbove rule_number (rule_number x) xs → lesser (Some x) (find c xs) ≡ Some x
before x c [] h = refl
before x c (y ∷ ys) h = one_more x y (c y) (find c ys) h.0 (before x c ys h.1)

behind : (x : Rule) (b : Rule → Bool) (xs : List Rule) → IsAbove rule_number (rule_number x) xs → lesser (find b xs) (Some x) ≡ Some x
behind x b [] h = refl
behind x b (y ∷ ys) h = more_behind x y (b y) (find b ys) h.0 (behind x b ys h.1)

step : (x : Rule) (b c : Rule → Bool) (xs : List Rule) (s t : Bool) → IsAbove rule_number (rule_number x) xs →
    find (λ k. b k || c k) xs ≡ lesser (find b xs) (find c xs) →
    cond (s || t) (Some x) (find (λ k. b k || c k) xs) ≡ lesser (cond s (Some x) (find b xs)) (cond t (Some x) (find c xs))
step x b c xs true true h rest = sym (lesser_left x x (omega arith))
step x b c xs true false h rest = sym (before x c xs h)
step x b c xs false true h rest = sym (behind x b xs h)
step x b c xs false false h rest = rest

find_either : (b c : Rule → Bool) (xs : List Rule) → IsRising rule_number xs → find (λ k. b k || c k) xs ≡ lesser (find b xs) (find c xs)
find_either b c [] h = refl
find_either b c (x ∷ xs) h = step x b c xs (b x) (c x) h.0 (find_either b c xs h.1)

pub lesser-none : (o : Option Rule) → lesser o None ≡ o
lesser-none None = refl
lesser-none (Some k) = refl

assoc_some : (k l m : Rule) → (rule_number l < rule_number k) ⊎ (rule_number k ≤ rule_number l) → (rule_number m < rule_number l) ⊎ (rule_number l ≤ rule_number m) →
    lesser (lesser (Some k) (Some l)) (Some m) ≡ lesser (Some k) (lesser (Some l) (Some m))
assoc_some k l m (inl a) (inl b) =
    ap (λ o. lesser o (Some m)) (lesser_right k l a) ∙ lesser_right l m b ∙ sym (ap (lesser (Some k)) (lesser_right l m b) ∙ lesser_right k m (omega (arith, a, b)))
assoc_some k l m (inl a) (inr b) =
    ap (λ o. lesser o (Some m)) (lesser_right k l a) ∙ lesser_left l m b ∙ sym (ap (lesser (Some k)) (lesser_left l m b) ∙ lesser_right k l a)
assoc_some k l m (inr a) (inl b) = ap (λ o. lesser o (Some m)) (lesser_left k l a) ∙ sym (ap (lesser (Some k)) (lesser_right l m b))
assoc_some k l m (inr a) (inr b) =
    ap (λ o. lesser o (Some m)) (lesser_left k l a) ∙ lesser_left k m (omega (arith, a, b)) ∙ sym (ap (lesser (Some k)) (lesser_left l m b) ∙ lesser_left k l a)

pub lesser-assoc : (a b c : Option Rule) → lesser (lesser a b) c ≡ lesser a (lesser b c)
lesser-assoc None b c = refl
lesser-assoc (Some k) None c = refl
lesser-assoc (Some k) (Some l) None = lesser-none (lesser (Some k) (Some l))
lesser-assoc (Some k) (Some l) (Some m) = assoc_some k l m (cases_lt (rule_number l) (rule_number k)) (cases_lt (rule_number m) (rule_number l))

-- of two tables of rules, the first rule that is broken in one of them
pub first_either : (b c : Rule → Bool) → first_rule (λ k. b k || c k) ≡ lesser (first_rule b) (first_rule c)
first_either b c = find_either b c rules rules-rise
