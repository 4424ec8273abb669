-- The first fault by the rules, part by part.
use Rattle.std.proofs.Common.{◌≡◌, ◌<◌, ◌+◌, ℕ, Bool, false, Option, Some, None, refl, arith, sym, inl, inr, rules as std_rules, subst}
use Rattle.rule_table.proofs.FirstLemmas.{IsIn, IsRising, find_least, first_at, more_clean}
use Rattle.rule_table.specs.First.{IsLeast, IsFirst}
use Rattle.rule_table.specs.FaultRules.{rules, rule_number, first_rule}
use Rattle.rule_table.specs.declared.rule.Rule.{Rule}
use Rattle.rule_table.specs.declared.rule.Rule.TheVariants.{Syntax, NameTooLong, OutOfProfileType, TypeClash, WrongCount, DuplicateName, BadLabel, BadBreak, DuplicateCase, BadConstant, DoNesting, BadFormat, NotAssignable, LargeArray, LongText, Unbuilt}

-- each rule is in the list
pub rules-full : (r : Rule) → IsIn r rules
rules-full Syntax = inl refl
rules-full NameTooLong = inr (inl refl)
rules-full OutOfProfileType = inr (inr (inl refl))
rules-full TypeClash = inr (inr (inr (inl refl)))
rules-full WrongCount = inr (inr (inr (inr (inl refl))))
rules-full DuplicateName = inr (inr (inr (inr (inr (inl refl)))))
rules-full BadLabel = inr (inr (inr (inr (inr (inr (inl refl))))))
rules-full BadBreak = inr (inr (inr (inr (inr (inr (inr (inl refl)))))))
rules-full DuplicateCase = inr (inr (inr (inr (inr (inr (inr (inr (inl refl))))))))
rules-full BadConstant = inr (inr (inr (inr (inr (inr (inr (inr (inr (inl refl)))))))))
rules-full DoNesting = inr (inr (inr (inr (inr (inr (inr (inr (inr (inr (inl refl))))))))))
rules-full BadFormat = inr (inr (inr (inr (inr (inr (inr (inr (inr (inr (inr (inl refl)))))))))))
rules-full NotAssignable = inr (inr (inr (inr (inr (inr (inr (inr (inr (inr (inr (inr (inl refl))))))))))))
rules-full LargeArray = inr (inr (inr (inr (inr (inr (inr (inr (inr (inr (inr (inr (inr (inl refl)))))))))))))
rules-full LongText = inr (inr (inr (inr (inr (inr (inr (inr (inr (inr (inr (inr (inr (inr (inl refl))))))))))))))
rules-full Unbuilt = inr (inr (inr (inr (inr (inr (inr (inr (inr (inr (inr (inr (inr (inr (inr (inl refl)))))))))))))))

pub rules-rise : IsRising rule_number rules
rules-rise = search (std_rules, arith)

-- the first rule of the list that is broken is the least one
pub first_rule-least : (broken : Rule → Bool) (o : Option Rule) → o ≡ first_rule broken → IsLeast rule_number broken o
first_rule-least broken o e = subst (IsLeast rule_number broken) (sym e) (find_least rule_number broken rules rules-rise rules-full)

-- where a part breaks a rule, after clean parts, its least rule is the first fault
pub part_first : (breaks : ℕ → Rule → Bool) (n : ℕ) (kind : Rule) → Some kind ≡ first_rule (breaks n) →
    ((j : ℕ) (k : Rule) → j < n → breaks j k ≡ false) → IsFirst rule_number breaks n kind
part_first breaks n kind found before = first_at rule_number breaks n kind (first_rule-least (breaks n) (Some kind) found) before

-- a clean part after clean parts
pub part_clean : (breaks : ℕ → Rule → Bool) (n : ℕ) → None ≡ first_rule (breaks n) →
    ((j : ℕ) (k : Rule) → j < n → breaks j k ≡ false) → (j : ℕ) (k : Rule) → j < n + 1 → breaks j k ≡ false
part_clean breaks n found before = more_clean breaks n (first_rule-least (breaks n) None found) before
