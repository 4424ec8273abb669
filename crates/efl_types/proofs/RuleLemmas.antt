-- The first fault of types is the first by the table: no part before it breaks a rule, and its part none of a smaller number.
use Rattle.std.proofs.Common.{◌≡◌, ℕ, [], Some, refl, arith, inl, inr, MatchOption, rules as std_rules}
use Rattle.std.specs.List.{slice_get}
use Rattle.rule_table.specs.First.{IsClean, first_part, part_breaks}
use Rattle.rule_table.proofs.FirstLemmas.{IsIn, IsRising, first_part-first}
use Rattle.efl_tree.specs.Syntax.{EflProgram}
use Rattle.efl_scope.specs.Parts.{program_parts}
use Rattle.efl_scope.specs.FirstFault.{with_earlier}
use Rattle.efl_types.specs.declared.rule.TypeRule.{TypeRule}
use Rattle.efl_types.specs.declared.rule.TypeRule.TheVariants.{OutOfProfileType, TypeClash, WrongCount, DuplicateCase, BadConstant, MissingUnit, BadFormat, NotAssignable, InitialTwice, LargeVariable, ManyValues}
use Rattle.efl_types.specs.TypeRules.{rule_number, type_rules, breaks_with, IsFirstFault}

-- each rule is in the list
full : (r : TypeRule) → IsIn r type_rules
full OutOfProfileType = inl refl
full TypeClash = inr (inl refl)
full WrongCount = inr (inr (inl refl))
full DuplicateCase = inr (inr (inr (inl refl)))
full BadConstant = inr (inr (inr (inr (inl refl))))
full MissingUnit = inr (inr (inr (inr (inr (inl refl)))))
full BadFormat = inr (inr (inr (inr (inr (inr (inl refl))))))
full NotAssignable = inr (inr (inr (inr (inr (inr (inr (inl refl)))))))
full InitialTwice = inr (inr (inr (inr (inr (inr (inr (inr (inl refl))))))))
full LargeVariable = inr (inr (inr (inr (inr (inr (inr (inr (inr (inl refl)))))))))
full ManyValues = inr (inr (inr (inr (inr (inr (inr (inr (inr (inr (inl refl))))))))))

rise : IsRising rule_number type_rules
rise = search (std_rules, arith)

pub first_fault-first : (p : EflProgram) → MatchOption (first_part (breaks_with p.procedures) type_rules (with_earlier [] (program_parts p)))
    (IsClean (part_breaks (breaks_with p.procedures) (with_earlier [] (program_parts p))))
    (λ r. (i : ℕ) × (slice_get (with_earlier [] (program_parts p)) i ≡ Some r.0) × IsFirstFault p i r.1)
first_fault-first p = first_part-first rule_number (breaks_with p.procedures) type_rules rise full (with_earlier [] (program_parts p))
