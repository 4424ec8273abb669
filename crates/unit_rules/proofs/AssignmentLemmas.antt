-- What an assignment to a place breaks, told by the names that it uses.
use Rattle.std.proofs.Common.{◌≡◌, ◌||◌, ℕ, Bool, true, false, not, Option, List, ◌++◌, Result, IfOk, refl, ap, sym, ◌∙◌}
use Rattle.std.specs.declared.alloc.AllocError.{AllocError}
use Rattle.std.proofs.lemmas.Result.{IfOk-weaker}
use Rattle.std.specs.List.{list_any}
use Rattle.rule_table.specs.declared.rule.Rule.{Rule}
use Rattle.rule_table.specs.declared.rule.Rule.TheVariants.{Syntax, NameTooLong, OutOfProfileType, TypeClash, WrongCount, DuplicateName, BadConstant, BadFormat, NotAssignable, LargeArray}
use Rattle.rule_table.specs.FaultRules.{rules, first_rule}
use Rattle.f66_tree.specs.Syntax.{Formula, Act, Assign}
use Rattle.f66_tree.specs.Units.{Context}
use Rattle.f66_names.specs.NameRules.{is_long, miscounts}
use Rattle.f66_names.specs.Sorts.{is_real_by_letter}
use Rattle.f66_names.specs.StoreRules.{is_readable, stores_wrong}
use Rattle.f66_names.specs.Uses.{Usage, uses_of, uses_in}
use Rattle.f66_names.proofs.JumpLemmas.{or_false}
use Rattle.unit_rules.specs.Forms.{has_form}
use Rattle.unit_rules.specs.Judged.{judged_uses}
use Rattle.unit_rules.specs.PartRules.{breaks_used}
use Rattle.unit_rules.specs.Roles.{misuses}
use Rattle.unit_rules.specs.Types.{clashes}
use Rattle.unit_rules.specs.UnitRules.{breaks_rule}
use Rattle.unit_rules.proofs.JudgedLemmas.{target_same}
use Rattle.unit_rules.proofs.SayingLemmas.{counted, find_same, mixed, used}

module _ (c : Context) (acts : List Act) (i : ℕ) where
  module _ (x e : Formula) (place : is_readable c x ≡ true) where
    all_judged : (f : List Usage → Bool) → f (uses_in (Assign x e)) ≡ f (judged_uses c (Assign x e))
    all_judged f = ap (λ us. f (us ++ uses_of e)) (sym (target_same c x place))

    assigned_breaks : (k : Rule) → breaks_used c acts (uses_in (Assign x e)) (not (has_form (Assign x e))) (clashes c (Assign x e)) (stores_wrong c (Assign x e)) k ≡ breaks_rule c acts i (Assign x e) k
    assigned_breaks Syntax = refl
    assigned_breaks NameTooLong = used c acts i (λ u. is_long u.name) (Assign x e)
    assigned_breaks OutOfProfileType = used c acts i (λ u. is_real_by_letter c u.name) (Assign x e)
    assigned_breaks TypeClash = sym (or_false (clashes c (Assign x e)))
    assigned_breaks WrongCount = counted c acts i (Assign x e) ∙ all_judged (λ us. (list_any (miscounts c) us || false) || false)
    assigned_breaks DuplicateName = mixed c acts i (Assign x e) ∙ all_judged (λ us. (list_any (misuses c acts) us || false) || false)
    assigned_breaks BadConstant = refl
    assigned_breaks BadFormat = refl
    assigned_breaks NotAssignable = sym (or_false (stores_wrong c (Assign x e)))
    assigned_breaks LargeArray = refl
    assigned_breaks _ = refl

  -- what the tests of a statement in memory tell that is an assignment
  pub assignment_told : (r : Result (Option Rule) AllocError) (a : Act) (x e : Formula) → a ≡ Assign x e → is_readable c x ≡ true →
      IfOk r (λ o. o ≡ first_rule (breaks_used c acts (uses_in a) (not (has_form a)) (clashes c a) (stores_wrong c a))) → IfOk r (λ o. o ≡ first_rule (breaks_rule c acts i a))
  assignment_told r a x e same place told =
      IfOk-weaker r _ _
      (λ o is.
      is ∙ ap (λ y. first_rule (breaks_used c acts (uses_in y) (not (has_form y)) (clashes c y) (stores_wrong c y))) same
      ∙ find_same _ _ rules (assigned_breaks x e place)
      ∙ sym (ap (λ y. first_rule (breaks_rule c acts i y)) same))
      told
