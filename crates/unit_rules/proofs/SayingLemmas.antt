-- What a part of a statement breaks is what the statement of FORTRAN breaks that it is a part of.
use Rattle.std.proofs.Common.{◌≡◌, ◌&&◌, ◌||◌, ℕ, Bool, true, false, not, cond, Option, Some, List, [], ◌∷◌, find, Result, IfOk, refl, ap, sym, ◌∙◌}
use Rattle.std.specs.declared.alloc.AllocError.{AllocError}
use Rattle.std.proofs.lemmas.Result.{IfOk-weaker}
use Rattle.std.specs.List.{list_any}
use Rattle.ground.specs.declared.value.Kind.TheVariants.{Integer, Logical}
use Rattle.rule_table.specs.declared.rule.Rule.{Rule}
use Rattle.rule_table.specs.declared.rule.Rule.TheVariants.{Syntax, NameTooLong, OutOfProfileType, TypeClash, WrongCount, DuplicateName, BadConstant, BadFormat, NotAssignable, LargeArray}
use Rattle.rule_table.specs.FaultRules.{rules, first_rule}
use Rattle.f66_tree.specs.Syntax.{Text, Formula, Ref, Par, Act, Assign, Sign, When, Loop, Continue}
use Rattle.f66_tree.specs.Units.{Context}
use Rattle.f66_names.specs.declared.saying.Saying.{Saying}
use Rattle.f66_names.specs.ActViews.{act_said}
use Rattle.f66_names.specs.Kinds.{counts}
use Rattle.f66_names.specs.NameRules.{is_long, miscounts}
use Rattle.f66_names.specs.Shapes.{is_name, is_parameter, stands}
use Rattle.f66_names.specs.Sorts.{is_array_name, is_real_by_letter}
use Rattle.f66_names.specs.Uses.{Usage, uses_in}
use Rattle.f66_names.proofs.JumpLemmas.{and_true, or_false}
use Rattle.unit_rules.specs.PartRules.{breaks_used}
use Rattle.unit_rules.specs.Roles.{misuses}
use Rattle.unit_rules.specs.Types.{fits, clashes}
use Rattle.unit_rules.specs.UnitRules.{breaks_rule}

pub find_same : {K : Type 0} (f g : K → Bool) (ks : List K) → ((k : K) → f k ≡ g k) → find f ks ≡ find g ks
find_same f g [] same = refl
find_same f g (k ∷ ks) same = ap (λ b. cond b (Some k) (find f ks)) (same k) ∙ ap (λ o. cond (g k) (Some k) o) (find_same f g ks same)

or_twice : (a : Bool) → a ≡ ((a || false) || false)
or_twice a = sym (or_false (a || false) ∙ or_false a)

not_twice : (a : Bool) → a ≡ not (not a)
not_twice true = refl
not_twice false = refl

module _ (c : Context) (acts : List Act) (i : ℕ) where
  pub used : (test : Usage → Bool) (a : Act) → list_any test (uses_in a) ≡ (list_any test (uses_in a) || false)
  used test a = sym (or_false (list_any test (uses_in a)))

  pub counted : (a : Act) → list_any (miscounts c) (uses_in a) ≡ ((list_any (miscounts c) (uses_in a) || false) || false)
  counted a = or_twice (list_any (miscounts c) (uses_in a))

  pub mixed : (a : Act) → list_any (misuses c acts) (uses_in a) ≡ ((list_any (misuses c acts) (uses_in a) || false) || false)
  mixed a = or_twice (list_any (misuses c acts) (uses_in a))

  condition_breaks : (e : Formula) (k : Rule) → breaks_used c acts (uses_in (When e Continue)) (not (stands 0 e)) (not (fits c e Logical)) false k ≡ breaks_rule c acts i (When e Continue) k
  condition_breaks e Syntax = ap not (sym (and_true (stands 0 e && true) ∙ and_true (stands 0 e)))
  condition_breaks e NameTooLong = used (λ u. is_long u.name) (When e Continue)
  condition_breaks e OutOfProfileType = used (λ u. is_real_by_letter c u.name) (When e Continue)
  condition_breaks e TypeClash = or_twice (not (fits c e Logical))
  condition_breaks e WrongCount = counted (When e Continue)
  condition_breaks e DuplicateName = mixed (When e Continue)
  condition_breaks e BadConstant = refl
  condition_breaks e BadFormat = refl
  condition_breaks e NotAssignable = refl
  condition_breaks e LargeArray = refl
  condition_breaks e _ = refl

  value_breaks : (e : Formula) (k : Rule) → breaks_used c acts (uses_in (Sign e 0 0 0)) (not (stands 0 e)) (not (fits c e Integer)) false k ≡ breaks_rule c acts i (Sign e 0 0 0) k
  value_breaks e Syntax = refl
  value_breaks e NameTooLong = used (λ u. is_long u.name) (Sign e 0 0 0)
  value_breaks e OutOfProfileType = used (λ u. is_real_by_letter c u.name) (Sign e 0 0 0)
  value_breaks e TypeClash = sym (or_false (not (fits c e Integer)))
  value_breaks e WrongCount = counted (Sign e 0 0 0)
  value_breaks e DuplicateName = mixed (Sign e 0 0 0)
  value_breaks e BadConstant = refl
  value_breaks e BadFormat = refl
  value_breaks e NotAssignable = refl
  value_breaks e LargeArray = refl
  value_breaks e _ = refl

  counting_breaks : (x : Text) (p q r : Par) (k : Rule) →
      breaks_used c acts (uses_in (Loop 0 x p q r)) (not (is_name x && (is_parameter p && (is_parameter q && is_parameter r)))) (not (counts c x p q r)) (is_array_name c x) k ≡ breaks_rule c acts i (Loop 0 x p q r) k
  counting_breaks x p q r Syntax = refl
  counting_breaks x p q r NameTooLong = used (λ u. is_long u.name) (Loop 0 x p q r)
  counting_breaks x p q r OutOfProfileType = used (λ u. is_real_by_letter c u.name) (Loop 0 x p q r)
  counting_breaks x p q r TypeClash = sym (or_false (not (counts c x p q r)))
  counting_breaks x p q r WrongCount = counted (Loop 0 x p q r)
  counting_breaks x p q r DuplicateName = mixed (Loop 0 x p q r)
  counting_breaks x p q r BadConstant = refl
  counting_breaks x p q r BadFormat = refl
  counting_breaks x p q r NotAssignable = sym (or_false (is_array_name c x))
  counting_breaks x p q r LargeArray = refl
  counting_breaks x p q r _ = refl

  returned_breaks : (x : Text) (e : Formula) (k : Rule) →
      breaks_used c acts (uses_in (Assign (Ref x) e)) (not (is_name x && stands 0 e)) (clashes c (Assign (Ref x) e)) (is_array_name c x) k ≡ breaks_rule c acts i (Assign (Ref x) e) k
  returned_breaks x e Syntax = refl
  returned_breaks x e NameTooLong = used (λ u. is_long u.name) (Assign (Ref x) e)
  returned_breaks x e OutOfProfileType = used (λ u. is_real_by_letter c u.name) (Assign (Ref x) e)
  returned_breaks x e TypeClash = sym (or_false (clashes c (Assign (Ref x) e)))
  returned_breaks x e WrongCount = counted (Assign (Ref x) e)
  returned_breaks x e DuplicateName = mixed (Assign (Ref x) e)
  returned_breaks x e BadConstant = refl
  returned_breaks x e BadFormat = refl
  returned_breaks x e NotAssignable = not_twice (is_array_name c x) ∙ sym (or_false (not (not (is_array_name c x))))
  returned_breaks x e LargeArray = refl
  returned_breaks x e _ = refl

  abbrev part_first : (misformed clashing stored : Bool) (a : Act) → Type 0
  part_first misformed clashing stored a = first_rule (breaks_used c acts (uses_in a) misformed clashing stored) ≡ first_rule (breaks_rule c acts i a)

  -- what the tests of a part in memory tell
  pub part_told : (r : Result (Option Rule) AllocError) (s t : Saying) (m x w misformed clashing stored : Bool) → s ≡ t → m ≡ misformed → x ≡ clashing → w ≡ stored → part_first misformed clashing stored (act_said t) →
      IfOk r (λ o. o ≡ first_rule (breaks_used c acts (uses_in (act_said s)) m x w)) → IfOk r (λ o. o ≡ first_rule (breaks_rule c acts i (act_said s)))
  part_told r s t m x w misformed clashing stored same e f g first told =
      let us = uses_in (act_said t) in
      IfOk-weaker r _ _
      (λ o is.
      is ∙ ap (λ y. first_rule (breaks_used c acts (uses_in (act_said y)) m x w)) same ∙ ap (λ b. first_rule (breaks_used c acts us b x w)) e
      ∙ ap (λ b. first_rule (breaks_used c acts us misformed b w)) f ∙ ap (λ b. first_rule (breaks_used c acts us misformed clashing b)) g ∙ first
      ∙ sym (ap (λ y. first_rule (breaks_rule c acts i (act_said y))) same))
      told

  pub condition_first : (e : Formula) → part_first (not (stands 0 e)) (not (fits c e Logical)) false (When e Continue)
  condition_first e = find_same _ _ rules (condition_breaks e)

  pub value_first : (e : Formula) → part_first (not (stands 0 e)) (not (fits c e Integer)) false (Sign e 0 0 0)
  value_first e = find_same _ _ rules (value_breaks e)

  pub counting_first : (x : Text) (p q r : Par) →
      part_first (not (is_name x && (is_parameter p && (is_parameter q && is_parameter r)))) (not (counts c x p q r)) (is_array_name c x) (Loop 0 x p q r)
  counting_first x p q r = find_same _ _ rules (counting_breaks x p q r)

  pub returned_first : (x : Text) (e : Formula) → part_first (not (is_name x && stands 0 e)) (clashes c (Assign (Ref x) e)) (is_array_name c x) (Assign (Ref x) e)
  returned_first x e = find_same _ _ rules (returned_breaks x e)
