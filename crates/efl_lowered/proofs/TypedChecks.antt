-- What a program without a fault of its scopes and types gives of each part.
use Rattle.std.proofs.Common.{◌≡◌, ℕ, zero, suc, Bool, true, false, true≢false, List, [], ◌∷◌, ◌++◌, None, Some, refl, sym, ap, ◌∙◌, subst}
use Rattle.std.specs.Prelude.{◌||◌, nat_eq, find, flat_map, option_map}
use Rattle.std.specs.List.{list_any, slice_get}
use Rattle.std.proofs.lemmas.Bool.{eq-eqb}
use Rattle.std.proofs.lemmas.Option.{none-some, same_Some}
use Rattle.rule_table.specs.First.{first_part}
use Rattle.efl_tree.specs.Syntax.{EflProgram}
use Rattle.efl_scope.specs.Parts.{Part, program_parts}
use Rattle.efl_scope.specs.Uses.{uses_in}
use Rattle.efl_scope.specs.ScopeRules.{is_structure, names_out, lays_none, names_again, misuses, scope_rules}
use Rattle.efl_scope.specs.FirstFault as scope_faults
use Rattle.efl_scope.specs.FirstFault.{with_earlier}
use Rattle.efl_types.specs.declared.rule.TypeRule.{TypeRule}
use Rattle.efl_types.specs.declared.rule.TypeRule.TheVariants.{OutOfProfileType, TypeClash, WrongCount, DuplicateCase, BadConstant, MissingUnit, BadFormat, NotAssignable, InitialTwice, LargeVariable, ManyValues}
use Rattle.efl_types.specs.Expressions.{when}
use Rattle.efl_types.specs.TypeRules as type_faults
use Rattle.efl_types.specs.TypeRules.{rule_number, type_rules, part_faults, part_fills, passes_limit, tells, broken_rules}
use Rattle.efl_types.specs.Presets.{meets_earlier}
use Rattle.efl_typed.proofs.Each.{Each}
use Rattle.efl_typed.proofs.Accepted.{none_mapped, none_found, none_chosen}
use Rattle.efl_typed.proofs.FoundLemmas.{neither}
use Rattle.efl_lowered.proofs.TypedRules.{none_left}

-- a fact of each element, by its number
pub each_at : {X : Type 0} (P : X → Type 0) (xs : List X) → ((i : ℕ) (x : X) → slice_get xs i ≡ Some x → P x) → Each P xs
each_at P [] h = tt
each_at P (x ∷ xs) h = (h 0 x refl, each_at P xs (λ i. h (suc i)))

pub at_each : {X : Type 0} (P : X → Type 0) (xs : List X) → Each P xs → (i : ℕ) (x : X) → slice_get xs i ≡ Some x → P x
at_each P [] h i x e = absurd (none-some x e)
at_each P (y ∷ xs) h zero x e = subst P (same_Some y x e) h.0
at_each P (y ∷ xs) h (suc i) x e = at_each P xs h.1 i x e

pub each_fact : {X : Type 0} (P Q : X → Type 0) (xs : List X) → ((x : X) → P x → Q x) → Each P xs → Each Q xs
each_fact P Q [] f h = tt
each_fact P Q (x ∷ xs) f h = (f x h.0, each_fact P Q xs f h.1)

pub each_both : {X : Type 0} (P Q : X → Type 0) (xs : List X) → Each P xs → Each Q xs → Each (λ x. P x × Q x) xs
each_both P Q [] h k = tt
each_both P Q (x ∷ xs) h k = ((h.0, k.0), each_both P Q xs h.1 k.1)

pub each_on : {X : Type 0} (P : X → Type 0) (xs ys : List X) → Each P xs → Each P ys → Each P (xs ++ ys)
each_on P [] ys h k = k
each_on P (x ∷ xs) ys h k = (h.0, each_on P xs ys h.1 k)

-- ---- rules that no part breaks ----

each_fails : {X : Type 0} (test : X → Bool) (xs : List X) → find test xs ≡ None → Each (λ x. test x ≡ false) xs
each_fails test [] h = tt
each_fails test (x ∷ xs) h = let s = none_chosen (test x) x (find test xs) h in (s.0, each_fails test xs s.1)

module _ {K : Type 0} (breaks : List Part × Part → K → Bool) (rules : List K) where
  abbrev pub Breaks : List Part × Part → Type 0
  Breaks t = Each (λ k. breaks t k ≡ false) rules

  abbrev telling : List Part × Part → K → (List Part × Part) × K
  telling t k = (t, k)

  pub clean : (ts : List (List Part × Part)) → first_part breaks rules ts ≡ None → Each Breaks ts
  clean ts h =
      each_fact (λ t. option_map (telling t) (find (breaks t) rules) ≡ None) Breaks ts (λ t e. each_fails (breaks t) rules (none_mapped (telling t) (find (breaks t) rules) e))
      (none_found (λ t. option_map (telling t) (find (breaks t) rules)) ts h)

  of_parts : (P : Part → Type 0) → ((earlier : List Part) (v : Part) → Breaks (earlier, v) → P v) → (earlier vs : List Part) → Each Breaks (with_earlier earlier vs) → Each P vs
  of_parts P f earlier [] h = tt
  of_parts P f earlier (v ∷ vs) h = (f earlier v h.0, of_parts P f (earlier ++ v ∷ []) vs h.1)

-- ---- types ----

same_number : (n : ℕ) → nat_eq n n ≡ true
same_number n = eq-eqb n n refl

-- where none of all rules is told there is none
untold : (r : TypeRule) (rs : List TypeRule) → Each (λ s. tells s (r ∷ rs) ≡ false) type_rules → tells r (r ∷ rs) ≡ false
untold OutOfProfileType rs h = h.0
untold TypeClash rs h = h.1.0
untold WrongCount rs h = h.1.1.0
untold DuplicateCase rs h = h.1.1.1.0
untold BadConstant rs h = h.1.1.1.1.0
untold MissingUnit rs h = h.1.1.1.1.1.0
untold BadFormat rs h = h.1.1.1.1.1.1.0
untold NotAssignable rs h = h.1.1.1.1.1.1.1.0
untold InitialTwice rs h = h.1.1.1.1.1.1.1.1.0
untold LargeVariable rs h = h.1.1.1.1.1.1.1.1.1.0
untold ManyValues rs h = h.1.1.1.1.1.1.1.1.1.1.0

none_told : (rs : List TypeRule) → Each (λ s. tells s rs ≡ false) type_rules → rs ≡ []
none_told [] h = refl
none_told (r ∷ rs) h = absurd (true≢false (sym (ap (λ b. b || list_any (λ s. nat_eq (rule_number r) (rule_number s)) rs) (same_number (rule_number r))) ∙ untold r rs h))

pub no_faults : (p : EflProgram) → type_faults.first_fault p ≡ None → Each (λ v. part_faults p.procedures v ≡ []) (program_parts p)
no_faults p h =
    let us = p.procedures in
    of_parts (type_faults.breaks_with us) type_rules (λ v. part_faults us v ≡ [])
    (λ earlier v b. none_left (part_faults us v) (when (meets_earlier (flat_map (part_fills us) earlier) (part_fills us v)) InitialTwice) (none_left (part_faults us v ++ when (meets_earlier (flat_map (part_fills us) earlier) (part_fills us v)) InitialTwice) (when (passes_limit earlier v) ManyValues) (none_told (broken_rules us earlier v) b)))
    [] (program_parts p) (clean (type_faults.breaks_with us) type_rules (with_earlier [] (program_parts p)) (none_mapped type_faults.fault_of (first_part (type_faults.breaks_with us) type_rules (with_earlier [] (program_parts p))) h))

-- ---- scopes ----

-- a part's types are in the profile, and no structure's name is used as a variable's
pub record IsScoped (v : Part) : Type 0 where
  pub types : names_out (is_structure v.around.blocks) v.form ≡ false
  pub uses : list_any (misuses (is_structure v.around.blocks)) (uses_in v.form) ≡ false

pub no_misuses : (p : EflProgram) → scope_faults.first_fault p ≡ None → Each IsScoped (program_parts p)
no_misuses p h =
    let us = p.procedures in
    of_parts (scope_faults.breaks_with us) scope_rules IsScoped
    (λ earlier v b. record {
      types = (neither (names_out (is_structure v.around.blocks) v.form) (list_any (lays_none (is_structure v.around.blocks)) (uses_in v.form)) b.0).0;
      uses = (neither (names_again v.around v.form) (list_any (misuses (is_structure v.around.blocks)) (uses_in v.form)) b.1.0).1;
    })
    [] (program_parts p) (clean (scope_faults.breaks_with us) scope_rules (with_earlier [] (program_parts p)) (none_mapped scope_faults.fault_of (first_part (scope_faults.breaks_with us) scope_rules (with_earlier [] (program_parts p))) h))
