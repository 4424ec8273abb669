-- In a program whose scopes have no fault the formals of a procedure are different variables.
use Rattle.std.proofs.Common.{◌≡◌, ℕ, zero, suc, Bool, true, false, true≢false, List, [], ◌∷◌, ◌++◌, Option, None, Some, refl, sym, ap, ◌∙◌, if◌then◌else◌, ◌||◌, ◌&&◌}
use Rattle.std.specs.Prelude.{nat_eq, flat_map, option_map, unwrap_or}
use Rattle.std.specs.List.{list_any, slice_get}
use Rattle.std.specs.Option.{option_or}
use Rattle.std.specs.Str.{bytes_eq}
use Rattle.std.proofs.lemmas.Bool.{eq-eqb}
use Rattle.std.proofs.lemmas.List.Folds.{list_any-append}
use Rattle.std.proofs.lemmas.Option.{none-some, same_Some, slice_get-map}
use Rattle.rule_table.specs.First.{first_part}
use Rattle.rule_table.specs.Words.{find_map}
use Rattle.efl_tree.specs.Syntax.{Text, EflProcedure, EflProgram}
use Rattle.efl_scope.specs.Scopes.{Variable, Implied, IsVariable, variable_of, meaning, implicit_type, implied_of, undeclared, own_variables, outer}
use Rattle.efl_scope.specs.Parts.{Part, around_unit, program_parts}
use Rattle.efl_scope.specs.ScopeRules.{holds, again, names_again, misuses, is_structure, scope_rules}
use Rattle.efl_scope.specs.Uses.{uses_in}
use Rattle.efl_scope.specs.FirstFault.{with_earlier, breaks_with, fault_of, first_fault}
use Rattle.efl_scope.specs.Marks.{Located, same_located, located_at, distinct, program_variables, meant_by, number_of}
use Rattle.efl_typed.specs.Linking.{formals_in}
use Rattle.efl_typed.proofs.Each.{Each, each_flat}
use Rattle.efl_typed.proofs.Accepted.{none_mapped}
use Rattle.efl_typed.proofs.FoundLemmas.{both, neither}
use Rattle.efl_lowered.specs.Facts.{formals}
use Rattle.efl_lowered.proofs.Lists.{or_left, or_right, text_is, same_text, mapped_some}
use Rattle.efl_lowered.proofs.TypedBlocks.{Lists, formal_listed}
use Rattle.efl_lowered.proofs.TypedCalls.{and_true}
use Rattle.efl_lowered.proofs.TypedChecks.{each_fact, Breaks, clean}
use Rattle.efl_lowered.proofs.TypedVariables.{own_parts, placed}
use Rattle.efl_plain.proofs.Distinct.{IsOther, Distinct, one_place}

-- ---- names that do not stand twice ----

again_never : (before xs : List Text) → again before xs ≡ false → Each (λ x. holds before x ≡ false) xs × Distinct xs
again_never before [] h = (tt, tt)
again_never before (x ∷ xs) h =
    let s = neither (holds before x) (again (x ∷ before) xs) h in
    let t = again_never (x ∷ before) xs s.1 in (
      (s.0, each_fact (λ y. holds (x ∷ before) y ≡ false) (λ y. holds before y ≡ false) xs (λ y g. (neither (bytes_eq y x) (holds before y) g).1) t.0),
      (each_fact (λ y. holds (x ∷ before) y ≡ false) (IsOther x) xs (λ y g e. true≢false (sym (ap (bytes_eq y) e ∙ same_text y) ∙ (neither (bytes_eq y x) (holds before y) g).0)) t.0, t.1),
    )

module _ (us : List EflProcedure) where
  abbrev NamesOnce : Part → Type 0
  NamesOnce v = names_again v.around v.form ≡ false

  names_once : (earlier vs : List Part) → Each (Breaks (breaks_with us) scope_rules) (with_earlier earlier vs) → Each NamesOnce vs
  names_once earlier [] h = tt
  names_once earlier (v ∷ vs) h = ((neither (names_again v.around v.form) (list_any (misuses (is_structure v.around.blocks)) (uses_in v.form)) h.0.1.0).0, names_once (earlier ++ v ∷ []) vs h.1)

formals_named_once : (p : EflProgram) → first_fault p ≡ None → (n : ℕ) (u : EflProcedure) → slice_get p.procedures n ≡ Some u → Distinct u.formals
formals_named_once p h n u here =
    let us = p.procedures in
    let parts = with_earlier [] (program_parts p) in
    let all = names_once us [] (program_parts p) (clean (breaks_with us) scope_rules parts (none_mapped fault_of (first_part (breaks_with us) scope_rules parts) h)) in
    (again_never [] u.formals (own_parts (NamesOnce us) us n u here all).0).1

-- ---- a formal means a variable of its name ----

abbrev is_named_so : Text → Variable → Bool
is_named_so x v = bytes_eq x v.name

named_found : (x : Text) (vs : List Variable) → list_any (is_named_so x) vs ≡ true → (w : Variable) × (find_map (variable_of x) vs ≡ Some (IsVariable w)) × (w.name ≡ x)
named_found x [] h = absurd (true≢false (sym h))
named_found x (v ∷ vs) h = by_test (bytes_eq x v.name) refl h (named_found x vs)
  where
    by_test : (b : Bool) → bytes_eq x v.name ≡ b → (b || list_any (is_named_so x) vs) ≡ true → (list_any (is_named_so x) vs ≡ true → (w : Variable) × (find_map (variable_of x) vs ≡ Some (IsVariable w)) × (w.name ≡ x)) →
        (w : Variable) × (option_or (if b then Some (IsVariable v) else None) (find_map (variable_of x) vs) ≡ Some (IsVariable w)) × (w.name ≡ x)
    by_test true e g later = (v, refl, sym (text_is x v.name e))
    by_test false e g later = later g

formal_there : (rules : List Implied) (vs : List Variable) (fs : List Text) (x : Text) → holds fs x ≡ true → (list_any (is_named_so x) vs || list_any (is_named_so x) (undeclared rules vs fs)) ≡ true
formal_there rules vs [] x h = absurd (true≢false (sym h))
formal_there rules vs (y ∷ fs) x h = by_tests (list_any (is_named_so y) vs) (bytes_eq x y) refl refl h (formal_there rules vs fs x)
  where
    by_tests : (b c : Bool) → list_any (is_named_so y) vs ≡ b → bytes_eq x y ≡ c → (c || holds fs x) ≡ true → (holds fs x ≡ true → (list_any (is_named_so x) vs || list_any (is_named_so x) (undeclared rules vs fs)) ≡ true) →
        (list_any (is_named_so x) vs || list_any (is_named_so x) (if b then undeclared rules vs fs else (record { name = y; home = []; kind = implicit_type rules y; area = None } ∷ undeclared rules vs fs))) ≡ true
    by_tests true true e t g later = or_left _ _ (ap (λ z. list_any (is_named_so z) vs) (text_is x y t) ∙ e)
    by_tests true false e t g later = later g
    by_tests false true e t g later = or_right (list_any (is_named_so x) vs) _ (or_left (bytes_eq x y) (list_any (is_named_so x) (undeclared rules vs fs)) t)
    by_tests false false e t g later = ap (λ b. list_any (is_named_so x) vs || (b || list_any (is_named_so x) (undeclared rules vs fs))) t ∙ later g

pub formal_means : (u : EflProcedure) (x : Text) → holds u.formals x ≡ true → (w : Variable) × (meaning (outer u) x ≡ Some (IsVariable w)) × (w.name ≡ x)
formal_means u x h =
    let vs = own_variables u in
    let more = undeclared (implied_of u) vs u.formals in
    let w = named_found x (vs ++ more) (list_any-append (is_named_so x) vs more ∙ formal_there (implied_of u) vs u.formals x h) in
    (w.0, ap (λ o. option_or o None) w.1, w.2)

-- ---- variables with numbers ----

same_itself : (l : Located) → same_located l l ≡ true
same_itself l =
    and_true (nat_eq l.unit l.unit) (bytes_eq l.variable.home l.variable.home && bytes_eq l.variable.name l.variable.name) (eq-eqb l.unit l.unit refl)
    (and_true (bytes_eq l.variable.home l.variable.home) (bytes_eq l.variable.name l.variable.name) (same_text l.variable.home) (same_text l.variable.name))

-- it is among those before, or among the others
abbrev IsKept : List Located → List Located → Located → Type 0
IsKept before ys l = (list_any (same_located l) before || list_any (same_located l) ys) ≡ true

turned : (a b d : Bool) → ((a || b) || d) ≡ true → (b || (a || d)) ≡ true
turned true true d h = refl
turned true false d h = refl
turned false b d h = h

each_kept : (before xs : List Located) → Each (IsKept before (distinct before xs)) xs
each_kept before [] = tt
each_kept before (x ∷ xs) = by_test (list_any (same_located x) before) refl (each_kept before xs) (each_kept (x ∷ before) xs)
  where
    by_test : (b : Bool) → list_any (same_located x) before ≡ b → Each (IsKept before (distinct before xs)) xs → Each (IsKept (x ∷ before) (distinct (x ∷ before) xs)) xs →
        Each (IsKept before (if b then distinct before xs else (x ∷ distinct (x ∷ before) xs))) (x ∷ xs)
    by_test true e f g = (or_left _ _ e, f)
    by_test false e f g = (
      or_right (list_any (same_located x) before) _ (or_left (same_located x x) _ (same_itself x)),
      each_fact (IsKept (x ∷ before) (distinct (x ∷ before) xs)) (IsKept before (x ∷ distinct (x ∷ before) xs)) xs
          (λ l k. turned (same_located l x) (list_any (same_located l) before) (list_any (same_located l) (distinct (x ∷ before) xs)) k) g,
    )

pub held_at : (xs : List Text) (i : ℕ) (x : Text) → slice_get xs i ≡ Some x → holds xs x ≡ true
held_at [] i x e = absurd (none-some x e)
held_at (y ∷ xs) zero x e = or_left (bytes_eq x y) (holds xs x) (ap (bytes_eq x) (same_Some y x e) ∙ same_text x)
held_at (y ∷ xs) (suc i) x e = or_right (bytes_eq x y) (holds xs x) (held_at xs i x e)

module _ (p : EflProgram) (n : ℕ) (u : EflProcedure) (here : slice_get p.procedures n ≡ Some u) where
  abbrev Vs : List Located
  Vs = program_variables p

  abbrev number : Text → ℕ
  number x = number_of Vs n (meant_by [] x (meaning (outer u) x))

  -- the variable with a formal's number has its name
  number_named : (x : Text) → holds u.formals x ≡ true → (z : Located) × (slice_get Vs (number x) ≡ Some z) × (z.variable.name ≡ x)
  number_named x h =
      let us = p.procedures in
      let P = IsKept [] Vs in
      let m = formal_means u x h in
      let all = each_flat P (located_at us) (program_parts p) (each_kept [] (flat_map (located_at us) (program_parts p))) in
      let l : Located = record { unit = n; variable = m.0 } in
      let kept = formal_listed us P n (around_unit n u) u.place u.result u.formals (own_parts (Lists us P) us n u here all).0 x m.0 m.1 h in
      let w = placed (same_located l) Vs kept in
      let same = both (nat_eq n w.1.unit) (bytes_eq m.0.home w.1.variable.home && bytes_eq m.0.name w.1.variable.name) w.4 in
      let name : m.0.name ≡ w.1.variable.name = text_is m.0.name w.1.variable.name (both (bytes_eq m.0.home w.1.variable.home) (bytes_eq m.0.name w.1.variable.name) same.1).1 in
      let place : number x ≡ w.0 = ap (λ o. number_of Vs n (meant_by [] x o)) m.1 ∙ ap (λ o. unwrap_or o 0) w.2 in
      (w.1, ap (slice_get Vs) place ∙ w.3, sym name ∙ m.2)

  number_tells : (x y : Text) → holds u.formals x ≡ true → holds u.formals y ≡ true → number x ≡ number y → x ≡ y
  number_tells x y h k e =
      let a = number_named x h in
      let b = number_named y k in
      let same : a.0 ≡ b.0 = same_Some a.0 b.0 (sym a.1 ∙ ap (slice_get Vs) e ∙ b.1) in
      sym a.2 ∙ ap (λ z. z.variable.name) same ∙ b.2

  listed_once : first_fault p ≡ None → (i j v : ℕ) → slice_get (formals_in Vs n u) i ≡ Some v → slice_get (formals_in Vs n u) j ≡ Some v → i ≡ j
  listed_once scopes i j v e f =
      let a = mapped_some number (slice_get u.formals i) v (sym (slice_get-map number u.formals i) ∙ e) in
      let b = mapped_some number (slice_get u.formals j) v (sym (slice_get-map number u.formals j) ∙ f) in
      let same : a.0 ≡ b.0 = number_tells a.0 b.0 (held_at u.formals i a.0 a.1) (held_at u.formals j b.0 b.1) (a.2 ∙ sym b.2) in
      one_place u.formals (formals_named_once p scopes n u here) i j b.0 (a.1 ∙ ap Some same) b.1

pub formals_once : (p : EflProgram) → first_fault p ≡ None → (n i j v : ℕ) → slice_get (formals p n) i ≡ Some v → slice_get (formals p n) j ≡ Some v → i ≡ j
formals_once p scopes n i j v = by_unit (slice_get p.procedures n) refl
  where
    by_unit : (o : Option EflProcedure) → slice_get p.procedures n ≡ o → slice_get (unwrap_or (option_map (formals_in (program_variables p) n) o) []) i ≡ Some v → slice_get (unwrap_or (option_map (formals_in (program_variables p) n) o) []) j ≡ Some v → i ≡ j
    by_unit None g e f = absurd (none-some v e)
    by_unit (Some u) g e f = listed_once p n u g scopes i j v e f
