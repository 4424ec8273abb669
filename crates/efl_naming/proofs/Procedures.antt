-- Procedures of a program without a fault have names of their own, and what is called is one of them.
use Rattle.std.proofs.Common.{◌≡◌, ℕ, zero, suc, ◌+◌, Bool, true, false, true≢false, List, [], ◌∷◌, Option, None, Some, refl, sym, ap, ◌∙◌, arith, if◌then◌else◌, ◌&&◌, ◌||◌}
use Rattle.std.specs.Prelude.{nat_eq, filter_map, option_map, unwrap_or, is_some}
use Rattle.std.specs.List.{list_any, slice_get, cons_option}
use Rattle.std.specs.Str.{bytes_eq}
use Rattle.std.proofs.lemmas.Bool.{eqb-true}
use Rattle.std.proofs.lemmas.Option.{none-some, same_Some}
use Rattle.rule_table.specs.Words.{is_some_and}
use Rattle.ground.specs.Faults.{fault_at}
use Rattle.ground.specs.declared.fault.FaultKind.TheVariants.{DuplicateUnit}
use Rattle.efl_tree.specs.Syntax.{Text, EflProcedure, EflProgram}
use Rattle.efl_scope.specs.Parts.{Part, program_parts}
use Rattle.efl_scope.specs.Uses.{Use, Named, Applied, Laid, uses_in}
use Rattle.efl_scope.specs.ScopeRules.{holds}
use Rattle.efl_types.specs.Signatures.{Names, known, applied}
use Rattle.efl_types.specs.Types as types
use Rattle.efl_types.specs.TypeRules.{names_of}
use Rattle.efl_types.specs.Whole.{is_taken, names_before, first_taken, number_of, called_by, called_in, calls_in, program_calls, edges_of, TellsWhole}
use Rattle.efl_typed.proofs.Each.{Each, OfAny}
use Rattle.efl_typed.proofs.Accepted.{none_of_two, none_mapped}
use Rattle.efl_typed.proofs.FoundLemmas.{neither, both}
use Rattle.efl_lowered.specs.Lowering.{calls}
use Rattle.efl_lowered.proofs.Lists.{same_text}
use Rattle.efl_lowered.proofs.TypedVariables.{each_joined, each_mapped}
use Rattle.efl_lowered.proofs.TypedReady.{no_count_fault}
use Rattle.efl_naming.proofs.Numbers.{first_there}

-- ---- names ----

untaken : (before : List EflProcedure) (u : EflProcedure) (us : List EflProcedure) → first_taken before (u ∷ us) ≡ None → (is_some_and (is_taken (names_before before)) u.name ≡ false) × (first_taken (u ∷ before) us ≡ None)
untaken before u us h = by_test (is_some_and (is_taken (names_before before)) u.name) h
  where
    by_test : (b : Bool) → (if b then Some u.place else first_taken (u ∷ before) us) ≡ None → (b ≡ false) × (first_taken (u ∷ before) us ≡ None)
    by_test true e = absurd (none-some u.place (sym e))
    by_test false e = (refl, e)

-- no procedure before has the name of a later one
not_before : (before us : List EflProcedure) → first_taken before us ≡ None → (m : ℕ) (u : EflProcedure) (y : Text) → slice_get us m ≡ Some u → u.name ≡ Some y → holds (names_before before) y ≡ false
not_before before [] h m u y e named = absurd (none-some u e)
not_before before (w ∷ us) h zero u y e named =
    let free : is_some_and (is_taken (names_before before)) (Some y) ≡ false = ap (is_some_and (is_taken (names_before before))) (sym named ∙ sym (ap (λ v. v.name) (same_Some w u e))) ∙ (untaken before w us h).0 in
    (neither (holds (names_before before) y) (is_some (known y)) free).0
not_before before (w ∷ us) h (suc m) u y e named = by_name w.name (not_before (w ∷ before) us (untaken before w us h).1 m u y e named)
  where
    by_name : (o : Option Text) → holds (cons_option o (names_before before)) y ≡ false → holds (names_before before) y ≡ false
    by_name None g = g
    by_name (Some z) g = (neither (bytes_eq y z) (holds (names_before before) y) g).1

first_named : (before us : List EflProcedure) → first_taken before us ≡ None → (m : ℕ) (u : EflProcedure) (y : Text) → slice_get us m ≡ Some u → u.name ≡ Some y → number_of us y ≡ Some m
first_named before [] h m u y e named = absurd (none-some u e)
first_named before (w ∷ us) h zero u y e named = ap (λ b. if b then Some 0 else option_map (λ n. n + 1) (number_of us y)) (ap (λ v. is_some_and (bytes_eq y) v.name) (same_Some w u e) ∙ ap (is_some_and (bytes_eq y)) named ∙ same_text y)
first_named before (w ∷ us) h (suc m) u y e named =
    let later = first_named (w ∷ before) us (untaken before w us h).1 m u y e named in
    let next : m + 1 ≡ suc m = omega arith in
    ap (λ b. if b then Some 0 else option_map (λ n. n + 1) (number_of us y)) (by_name w.name (not_before (w ∷ before) us (untaken before w us h).1 m u y e named)) ∙ ap (option_map (λ n. n + 1)) later ∙ ap Some next
  where
    by_name : (o : Option Text) → holds (cons_option o (names_before before)) y ≡ false → is_some_and (bytes_eq y) o ≡ false
    by_name None g = refl
    by_name (Some z) g = (neither (bytes_eq y z) (holds (names_before before) y) g).0

-- a name leads to its procedure
pub name_leads : (p : EflProgram) → TellsWhole p None → (m : ℕ) (u : EflProcedure) (y : Text) → slice_get p.procedures m ≡ Some u → u.name ≡ Some y → number_of p.procedures y ≡ Some m
name_leads p whole m u y e named =
    let none = none_of_two (option_map (λ q. fault_at q DuplicateUnit) (first_taken [] p.procedures)) _ (no_count_fault p whole) in
    first_named [] p.procedures (none_mapped (λ q. fault_at q DuplicateUnit) (first_taken [] p.procedures) none.0) m u y e named

-- ---- calls ----

each_chosen : {X Y : Type 0} (P : Y → Type 0) (f : X → Option Y) (xs : List X) → ((x : X) → OfAny P (f x)) → Each P (filter_map f xs)
each_chosen P f [] h = tt
each_chosen P f (x ∷ xs) h = by_value (f x) (h x) (each_chosen P f xs h)
  where
    by_value : (o : Option _) → OfAny P o → Each P (filter_map f xs) → Each P (cons_option o (filter_map f xs))
    by_value None k g = g
    by_value (Some y) k g = (k, g)

every : {X : Type 0} (P : X → Type 0) (xs : List X) → ((x : X) → P x) → Each P xs
every P [] h = tt
every P (x ∷ xs) h = (h x, every P xs h)

one_passes : {X : Type 0} (P : X → Type 0) (test : X → Bool) (xs : List X) → Each P xs → list_any test xs ≡ true → (x : X) × P x × (test x ≡ true)
one_passes P test [] h e = absurd (true≢false (sym e))
one_passes {X} P test (x ∷ xs) h e = by_first (test x) refl (one_passes P test xs h.1) e
  where
    by_first : (b : Bool) → test x ≡ b → (list_any test xs ≡ true → (y : X) × P y × (test y ≡ true)) → (b || list_any test xs) ≡ true → (y : X) × P y × (test y ≡ true)
    by_first true t later g = (x, h.0, t)
    by_first false t later g = later g

module _ (p : EflProgram) where
  abbrev us : List EflProcedure
  us = p.procedures

  abbrev IsThere : ℕ → Type 0
  IsThere m = is_some (slice_get us m) ≡ true

  found_there : (x : Text) → OfAny IsThere (number_of us x)
  found_there x = by_number (number_of us x) refl
    where
      by_number : (o : Option ℕ) → number_of us x ≡ o → OfAny IsThere o
      by_number None e = tt
      by_number (Some m) e = let w = first_there (λ u. is_some_and (bytes_eq x) u.name) us m e in ap is_some w.1

  called_there : (n : Names) (w : Use) → OfAny IsThere (called_by us n w)
  called_there n (Named x) = tt
  called_there n (Laid x) = tt
  called_there n (Applied x) = by_test (types.calls (applied n x))
    where
      by_test : (b : Bool) → OfAny IsThere (if b then number_of us x else None)
      by_test true = found_there x
      by_test false = tt

  part_there : (v : Part) → Each IsThere (called_in us v)
  part_there v = by_unit (slice_get us v.around.unit)
    where
      by_unit : (o : Option EflProcedure) → Each IsThere (unwrap_or (option_map (λ u. filter_map (called_by us (names_of us u v)) (uses_in v.form)) o) [])
      by_unit None = tt
      by_unit (Some u) = each_chosen IsThere (called_by us (names_of us u v)) (uses_in v.form) (λ w. called_there (names_of us u v) w)

  edges_there : Each (λ e. IsThere e.to) (edges_of p)
  edges_there =
      each_mapped (λ e. IsThere e.to) (λ c. c.edge) (program_calls p)
      (each_joined (λ c. IsThere c.edge.to) (calls_in us) (program_parts p)
      (every (λ v. Each (λ c. IsThere c.edge.to) (calls_in us v)) (program_parts p) (λ v. each_mapped (λ c. IsThere c.edge.to) (λ to. record { edge = record { from = v.around.unit; to = to }; place = v.place }) (called_in us v) (part_there v))))

  -- what a procedure calls is there
  pub callee_there : (n m : ℕ) → calls p n m ≡ true → is_some (slice_get us m) ≡ true
  callee_there n m h =
      let w = one_passes (λ e. IsThere e.to) (λ e. nat_eq e.from n && nat_eq e.to m) (edges_of p) edges_there h in
      ap (λ i. is_some (slice_get us i)) (sym (eqb-true w.0.to m (both (nat_eq w.0.from n) (nat_eq w.0.to m) w.2).1)) ∙ w.1
