-- A program over scalars that the checks accept is ready to be lowered, where there is room for its temporaries.
use Rattle.std.proofs.Common.{◌≡◌, ◌≤◌, ℕ, zero, suc, ◌+◌, Bool, true, false, true≢false, cond, List, [], ◌∷◌, ◌++◌, map, drop, Option, None, Some, refl, sym, ap, ◌∙◌, subst, arith}
use Rattle.std.specs.Prelude.{◌||◌, filter, option_map, unwrap_or, is_none, is_some, if◌then◌else◌}
use Rattle.std.specs.Option.{option_or}
use Rattle.std.specs.List.{list_any, slice_get}
use Rattle.std.specs.Str.{bytes_eq}
use Rattle.std.proofs.lemmas.List.Folds.{list_any-append}
use Rattle.std.proofs.lemmas.Option.{none-some, same_Some}
use Rattle.rule_table.specs.Words.{first_place, find_map}
use Rattle.ground.specs.declared.place.Place.{Place}
use Rattle.ground.specs.declared.fault.Fault.{Fault}
use Rattle.ground.specs.declared.value.Kind.{Kind}
use Rattle.ground.specs.declared.value.Kind.TheVariants as kinds
use Rattle.efl_tree.specs.Syntax.{Text, EflProcedure, EflProgram}
use Rattle.efl_scope.specs.Scopes.{Variable, Implied, IsVariable, variable_of, meaning, outer, own_variables, undeclared, implied_of, implicit_type}
use Rattle.efl_scope.specs.Parts.{around_unit, header_type_groups, declarations_in, parts_in}
use Rattle.efl_scope.specs.FirstFault as scope_faults
use Rattle.efl_scope.specs.ScopeRules.{holds}
use Rattle.efl_scope.specs.Marks.{Located, program_variables, meant_by, number_of}
use Rattle.efl_types.specs.Signatures.{Result, Nothing, Gives, Unknown, result_of}
use Rattle.efl_types.specs.TypeRules as type_faults
use Rattle.efl_types.specs.Whole.{main_fault, mains, count_fault, TellsWhole}
use Rattle.efl_typed.specs.Typing.{body_if, body_around}
use Rattle.efl_typed.specs.Linking.{formals_in, linkage_of}
use Rattle.efl_typed.proofs.Each.{each_right}
use Rattle.efl_routes.specs.Statements.{AllReady}
use Rattle.efl_lowered.specs.Naming.{Naming}
use Rattle.efl_lowered.specs.Lowering.{is_result, gives}
use Rattle.efl_lowered.specs.Facts.{is_named, gives_kind, has_value, is_function, formals, has_scalar, has_variable, IsOverScalars, AreReady}
use Rattle.efl_lowered.specs.Grammatical.{IsGrammatical}
use Rattle.efl_lowered.specs.Needs.{all_need, HasRoom}
use Rattle.efl_lowered.proofs.Lists.{or_left, or_right, some_of, and_some, same_text, text_is}
use Rattle.efl_lowered.proofs.TypedRules.{not_none}
use Rattle.efl_lowered.proofs.TypedStatements.{IsTypedPart, stmts_ready}
use Rattle.efl_lowered.proofs.TypedCalls.{and_true}
use Rattle.efl_lowered.proofs.TypedBlocks.{formal_listed}
use Rattle.efl_lowered.proofs.TypedVariables.{own_parts, placed, IsNumberedScalar, parts_numbered}
use Rattle.efl_lowered.proofs.TypedBlocks.{Lists}
use Rattle.efl_lowered.proofs.TypedParts.{M, F, C, results, parts_typed}

-- ---- the main ----

module _ {X : Type 0} (test : X → Bool) where
  kept_one : (b : Bool) (x : X) (xs : List X) → b ≡ true → cond b (x ∷ xs) xs ≡ x ∷ xs
  kept_one true x xs h = refl
  kept_one false x xs h = absurd (true≢false (sym h))

  none_passes : (xs : List X) → filter test xs ≡ [] → (i : ℕ) (x : X) → slice_get xs i ≡ Some x → test x ≡ true → ⊥
  none_passes [] h i x e t = none-some x e
  none_passes (y ∷ xs) h zero x e t = not_none y (filter test xs) (sym (kept_one (test y) y (filter test xs) (ap test (same_Some y x e) ∙ t)) ∙ h)
  none_passes (y ∷ xs) h (suc i) x e t = by_test (test y) h (λ g. none_passes xs g i x e t)
    where
      by_test : (b : Bool) → cond b (y ∷ filter test xs) (filter test xs) ≡ [] → (filter test xs ≡ [] → ⊥) → ⊥
      by_test true g later = not_none y (filter test xs) g
      by_test false g later = later g

  -- where one alone passes, it is the first
  first_alone : (m : X) (xs : List X) → filter test xs ≡ m ∷ [] → (i : ℕ) (x : X) → slice_get xs i ≡ Some x → test x ≡ true → first_place test xs ≡ Some i
  first_alone m [] h i x e t = absurd (none-some x e)
  first_alone m (y ∷ xs) h zero x e t = ap (λ b. cond b (Some 0) (option_map (λ n. n + 1) (first_place test xs))) (ap test (same_Some y x e) ∙ t)
  first_alone m (y ∷ xs) h (suc i) x e t = by_test (test y) h (λ g. none_passes xs g i x e t) (λ g. first_alone m xs g i x e t)
    where
      rest_none : y ∷ filter test xs ≡ m ∷ [] → filter test xs ≡ []
      rest_none g = ap (λ zs. drop 1 zs) g

      by_test : (b : Bool) → cond b (y ∷ filter test xs) (filter test xs) ≡ m ∷ [] → (filter test xs ≡ [] → ⊥) → (filter test xs ≡ m ∷ [] → first_place test xs ≡ Some i) →
          cond b (Some 0) (option_map (λ n. n + 1) (first_place test xs)) ≡ Some (suc i)
      by_test true g no_more later = absurd (no_more (rest_none g))
      by_test false g no_more later = let e1 : i + 1 ≡ suc i = omega arith in ap (option_map (λ n. n + 1)) (later g) ∙ ap Some e1

  one_passes : (m : X) (xs : List X) → filter test xs ≡ m ∷ [] → list_any test xs ≡ true
  one_passes m [] h = absurd (not_none m [] (sym h))
  one_passes m (y ∷ xs) h = by_test (test y) h (one_passes m xs)
    where
      by_test : (b : Bool) → cond b (y ∷ filter test xs) (filter test xs) ≡ m ∷ [] → (filter test xs ≡ m ∷ [] → list_any test xs ≡ true) → (b || list_any test xs) ≡ true
      by_test true g later = refl
      by_test false g later = later g

one_main : (end : Place) (us : List EflProcedure) → main_fault end us ≡ None → (m : EflProcedure) × (us ≡ m ∷ [])
one_main end [] h = absurd (none-some end (sym h))
one_main end (u ∷ []) h = (u, refl)
one_main end (u ∷ v ∷ us) h = absurd (none-some _ (sym h))

-- a fault of the counts is told
pub no_count_fault : (p : EflProgram) → TellsWhole p None → count_fault p ≡ None
no_count_fault p whole = by_fault (count_fault p) refl
  where
    told : (f : Fault) → count_fault p ≡ Some f → TellsWhole p None → None ≡ Some f
    told f e = (rw e (λ h. h))

    by_fault : (o : Option Fault) → count_fault p ≡ o → o ≡ None
    by_fault None e = refl
    by_fault (Some f) e = absurd (none-some f (told f e whole))

second_none : {V : Type 0} (a b : Option V) → option_or a b ≡ None → b ≡ None
second_none None b h = h
second_none (Some v) b h = absurd (none-some v (sym h))

unmapped : {X V : Type 0} (f : X → V) (o : Option X) → option_map f o ≡ None → o ≡ None
unmapped f None h = refl
unmapped f (Some x) h = absurd (none-some (f x) (sym h))

-- ---- formals ----

abbrev is_named_so : Text → Variable → Bool
is_named_so x v = bytes_eq x v.name

-- a formal is declared, or a variable of its letter's type
undeclared_has : (rules : List Implied) (vs : List Variable) (fs : List Text) (x : Text) → holds fs x ≡ true → (list_any (is_named_so x) vs || list_any (is_named_so x) (undeclared rules vs fs)) ≡ true
undeclared_has rules vs [] x h = absurd (true≢false (sym h))
undeclared_has rules vs (y ∷ fs) x h = by_first (bytes_eq x y) refl h (undeclared_has rules vs fs x)
  where
    here : (b : Bool) → list_any (is_named_so y) vs ≡ b → bytes_eq x y ≡ true →
        (list_any (is_named_so x) vs || list_any (is_named_so x) (if b then (undeclared rules vs fs) else (record { name = y; home = []; kind = implicit_type rules y; area = None } ∷ undeclared rules vs fs))) ≡ true
    here true e t = or_left _ _ (ap (λ z. list_any (is_named_so z) vs) (text_is x y t) ∙ e)
    here false e t = or_right (list_any (is_named_so x) vs) _ (or_left (bytes_eq x y) _ t)

    later_on : (a b c : Bool) → (a || b) ≡ true → (a || (c || b)) ≡ true
    later_on true b c g = refl
    later_on false b c g = or_right c b g

    there : (b : Bool) → (list_any (is_named_so x) vs || list_any (is_named_so x) (undeclared rules vs fs)) ≡ true →
        (list_any (is_named_so x) vs || list_any (is_named_so x) (if b then (undeclared rules vs fs) else (record { name = y; home = []; kind = implicit_type rules y; area = None } ∷ undeclared rules vs fs))) ≡ true
    there true g = g
    there false g = later_on (list_any (is_named_so x) vs) (list_any (is_named_so x) (undeclared rules vs fs)) (bytes_eq x y) g

    by_first : (b : Bool) → bytes_eq x y ≡ b → (b || holds fs x) ≡ true → (holds fs x ≡ true → (list_any (is_named_so x) vs || list_any (is_named_so x) (undeclared rules vs fs)) ≡ true) →
        (list_any (is_named_so x) vs || list_any (is_named_so x) (undeclared rules vs (y ∷ fs))) ≡ true
    by_first true e g later = here (list_any (is_named_so y) vs) refl e
    by_first false e g later = there (list_any (is_named_so y) vs) (later g)

has_found : (x : Text) (vs : List Variable) → list_any (is_named_so x) vs ≡ true → (w : Variable) × (find_map (variable_of x) vs ≡ Some (IsVariable w))
has_found x [] h = absurd (true≢false (sym h))
has_found x (v ∷ vs) h = by_test (bytes_eq x v.name) h (has_found x vs)
  where
    by_test : (b : Bool) → (b || list_any (is_named_so x) vs) ≡ true → (list_any (is_named_so x) vs ≡ true → (w : Variable) × (find_map (variable_of x) vs ≡ Some (IsVariable w))) →
        (w : Variable) × (option_or (if b then Some (IsVariable v) else None) (find_map (variable_of x) vs) ≡ Some (IsVariable w))
    by_test true g later = (v, refl)
    by_test false g later = later g

formal_means : (u : EflProcedure) (x : Text) → holds u.formals x ≡ true → (w : Variable) × (meaning (outer u) x ≡ Some (IsVariable w))
formal_means u x h =
    let vs = own_variables u in
    let more = undeclared (implied_of u) vs u.formals in
    let w = has_found x (vs ++ more) (list_any-append (is_named_so x) vs more ∙ undeclared_has (implied_of u) vs u.formals x h) in
    (w.0, ap (λ o. option_or o None) w.1)

mapped_at : {X Y : Type 0} (f : X → Y) (xs : List X) (i : ℕ) (y : Y) → slice_get (map f xs) i ≡ Some y → (x : X) × (slice_get xs i ≡ Some x) × (f x ≡ y)
mapped_at f [] i y e = absurd (none-some y e)
mapped_at f (x ∷ xs) zero y e = (x, refl, same_Some (f x) y e)
mapped_at f (x ∷ xs) (suc i) y e = mapped_at f xs i y e

held_at : (xs : List Text) (i : ℕ) (x : Text) → slice_get xs i ≡ Some x → holds xs x ≡ true
held_at [] i x e = absurd (none-some x e)
held_at (y ∷ xs) zero x e = or_left _ _ (ap (bytes_eq x) (same_Some y x e) ∙ same_text x)
held_at (y ∷ xs) (suc i) x e = or_right (bytes_eq x y) _ (held_at xs i x e)

-- ---- the program ----

module _ (p : EflProgram) (scopes : scope_faults.first_fault p ≡ None) (types_hold : type_faults.first_fault p ≡ None) (whole : TellsWhole p None) (over : IsOverScalars p) (shaped : IsGrammatical p) where
  abbrev us : List EflProcedure
  us = p.procedures

  abbrev xs : List Located
  xs = program_variables p

  abbrev Main : EflProcedure → Bool
  Main u = is_none u.name

  main_alone : (m : EflProcedure) × (filter Main us ≡ m ∷ [])
  main_alone =
      let none = second_none _ (option_map _ (main_fault p.finish (mains us))) (no_count_fault p whole) in one_main p.finish (mains us) (unmapped _ (main_fault p.finish (mains us)) none)

  main_first : (n : ℕ) (u : EflProcedure) → slice_get us n ≡ Some u → u.name ≡ None → n ≡ (linkage_of p).main
  main_first n u e h = sym (ap (λ o. unwrap_or o 0) (first_alone Main main_alone.0 us main_alone.1 n u e (ap is_none h)))

  formals_are : (n : ℕ) (u : EflProcedure) → slice_get us n ≡ Some u → formals p n ≡ formals_in xs n u
  formals_are n u e = ap (λ o. unwrap_or (option_map (formals_in xs n) o) []) e

  no_name : (o : Option Text) → is_none o ≡ true → o ≡ None
  no_name None h = refl
  no_name (Some x) h = absurd (true≢false (sym h))

  main_bare : formals p (linkage_of p).main ≡ []
  main_bare =
      let w = placed Main us (one_passes Main main_alone.0 us main_alone.1) in
      let bare = (shaped.main w.0 w.1 w.3 (no_name w.1.name w.4)).0 in
      ap (λ o. formals p (unwrap_or o 0)) w.2 ∙ formals_are w.0 w.1 w.3 ∙ ap (λ fs. map (λ x. number_of xs w.0 (meant_by [] x (meaning (outer w.1) x))) fs) bare

  has_either : (n v : ℕ) (k : Kind) → has_scalar p n v k ≡ true → has_variable p n v ≡ true
  has_either n v kinds.Integer h = or_left _ _ h
  has_either n v kinds.Logical h = or_right (has_scalar p n v kinds.Integer) _ h

  formal_variable : (n : ℕ) (u : EflProcedure) → slice_get us n ≡ Some u → (x : Text) → holds u.formals x ≡ true → has_variable p n (number_of xs n (meant_by [] x (meaning (outer u) x))) ≡ true
  formal_variable n u e x h =
      let P = IsNumberedScalar p over in
      let w = formal_means u x h in
      let head = (own_parts (Lists us P) us n u e (parts_numbered p over)).0 in
      let known = formal_listed us P n (around_unit n u) u.place u.result u.formals head x w.0 w.1 h in
      ap (λ o. has_variable p n (number_of xs n (meant_by [] x o))) w.1 ∙ has_either n (number_of xs n w.0) known.0 known.2

  formal_known : (n i v : ℕ) → slice_get (formals p n) i ≡ Some v → has_variable p n v ≡ true
  formal_known n i v e = by_unit (slice_get us n) refl e
    where
      by_unit : (o : Option EflProcedure) → slice_get us n ≡ o → slice_get (unwrap_or (option_map (formals_in xs n) o) []) i ≡ Some v → has_variable p n v ≡ true
      by_unit None g h = absurd (none-some v h)
      by_unit (Some u) g h =
          let w = mapped_at (λ x. number_of xs n (meant_by [] x (meaning (outer u) x))) u.formals i v h in
          ap (has_variable p n) (sym w.2) ∙ formal_variable n u g w.0 (held_at u.formals i w.0 w.1)

  -- what gives a value is a function
  module _ (n : ℕ) (u : EflProcedure) (here : slice_get us n ≡ Some u) where
    named_so : (o : Option Text) → u.name ≡ o → (result_of u.result ≡ Nothing → ⊥) → is_named p n ≡ true
    named_so None e h = absurd (h (ap result_of (shaped.main n u here e).1))
    named_so (Some x) e h = and_some (λ w. is_some w.name) (slice_get us n) u here (ap is_some e)

    valued_so : (r : Result) → result_of u.result ≡ r → (result_of u.result ≡ Nothing → ⊥) → has_value p n ≡ true
    valued_so Nothing e h = absurd (h e)
    valued_so (Gives kinds.Integer) e h = or_left _ _ (and_some (gives kinds.Integer) (slice_get us n) u here (ap (is_result kinds.Integer) e))
    valued_so (Gives kinds.Logical) e h = or_right (gives_kind p n kinds.Integer) _ (and_some (gives kinds.Logical) (slice_get us n) u here (ap (is_result kinds.Logical) e))
    valued_so Unknown e h = absurd (results p over shaped scopes types_hold n u here e)

    is_one : (result_of u.result ≡ Nothing → ⊥) → is_function p n ≡ true
    is_one h = and_true (is_named p n) (has_value p n) (named_so u.name refl h) (valued_so (result_of u.result) refl h)

    abbrev Room : ℕ → Type 0
    Room r = all_need (body_if p n (Some u)) 0 ≤ r

    body_ready : (room : ℕ) → Room room → AllReady (M p over shaped n) (F p over shaped n) (C p over shaped n) room (is_function p n ≡ true) (body_if p n (Some u)) 0
    body_ready room l =
        let T = IsTypedPart us xs n u here (M p over shaped n) (F p over shaped n) (C p over shaped n) room (is_function p n ≡ true) is_one in
        let a = around_unit n u in
        let before = header_type_groups a u.result ++ declarations_in a [] u.declarations in
        stmts_ready us xs n u here (M p over shaped n) (F p over shaped n) (C p over shaped n) room (is_function p n ≡ true) is_one 0 (body_around n u) refl u.body
        (each_right T before (parts_in 0 (body_around n u) u.body) (parts_typed p over shaped scopes types_hold n u here room (is_function p n ≡ true) is_one).1) 0 l

  ready : (names : Naming) → HasRoom p names → AreReady p names
  ready names room = record {
    one_main = main_first;
    no_formals = main_bare;
    formal = formal_known;
    bodies = λ n h. let w = some_of (slice_get us n) h in
        subst (λ o. AllReady (M p over shaped n) (F p over shaped n) (C p over shaped n) (names.room n) (is_function p n ≡ true) (body_if p n o) 0) (sym w.1)
        (body_ready n w.0 w.1 (names.room n) (subst (λ o. all_need (body_if p n o) 0 ≤ names.room n) w.1 (room n h)));
  }

-- A program that the checks accept, over scalars and of the shape that the grammar gives, is ready where the units have room for the
-- temporaries that their bodies need.
pub ready_by_checks : (p : EflProgram) → scope_faults.first_fault p ≡ None → type_faults.first_fault p ≡ None → TellsWhole p None → IsOverScalars p → IsGrammatical p → (names : Naming) → HasRoom p names → AreReady p names
ready_by_checks p scopes types_hold whole over shaped = ready p scopes types_hold whole over shaped
