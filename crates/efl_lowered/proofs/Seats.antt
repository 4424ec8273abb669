-- The names that have a place of a unit's own: its variables that are no formals, its temporaries, and a function's own name. Each has a
-- storage unit that no other has.
use Rattle.std.proofs.Common.{◌≡◌, ℕ, zero, suc, ◌≤◌, pos, ◌-ℤ◌, Bool, true, false, true≢false, List, [], ◌∷◌, map, Option, None, Some, refl, sym, ap, ◌∙◌, subst, arith, if◌then◌else◌, ◌||◌, ◌&&◌, not}
use Rattle.std.specs.Prelude.{nat_eq, nat_le, nat_lt, is_none, is_some, unwrap_or}
use Rattle.std.specs.List.{list_any, slice_get}
use Rattle.std.specs.Option.{option_map}
use Rattle.std.specs.Str.{bytes_eq}
use Rattle.std.proofs.lemmas.Bool.{and_parts, and_from, eqb-true, eq-eqb, ltb-true, le-leb}
use Rattle.rule_table.specs.Words.{is_some_and}
use Rattle.std.proofs.lemmas.Option.{none-some, same_Some}
use Rattle.ground.specs.declared.value.Kind.{Kind}
use Rattle.ground.specs.declared.value.Kind.TheVariants.{Integer, Logical}
use Rattle.f66_tree.specs.Syntax.{Text, MainUnit}
use Rattle.f66_tree.specs.Units.{Context, dummies_of, places_of, Linkage}
use Rattle.f66_tree.specs.Evaluation.{Intrinsic}
use Rattle.f66_program.specs.Mentions.{context_of, has_places, is_dummy, is_own_value, is_variable, is_function as names_function, mentioned, declares}
use Rattle.f66_program.specs.Association.{Row, Own, Block, IsSame, size_in, IsReal}
use Rattle.f66_program.specs.Linking.{IsLinkage}
use Rattle.f66_program.proofs.Untied.{not_tied}
use Rattle.efl_tree.specs.Syntax.{EflProcedure, EflProgram}
use Rattle.efl_scope.specs.Marks.{program_variables}
use Rattle.efl_types.specs.Signatures.{Result, Nothing, Gives, Unknown, result_of}
use Rattle.efl_program.specs.Setting.{position, one_on}
use Rattle.efl_typed.specs.Linking.{formals_in}
use Rattle.efl_lowered.specs.Naming.{Naming}
use Rattle.efl_lowered.specs.Lowering.{is_result, gives, calls, named_header, header_of, dummies, lines_of, unit_of}
use Rattle.efl_lowered.specs.Facts.{is_unit, is_named, has_value, is_function, formals, has_scalar, has_variable, AreReady}
use Rattle.efl_lowered.specs.Names.{Name, OfVariable, OfTemporary, OfProcedure, OfIntrinsic, text_of, has_name, AreNames}
use Rattle.efl_lowered.proofs.Lists.{or_left, or_right, same_text, some_of, not_listed}
use Rattle.efl_lowered.proofs.UnitLemmas.{Rs, unit_at, no_dummy, unit_declares, unit_sizes, unit_quiet, unit_is_quiet, unit_plain, no_ties}
use Rattle.efl_lowered.proofs.Apart.{is_typed, is_kind, same_kind, typed_in, unlike, same_variable, same_temporary, variable_no_temporary, variable_no_procedure, variable_no_intrinsic, temporary_no_procedure, temporary_no_intrinsic}

-- ---- rows ----

abbrev unit_in : Row → ℕ
unit_in (Own u x) = u
unit_in (Block b) = 0

abbrev text_in : Row → Text
text_in (Own u x) = x
text_in (Block b) = []

-- ---- formals ----

-- a number that stands in a list has a position
pub not_at : (v : ℕ) (vs : List ℕ) → is_none (position v vs) ≡ true → (i : ℕ) → slice_get vs i ≡ Some v → ⊥
not_at v [] h i e = none-some v e
not_at v (w ∷ ws) h i e = by_first (nat_eq v w) refl i e (not_at v ws)
  where
    inner : (o : Option ℕ) → is_none (one_on o) ≡ true → is_none o ≡ true
    inner None g = refl
    inner (Some j) g = g

    by_first : (b : Bool) → nat_eq v w ≡ b → (j : ℕ) → slice_get (w ∷ ws) j ≡ Some v → (is_none (position v ws) ≡ true → (m : ℕ) → slice_get ws m ≡ Some v → ⊥) → ⊥
    by_first true t j g later = true≢false (sym h ∙ ap (λ b. is_none (if b then Some zero else one_on (position v ws))) t)
    by_first false t zero g later = true≢false (sym (eq-eqb v w (sym (same_Some w v g))) ∙ t)
    by_first false t (suc j) g later = later (inner (position v ws) (sym (ap (λ b. is_none (if b then Some zero else one_on (position v ws))) t) ∙ h)) j g

own_by : (names : Naming) (n : ℕ) (b : Bool) (r : Result) (ds : List Text) → b ≡ false → (is_result Integer r || is_result Logical r) ≡ true →
    is_own_value (names.callee n) (if b then MainUnit else (named_header names n r ds)) ≡ true
own_by names n true r ds e h = absurd (true≢false e)
own_by names n false (Gives k) ds e h = same_text (names.callee n)
own_by names n false Nothing ds e h = absurd (true≢false (sym h))
own_by names n false Unknown ds e h = absurd (true≢false (sym h))

named_some : {X : Type 0} (o : Option X) → is_some o ≡ true → is_none o ≡ false
named_some None h = absurd (true≢false (sym h))
named_some (Some x) h = refl

module _ (p : EflProgram) (names : Naming) where
  abbrev pub is_seated : ℕ → Name → Bool
  is_seated n (OfVariable v) = has_variable p n v && is_none (position v (formals p n))
  is_seated n (OfTemporary k i) = nat_lt i (names.room n)
  is_seated n (OfProcedure m) = nat_eq m n && is_function p n
  is_seated n (OfIntrinsic g) = false

  pub seated_variable : (n v : ℕ) → is_seated n (OfVariable v) ≡ true → (has_variable p n v ≡ true) × (is_none (position v (formals p n)) ≡ true)
  seated_variable n v h = and_parts (has_variable p n v) (is_none (position v (formals p n))) h

  pub seated_procedure : (n m : ℕ) → is_seated n (OfProcedure m) ≡ true → (nat_eq m n ≡ true) × (is_named p n ≡ true) × (has_value p n ≡ true)
  seated_procedure n m h =
      let g = and_parts (nat_eq m n) (is_function p n) h in
      let f = and_parts (is_named p n) (has_value p n) g.1 in
      (g.0, f.0, f.1)

  pub seated_named : (n : ℕ) (a : Name) → is_seated n a ≡ true → has_name p names n a ≡ true
  seated_named n (OfVariable v) h = (seated_variable n v h).0
  seated_named n (OfTemporary k i) h = let lt = ltb-true i (names.room n) h in le-leb i (names.room n) (omega (lt, arith))
  seated_named n (OfProcedure m) h = let g = seated_procedure n m h in or_left (is_named p n && nat_eq m n) (calls p n m) (and_from (is_named p n) (nat_eq m n) g.1 g.0)
  seated_named n (OfIntrinsic g) h = absurd (true≢false (sym h))

  pub formals_are : (n : ℕ) (u : EflProcedure) → slice_get p.procedures n ≡ Some u → formals p n ≡ formals_in (program_variables p) n u
  formals_are n u e = ap (λ o. unwrap_or (option_map (formals_in (program_variables p) n) o) []) e

  either_kind : (n v : ℕ) → has_variable p n v ≡ true → (k : Kind) × (has_scalar p n v k ≡ true)
  either_kind n v h = by_integer (has_scalar p n v Integer) refl
    where
      by_integer : (b : Bool) → has_scalar p n v Integer ≡ b → (k : Kind) × (has_scalar p n v k ≡ true)
      by_integer true e = (Integer, e)
      by_integer false e = (Logical, sym (ap (λ b. b || has_scalar p n v Logical) e) ∙ h)

  module _ (are : AreNames p names) (ready : AreReady p names) where
    -- what is no formal and not the spare dummy is no dummy
    pub dummy_free : (n : ℕ) (u : EflProcedure) → slice_get p.procedures n ≡ Some u → (a : Name) → has_name p names n a ≡ true → ((i v : ℕ) → slice_get (formals p n) i ≡ Some v → a ≡ OfVariable v → ⊥) → (a ≡ OfTemporary Integer (names.room n) → ⊥) →
        list_any (bytes_eq (text_of names a)) (dummies_of (header_of names (program_variables p) n u)) ≡ false
    dummy_free n u e a h formal spare =
        let all : names.room n ≤ names.room n = omega arith in
        no_dummy p names n u (text_of names a)
        (subst (λ vs. list_any (bytes_eq (text_of names a)) (map names.home vs) ≡ false) (formals_are n u e) (not_listed (text_of names a) names.home (formals p n) (λ i v g. unlike p names are n (ap is_some e) a (OfVariable v) h (ready.formal n i v g) (formal i v g))))
        (unlike p names are n (ap is_some e) a (OfTemporary Integer (names.room n)) h (le-leb (names.room n) (names.room n) all) spare)

    pub seated_free : (n : ℕ) (u : EflProcedure) → slice_get p.procedures n ≡ Some u → (a : Name) → is_seated n a ≡ true → list_any (bytes_eq (text_of names a)) (dummies_of (header_of names (program_variables p) n u)) ≡ false
    seated_free n u e (OfVariable v) h =
        dummy_free n u e (OfVariable v) (seated_named n (OfVariable v) h) (λ i w g same. not_at v (formals p n) (seated_variable n v h).1 i (g ∙ ap Some (sym (same_variable v w same)))) (variable_no_temporary v Integer (names.room n))
    seated_free n u e (OfTemporary k i) h =
        dummy_free n u e (OfTemporary k i) (seated_named n (OfTemporary k i) h) (λ j w g same. variable_no_temporary w k i (sym same))
        (λ same. let lt = ltb-true i (names.room n) h in let eq = (same_temporary k Integer i (names.room n) same).1 in omega (lt, eq, arith))
    seated_free n u e (OfProcedure m) h = dummy_free n u e (OfProcedure m) (seated_named n (OfProcedure m) h) (λ j w g same. variable_no_procedure w m (sym same)) (λ same. temporary_no_procedure Integer (names.room n) m (sym same))
    seated_free n u e (OfIntrinsic g) h = absurd (true≢false (sym h))

    -- what is declared and no function has places
    declared_places : (n : ℕ) (u : EflProcedure) → slice_get p.procedures n ≡ Some u → (a : Name) → is_seated n a ≡ true → (k : Kind) → is_typed p names n k a ≡ true → ((m : ℕ) → a ≡ OfProcedure m → ⊥) → ((g : Intrinsic) → a ≡ OfIntrinsic g → ⊥) →
        has_places (unit_of names p n u) (text_of names a) ≡ true
    declared_places n u e a h k t procedure intrinsic =
        and_from (not (is_dummy q (header_of names (program_variables p) n u))) _ (ap not (seated_free n u e a h))
        (or_right (is_own_value q (header_of names (program_variables p) n u)) _ (or_right (mentioned (is_variable q) c (lines_of names p n u)) _
        (and_from (list_any (λ s. declares q s.act) (lines_of names p n u)) (not (mentioned (names_function q) c (lines_of names p n u))) (unit_declares p names n u k q (typed_in p names n k a t))
        (ap not (unit_quiet p names n u q (unit_is_quiet p names ready n is q c (λ v j m uses. calls_not v (and_parts (calls p n v) _ uses).0) (λ v m uses. calls_not v (and_parts (calls p n v) _ uses).0) (λ g. unlike p names are n is a (OfIntrinsic g) named refl (intrinsic g))))))))
      where
        q : Text
        q = text_of names a

        c : Context
        c = context_of (unit_of names p n u)

        is : is_unit p n ≡ true
        is = ap is_some e

        named : has_name p names n a ≡ true
        named = seated_named n a h

        calls_not : (v : ℕ) → calls p n v ≡ true → bytes_eq (text_of names a) (names.callee v) ≡ false
        calls_not v is_called = unlike p names are n is a (OfProcedure v) named (or_right (is_named p n && nat_eq v n) (calls p n v) is_called) (procedure v)

    seated_places : (n : ℕ) (u : EflProcedure) → slice_get p.procedures n ≡ Some u → (a : Name) → is_seated n a ≡ true → has_places (unit_of names p n u) (text_of names a) ≡ true
    seated_places n u e (OfVariable v) h = let w = either_kind n v (seated_variable n v h).0 in declared_places n u e (OfVariable v) h w.0 w.1 (variable_no_procedure v) (variable_no_intrinsic v)
    seated_places n u e (OfTemporary k i) h = declared_places n u e (OfTemporary k i) h k (and_from (is_kind k k) (nat_le i (names.room n)) (same_kind k) (seated_named n (OfTemporary k i) h)) (temporary_no_procedure k i) (temporary_no_intrinsic k i)
    seated_places n u e (OfProcedure m) h =
        let g = seated_procedure n m h in
        let named : is_some u.name ≡ true = sym (ap (λ o. is_some_and (λ w. is_some w.name) o) e) ∙ g.1 in
        let value : (gives Integer u || gives Logical u) ≡ true = sym (ap (λ o. is_some_and (gives Integer) o || is_some_and (gives Logical) o) e) ∙ g.2 in
        let own : is_own_value (names.callee n) (header_of names (program_variables p) n u) ≡ true = own_by names n (is_none u.name) (result_of u.result) (dummies names (program_variables p) n u) (named_some u.name named) value in
        and_from (not (is_dummy (names.callee m) (header_of names (program_variables p) n u))) _ (ap not (seated_free n u e (OfProcedure m) h)) (or_left (is_own_value (names.callee m) (header_of names (program_variables p) n u)) _ (ap (λ i. is_own_value (names.callee i) (header_of names (program_variables p) n u)) (eqb-true m n g.0) ∙ own))
    seated_places n u e (OfIntrinsic g) h = absurd (true≢false (sym h))

    pub seat_real : (n : ℕ) (a : Name) → is_unit p n ≡ true → is_seated n a ≡ true → IsReal (Rs p names) n (text_of names a) 0
    seat_real n a is h =
        let w = some_of (slice_get p.procedures n) is in
        let one : size_in (context_of (unit_of names p n w.0)) (text_of names a) ≡ 1 = ap places_of (unit_sizes p names n w.0 (unit_plain p names ready n is) (text_of names a)) in
        record { unit = unit_of names p n w.0; here = unit_at p names n w.0 w.1; named = seated_places n w.0 w.1 a h; inside = omega (arith, one) }

    module _ (l : Linkage) (linked : IsLinkage (Rs p names) l) where
      -- each has a storage unit of its own
      pub seats_apart : (n m : ℕ) (a b : Name) → is_unit p n ≡ true → is_unit p m ≡ true → is_seated n a ≡ true → is_seated m b ≡ true → l.number n (text_of names a) 0 ≡ l.number m (text_of names b) 0 → (n ≡ m) × (a ≡ b)
      seats_apart n m a b is is1 h k e =
          let same = (linked.numbers n (text_of names a) 0 m (text_of names b) 0 (seat_real n a is h) (seat_real m b is1 k)).0 e in
          let rows = (not_tied (subst (λ ts. IsSame ts (Own n (text_of names a)) (Own m (text_of names b)) (pos 0 -ℤ pos 0)) (no_ties p names ready) same)).0 in
          let unit : n ≡ m = ap unit_in rows in
          (unit, are.apart n a b is (seated_named n a h) (subst (λ i. has_name p names i b ≡ true) (sym unit) (seated_named m b k)) (ap text_in rows))
