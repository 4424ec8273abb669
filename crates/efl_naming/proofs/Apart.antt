-- The names that are chosen tell what they are of, so they are apart.
use Rattle.std.proofs.Common.{◌≡◌, ℕ, zero, suc, ◌+◌, ◌*◌, ◌/◌, ◌%◌, ◌<◌, ◌≤◌, Bool, true, false, true≢false, List, [], ◌∷◌, length, Option, None, Some, refl, sym, ap, ◌∙◌, inl, inr, arith, if◌then◌else◌, ◌&&◌, ◌||◌, not}
use Rattle.std.specs.Prelude.{nat_eq, nat_le, nat_lt, find, flat_map, option_map, unwrap_or, is_some, is_none}
use Rattle.std.specs.List.{list_all, range_with_len, slice_get}
use Rattle.std.specs.Str.{bytes_eq}
use Rattle.std.proofs.lemmas.Bool.{eqb-true, eq-eqb, leb-true, ltb-true}
use Rattle.rule_table.specs.Words.{first_place}
use Rattle.ground.specs.declared.value.Kind.{Kind}
use Rattle.ground.specs.declared.value.Kind.TheVariants.{Integer, Logical}
use Rattle.f66_tree.specs.Syntax.{Text}
use Rattle.f66_tree.specs.Evaluation.{Intrinsic, Iabs, Mod, Isign, Idim, Max0, Min0}
use Rattle.efl_tree.specs.Syntax.{EflProcedure, EflProgram}
use Rattle.efl_scope.specs.Parts.{program_parts}
use Rattle.efl_scope.specs.FirstFault.{first_fault}
use Rattle.efl_scope.specs.Marks.{Located, same_located, by_letter_of, located_at, program_variables}
use Rattle.efl_types.specs.Whole.{number_of, TellsWhole}
use Rattle.efl_typed.specs.Typing.{bodies_of}
use Rattle.efl_typed.proofs.FoundLemmas.{both, either, neither}
use Rattle.efl_routes.specs.Expressions.{intrinsic_name}
use Rattle.efl_lowered.specs.Lowering.{stands_in, is_scalar}
use Rattle.efl_lowered.specs.Labels.{all_labels}
use Rattle.efl_lowered.specs.Needs.{all_need}
use Rattle.efl_lowered.specs.Grammatical.{IsGrammatical}
use Rattle.efl_lowered.specs.Facts.{is_unit, is_named, has_scalar}
use Rattle.efl_lowered.specs.Names.{Name, OfVariable, OfTemporary, OfProcedure, OfIntrinsic, text_of, has_name, AreNames}
use Rattle.efl_lowered.proofs.Lists.{some_and, some_of, text_is}
use Rattle.efl_lowered.proofs.Apart.{same_procedure}
use Rattle.efl_naming.specs.Choice.{made, is_made, is_intrinsic, is_kept, keeps_name, variable_name, name_or_made, procedure_name, naming_of, is_small}
use Rattle.efl_naming.specs.Laws.{NamesAreApart}
use Rattle.efl_naming.proofs.Texts.{letter_in, number_in, number_told, made_is, x_no_intrinsic, y_no_intrinsic, z_no_intrinsic}
use Rattle.efl_naming.proofs.Numbers.{place_below, numbers_apart, numbered}
use Rattle.efl_naming.proofs.Procedures.{name_leads, callee_there}
use Rattle.efl_naming.proofs.Variables.{of_key, first_of_key}

in_range : (f : ℕ → Bool) (a m i : ℕ) → list_all f (range_with_len a m) ≡ true → a ≤ i → i < a + m → f i ≡ true
in_range f a zero i h le lt = absurd (omega (le, lt, arith))
in_range f a (suc m) i h le lt = let s = both (f a) (list_all f (range_with_len (a + 1) m)) h in by_first (nat_eq a i) refl s.0 (λ on. in_range f (a + 1) m i s.1 on (omega (lt, arith)))
  where
    by_first : (b : Bool) → nat_eq a i ≡ b → f a ≡ true → (a + 1 ≤ i → f i ≡ true) → f i ≡ true
    by_first true e here later = ap f (sym (eqb-true a i e)) ∙ here
    by_first false e here later = later (let ne = λ (g : a ≡ i). true≢false (sym (eq-eqb a i g) ∙ e) in omega (le, ne, arith))

refused : (b : Bool) → not b ≡ true → b ≡ false
refused false h = refl
refused true h = absurd (true≢false (sym h))

no_value : {X : Type 0} (o : Option X) → is_none o ≡ true → o ≡ None
no_value None h = refl
no_value (Some x) h = absurd (true≢false (sym h))

module _ (p : EflProgram) where
  abbrev Vs : List Located
  Vs = program_variables p

  abbrev us : List EflProcedure
  us = p.procedures

  -- ---- what a name is of ----

  abbrev which : Text → Intrinsic
  which x = unwrap_or (find (λ g. bytes_eq x (intrinsic_name g)) (Iabs ∷ Mod ∷ Isign ∷ Idim ∷ Max0 ∷ Min0 ∷ [])) Iabs

  abbrev by_number : ℕ → ℕ → Name
  by_number i zero = OfTemporary Integer (i / 2)
  by_number i (suc odd) = OfTemporary Logical (i / 2)

  abbrev by_letter : ℕ → ℕ → Name
  by_letter letter i = if (nat_eq letter 88) then (OfProcedure i) else (if (nat_eq letter 89) then (OfVariable i) else (by_number i (i % 2)))

  abbrev by_source : ℕ → Text → Option ℕ → Name
  by_source n x (Some m) = OfProcedure m
  by_source n x None = OfVariable (unwrap_or (first_place (same_located (record { unit = n; variable = by_letter_of [] x })) Vs) 0)

  abbrev told : ℕ → Text → Name
  told n x = if (is_intrinsic x) then (OfIntrinsic (which x)) else (if (is_made x) then (by_letter (letter_in x) (number_in x)) else (by_source n x (number_of us x)))

  told_made : (n letter i : ℕ) → 88 ≤ letter → letter ≤ 90 → is_intrinsic (made letter i) ≡ false → i < 100000 → told n (made letter i) ≡ by_letter letter i
  told_made n letter i low high h lt =
      let x = made letter i in
      ap (λ b. if b then (OfIntrinsic (which x)) else (if (is_made x) then (by_letter letter (number_in x)) else (by_source n x (number_of us x)))) h
      ∙ ap (λ b. if b then (by_letter letter (number_in x)) else (by_source n x (number_of us x))) (made_is letter i low high) ∙ ap (by_letter letter) (number_told letter i lt)

  told_kept : (n : ℕ) (x : Text) → is_kept x ≡ true → told n x ≡ by_source n x (number_of us x)
  told_kept n x h =
      let s = neither (is_intrinsic x) (is_made x) (refused (is_intrinsic x || is_made x) (both (nat_le (length x) 6) (not (is_intrinsic x || is_made x)) h).1) in
      ap (λ b. if b then (OfIntrinsic (which x)) else (if (is_made x) then (by_letter (letter_in x) (number_in x)) else (by_source n x (number_of us x)))) s.0
      ∙ ap (λ b. if b then (by_letter (letter_in x) (number_in x)) else (by_source n x (number_of us x))) s.1

  intrinsic_told : (n : ℕ) (g : Intrinsic) → told n (intrinsic_name g) ≡ OfIntrinsic g
  intrinsic_told n Iabs = refl
  intrinsic_told n Mod = refl
  intrinsic_told n Isign = refl
  intrinsic_told n Idim = refl
  intrinsic_told n Max0 = refl
  intrinsic_told n Min0 = refl

  temporary_told : (n : ℕ) (k : Kind) (i : ℕ) → i < 50000 → told n ((naming_of p).temp k i) ≡ OfTemporary k i
  temporary_told n Integer i lt =
      let even : 2 * i % 2 ≡ 0 = omega arith in let half : 2 * i / 2 ≡ i = omega arith in
      told_made n 90 (2 * i) (omega arith) (omega arith) (z_no_intrinsic (2 * i)) (omega (lt, arith)) ∙ ap (by_number (2 * i)) even ∙ ap (OfTemporary Integer) half
  temporary_told n Logical i lt =
      let odd : (2 * i + 1) % 2 ≡ suc 0 = omega arith in let half : (2 * i + 1) / 2 ≡ i = omega arith in
      told_made n 90 (2 * i + 1) (omega arith) (omega arith) (z_no_intrinsic (2 * i + 1)) (omega (lt, arith)) ∙ ap (by_number (2 * i + 1)) odd ∙ ap (OfTemporary Logical) half

  module _ (whole : TellsWhole p None) (small : is_small p ≡ true) where
    abbrev few : (nat_le (length Vs) 100000 ≡ true) × ((nat_le (length us) 100000 && list_all (λ n. nat_lt (all_need (bodies_of p n) 0) 50000) (range_with_len 0 (length us))) ≡ true)
    few = both (nat_le (length Vs) 100000) (nat_le (length us) 100000 && list_all (λ n. nat_lt (all_need (bodies_of p n) 0) 50000) (range_with_len 0 (length us))) small

    abbrev fewer : (nat_le (length us) 100000 ≡ true) × (list_all (λ n. nat_lt (all_need (bodies_of p n) 0) 50000) (range_with_len 0 (length us)) ≡ true)
    fewer = both (nat_le (length us) 100000) (list_all (λ n. nat_lt (all_need (bodies_of p n) 0) 50000) (range_with_len 0 (length us))) few.1

    procedure_told : (n m : ℕ) → is_some (slice_get us m) ≡ true → told n ((naming_of p).callee m) ≡ OfProcedure m
    procedure_told n m there =
        let w = some_of (slice_get us m) there in
        ap (told n) (ap (λ o. unwrap_or (option_map (procedure_name m) o) []) w.1) ∙ by_name w.0 w.1 w.0.name refl
      where
        made_up : (u : EflProcedure) → slice_get us m ≡ Some u → told n (made 88 m) ≡ OfProcedure m
        made_up u e = let lt = place_below us m u e in let all = leb-true (length us) 100000 fewer.0 in told_made n 88 m (omega arith) (omega arith) (x_no_intrinsic m) (omega (lt, all, arith))

        by_kept : (u : EflProcedure) → slice_get us m ≡ Some u → (x : Text) → u.name ≡ Some x → (b : Bool) → is_kept x ≡ b → told n (if b then x else made 88 m) ≡ OfProcedure m
        by_kept u e x named true kept = told_kept n x kept ∙ ap (by_source n x) (name_leads p whole m u x e named)
        by_kept u e x named false kept = made_up u e

        by_name : (u : EflProcedure) → slice_get us m ≡ Some u → (o : Option Text) → u.name ≡ o → told n (name_or_made m o) ≡ OfProcedure m
        by_name u e None named = made_up u e
        by_name u e (Some x) named = by_kept u e x named (is_kept x) refl

    variable_told : (n v : ℕ) (x : Located) → slice_get Vs v ≡ Some x → x.unit ≡ n → told n ((naming_of p).home v) ≡ OfVariable v
    variable_told n v x e unit = ap (told n) (ap (λ o. unwrap_or (option_map (variable_name p v) o) []) e) ∙ by_kept (keeps_name p x) refl
      where
        by_kept : (b : Bool) → keeps_name p x ≡ b → told n (if b then x.variable.name else made 89 v) ≡ OfVariable v
        by_kept true h =
            let y = x.variable.name in
            let outer = both (bytes_eq x.variable.home []) (is_kept y && is_none (number_of us y)) h in
            let kept = both (is_kept y) (is_none (number_of us y)) outer.1 in
            let k : Located = record { unit = n; variable = by_letter_of [] y } in
            let its : same_located k x ≡ true = of_key k x (sym unit) (sym (text_is x.variable.home [] outer.0)) refl in
            told_kept n y kept.0 ∙ ap (by_source n y) (no_value (number_of us y) kept.1)
            ∙ ap (λ o. OfVariable (unwrap_or o 0)) (first_of_key k [] (flat_map (located_at us) (program_parts p)) v x e its)
        by_kept false h = let lt = place_below Vs v x e in let all = leb-true (length Vs) 100000 few.0 in told_made n 89 v (omega arith) (omega arith) (y_no_intrinsic v) (omega (lt, all, arith))

    -- each name of a unit tells what it is of
    tells : (n : ℕ) → is_unit p n ≡ true → (a : Name) → has_name p (naming_of p) n a ≡ true → told n (text_of (naming_of p) a) ≡ a
    tells n is (OfIntrinsic g) h = intrinsic_told n g
    tells n is (OfTemporary k i) h =
        let w = some_of (slice_get us n) is in
        let lt = place_below us n w.0 w.1 in
        let room = ltb-true (all_need (bodies_of p n) 0) 50000 (in_range (λ m. nat_lt (all_need (bodies_of p m) 0) 50000) 0 (length us) n fewer.1 (omega arith) (omega (lt, arith))) in
        let le = leb-true i (all_need (bodies_of p n) 0) h in
        temporary_told n k i (omega (room, le, arith))
    tells n is (OfProcedure m) h = procedure_told n m (elim (either (is_named p n && nat_eq m n) _ h) [
      | inl g ↦ ap (λ j. is_some (slice_get us j)) (eqb-true m n (both (is_named p n) (nat_eq m n) g).1) ∙ is
      | inr g ↦ callee_there p n m g
    ])
    tells n is (OfVariable v) h = elim (either (has_scalar p n v Integer) (has_scalar p n v Logical) h) [ inl g ↦ of_kind Integer g | inr g ↦ of_kind Logical g ]
      where
        of_kind : (k : Kind) → has_scalar p n v k ≡ true → told n ((naming_of p).home v) ≡ OfVariable v
        of_kind k g = let w = some_and (stands_in n k) (slice_get Vs v) g in variable_told n v w.0 w.1 (eqb-true w.0.unit n (both (nat_eq w.0.unit n) (is_scalar k w.0.variable.kind) w.2).0)

    named_there : (m : ℕ) → is_named p m ≡ true → is_some (slice_get us m) ≡ true
    named_there m h = let w = some_and (λ u. is_some u.name) (slice_get us m) h in ap is_some w.1

    names : first_fault p ≡ None → IsGrammatical p → AreNames p (naming_of p)
    names scopes shaped = record {
      apart = λ n a b is h k e. sym (tells n is a h) ∙ ap (told n) e ∙ tells n is b k;
      procedures = λ m n h k e. same_procedure m n (sym (procedure_told 0 m (named_there m h)) ∙ ap (told 0) e ∙ procedure_told 0 n (named_there n k));
      labels = λ n l m is h k e. numbers_apart (all_labels (bodies_of p n)) l m h k e;
      numbered = λ n is. let w = some_of (slice_get us n) is in numbered p scopes shaped n w.0 w.1;
    }

pub all_apart : NamesAreApart
all_apart p scopes whole shaped small = names p whole small scopes shaped
