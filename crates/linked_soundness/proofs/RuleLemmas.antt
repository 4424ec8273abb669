-- What the rules of a sound unit give its run: names mean there what they mean by the rules, dimensions are constants or integer
-- variables, no type is outside the profile, and each statement is fit.
use Rattle.std.proofs.Common.{◌≡◌, ℕ, zero, suc, true, false, List, [], ◌∷◌, Some, None, refl, ap, sym, ◌∙◌, subst}
use Rattle.std.specs.List.{list_any, list_all, slice_get, flat_map, AllByRecursion}
use Rattle.std.specs.Str.{bytes_eq}
use Rattle.std.proofs.lemmas.Bool.{and_parts, and_from, or_parts, not-false}
use Rattle.rule_table.specs.declared.rule.Rule.{Rule}
use Rattle.rule_table.specs.declared.rule.Rule.TheVariants.{Syntax, OutOfProfileType, TypeClash, WrongCount, BadLabel, BadConstant, NotAssignable}
use Rattle.rule_table.specs.Words.{is_some_and}
use Rattle.f66_tree.specs.declared.declaration.TypeWord.{TypeWord}
use Rattle.f66_tree.specs.declared.declaration.TypeWord.TheVariants.{Integer}
use Rattle.f66_tree.specs.Syntax.{Text, Par, Constant, Named, Declared, Area, Header, MainUnit, SubUnit, FuncUnit, DataUnit, Act, Typed, Dimension, Common, Line, Routine}
use Rattle.f66_tree.specs.Units.{Context, is_note, notes_of, if_any, sizes_in, sizes_in_areas, sizes_by, sizes_of, lists, typed_by, type_in, by_header, kind_by}
use Rattle.f66_tree.specs.Evaluation.{array_or}
use Rattle.f66_tree.proofs.Tries.{if_both}
use Rattle.f66_names.specs.Sorts.{is_other, given_by, is_dummy, is_counter}
use Rattle.f66_names.specs.Kinds.{is_counting}
use Rattle.f66_names.specs.NameRules as names
use Rattle.f66_names.specs.StoreRules.{is_bad_size, has_bad_size, has_bad_constant, stores_wrong}
use Rattle.f66_names.specs.Uses.{uses_of_all, uses_in}
use Rattle.f66_names.proofs.ContextLemmas.{type_in-unlabelled, sizes_of-unlabelled}
use Rattle.f66_flow.specs.Acts.{branches, formats_named}
use Rattle.f66_flow.specs.FlowRules.{breaks_flow, header_breaks_flow, has_bad_label, leads_nowhere, leads_wrong, names_no_format}
use Rattle.f66_flow.specs.declared.scope.Scope.TheVariants.{Whole}
use Rattle.f66_soundness.specs.SoundUnits.{acts_in_unit}
use Rattle.f66_soundness.proofs.KindLemmas.{none_of_both}
use Rattle.f66_soundness.proofs.ValueLemmas.{FitCounts}
use Rattle.unit_rules.specs.Called.{passed_in}
use Rattle.unit_rules.specs.Forms.{has_form}
use Rattle.unit_rules.specs.Heads as heads
use Rattle.unit_rules.specs.Judged.{judged_uses}
use Rattle.unit_rules.specs.Listed.{common_in, any_use}
use Rattle.unit_rules.specs.Types.{clashes}
use Rattle.unit_rules.specs.UnitRules.{breaks_rule}
use Rattle.unit_rules.proofs.JudgedLemmas.{judged_same}
use Rattle.f66_check.specs.CheckRules as check
use Rattle.f66_check.specs.UnitChecks.{breaks_statement}
use Rattle.f66_check.specs.Answers.{IsSoundUnit}
use Rattle.f66_program.specs.Mentions as program
use Rattle.f66_program.specs.Mentions.{Mention, mentions_in}
use Rattle.linked_soundness.proofs.PlaceLemmas.{IsJudged}
use Rattle.linked_soundness.proofs.ActLemmas.{FitAct, FitLines}
use Rattle.linked_soundness.proofs.FormatLemmas.{formats_there}

-- ---- dimensions ----

module _ (c : Context) where
  abbrev AllCounting : List Par → Type 0
  AllCounting ns = list_all (is_counting c) ns ≡ true

  any_counting : (ns others : List Par) → AllCounting ns → AllCounting others → AllCounting (if_any ns others)
  any_counting [] others h k = k
  any_counting (n ∷ ns) others h k = h

  sized_counting : (y : Text) (ns : List Par) → list_any (is_bad_size c y) ns ≡ false → AllCounting ns
  sized_counting y [] h = refl
  sized_counting y (Constant z ∷ ns) h = sized_counting y ns (or_parts (is_bad_size c y (Constant z)) _ h).1
  sized_counting y (Named n ∷ ns) h =
      let p = or_parts (is_bad_size c y (Named n)) _ h in
      let q = and_parts (is_dummy c y) _ (not-false _ p.0) in
      and_from (is_counter c n) _ (and_parts (is_dummy c n) _ q.1).1 (sized_counting y ns p.1)

  in_counting : (x : Text) (ds : List Declared) (others : List Par) → list_any (has_bad_size c) ds ≡ false → AllCounting others → AllCounting (sizes_in x ds others)
  in_counting x [] others h k = k
  in_counting x (d ∷ ds) others h k =
      let p = or_parts (has_bad_size c d) _ h in
      let behind = in_counting x ds others p.1 k in
      if_both AllCounting (bytes_eq x d.name) (if_any d.sizes (sizes_in x ds others)) (sizes_in x ds others) (any_counting d.sizes (sizes_in x ds others) (sized_counting d.name d.sizes p.0) behind) behind

  areas_counting : (x : Text) (areas : List Area) (others : List Par) → list_any (has_bad_size c) (flat_map (λ a. a.list) areas) ≡ false → AllCounting others → AllCounting (sizes_in_areas x areas others)
  areas_counting x [] others h k = k
  areas_counting x (a ∷ areas) others h k =
      let p = none_of_both (has_bad_size c) a.list (flat_map (λ b. b.list) areas) h in
      in_counting x a.list (sizes_in_areas x areas others) p.0 (areas_counting x areas others p.1 k)

  by_counting : (x : Text) (a : Act) (others : List Par) → has_bad_constant c a ≡ false → list_any (has_bad_size c) (common_in a) ≡ false → AllCounting others → AllCounting (sizes_by x a others)
  by_counting x (Typed t ds) others h g k = in_counting x ds others h k
  by_counting x (Dimension ds) others h g k = in_counting x ds others h k
  by_counting x (Common areas) others h g k = areas_counting x areas others g k
  by_counting x _ others h g k = k

  sizes_counting : (x : Text) (code : List Line) → ((i : ℕ) (s : Line) → slice_get code i ≡ Some s → (has_bad_constant c s.act ≡ false) × (list_any (has_bad_size c) (common_in s.act) ≡ false)) → AllCounting (sizes_of x (notes_of code))
  sizes_counting x [] h = refl
  sizes_counting x (s ∷ rest) h =
      let behind = sizes_counting x rest (λ i t e. h (suc i) t e) in
      let here = h zero s refl in
      if_both (λ notes. AllCounting (sizes_of x notes)) (is_note s.act) (record { label = s.label; act = s.act } ∷ notes_of rest) (notes_of rest) (by_counting x s.act (sizes_of x (notes_of rest)) here.0 here.1 behind) behind

-- ---- types ----

-- no name is declared of a type outside the profile where no statement gives one, nor the header
profile_types : (x : Text) (first : TypeWord) → is_other first ≡ false → (code : List Line) → ((i : ℕ) (s : Line) → slice_get code i ≡ Some s → names.gives_other s.act ≡ false) → is_other (type_in x (notes_of code) first) ≡ false
profile_types x first e [] h = e
profile_types x first e (s ∷ rest) h =
    let behind = profile_types x first e rest (λ i t is. h (suc i) t is) in
    if_both (λ notes. is_other (type_in x notes first) ≡ false) (is_note s.act) (record { label = s.label; act = s.act } ∷ notes_of rest) (notes_of rest)
    (by_act s.act (type_in x (notes_of rest) first) (h zero s refl) behind) behind
  where
    by_act : (a : Act) (t : TypeWord) → names.gives_other a ≡ false → is_other t ≡ false → is_other (typed_by x a t) ≡ false
    by_act (Typed w ds) t g k = if_both (λ v. is_other v ≡ false) (lists x ds) w t g k
    by_act _ t g k = k

header_type : (x : Text) (h : Header) → heads.gives_other h ≡ false → is_other (given_by x h) ≡ false
header_type x MainUnit e = refl
header_type x (SubUnit y ds) e = refl
header_type x (FuncUnit None y ds) e = refl
header_type x (FuncUnit (Some t) y ds) e = if_both (λ v. is_other v ≡ false) (bytes_eq x y) t Integer e refl
header_type x DataUnit e = refl

-- ---- a sound unit ----

lines_fit : (P : Mention → Type 0) (c d : Context) (code : List Line) → ((i : ℕ) (s : Line) → slice_get code i ≡ Some s → FitAct P c d s.act) → FitLines P c d code
lines_fit P c d [] h = tt
lines_fit P c d (s ∷ rest) h = (h zero s refl, lines_fit P c d rest (λ i t e. h (suc i) t e))

-- a statement whose labels are right names FORMATs
pub labelled_fit : (u : Routine) (i : ℕ) (s : Line) → breaks_flow Whole u.header u.lines i s BadLabel ≡ false → list_any (names_no_format u.lines) (formats_named s.act) ≡ false
labelled_fit u i s h = (or_parts (list_any (leads_nowhere u.lines) (branches s.act)) _ (or_parts (leads_wrong u.lines s.act) _ (or_parts (has_bad_label u.lines i s) _ h).1).0).1

-- what the run of a statement asks of the rules
pub record KeepsRules (c : Context) (lines : List Line) (a : Act) : Type 0 where
  pub form : has_form a ≡ true
  pub kinds : clashes c a ≡ false
  pub counts : FitCounts c (uses_in a)
  pub passed : FitCounts c (uses_of_all (passed_in a))
  pub stores : stores_wrong c a ≡ false
  pub sizes : has_bad_constant c a ≡ false
  pub shared : list_any (has_bad_size c) (common_in a) ≡ false
  pub profile : names.gives_other a ≡ false
  pub formats : list_any (names_no_format lines) (formats_named a) ≡ false

-- and that of a unit
pub record FitRoutine (u : Routine) : Type 0 where
  pub header : heads.gives_other u.header ≡ false
  pub rules : (i : ℕ) (s : Line) → slice_get u.lines i ≡ Some s → KeepsRules (check.context_of u) u.lines s.act

module _ (u : Routine) (fit : FitRoutine u) where
  abbrev c : Context
  c = check.context_of u

  pub judged : IsJudged c (program.context_of u)
  judged = record {
    kinds = λ x. ap kind_by (sym (type_in-unlabelled x u.lines (by_header x u.header)));
    sorts = λ x. ap (λ ns. array_or ns x) (sym (sizes_of-unlabelled x u.lines));
    own = λ x. ap is_other (sym (type_in-unlabelled x u.lines (given_by x u.header)))
        ∙ profile_types x (given_by x u.header) (header_type x u.header fit.header) u.lines (λ i s is. (fit.rules i s is).profile);
    sizes = λ x. sizes_counting c x u.lines (λ i s is. ((fit.rules i s is).sizes, (fit.rules i s is).shared));
  }

  act_fit : (P : Mention → Type 0) (a : Act) → KeepsRules c u.lines a → AllByRecursion P (mentions_in (program.context_of u) a) → FitAct P c (program.context_of u) a
  act_fit P a keeps calls = record {
    form = keeps.form;
    kinds = keeps.kinds;
    counts = keeps.counts;
    passed = keeps.passed;
    stores = keeps.stores;
    formats = formats_there u.lines a keeps.formats;
    calls = calls;
  }

  pub unit_fit : (P : Mention → Type 0) → ((i : ℕ) (s : Line) → slice_get u.lines i ≡ Some s → AllByRecursion P (mentions_in (program.context_of u) s.act)) → FitLines P c (program.context_of u) u.lines
  unit_fit P calls = lines_fit P c (program.context_of u) u.lines (λ i s is. act_fit P s.act (fit.rules i s is) (calls i s is))

module _ (u : Routine) (sound : IsSoundUnit u) where
  abbrev own : Context
  own = check.context_of u

  -- a statement breaks none of the rules of labels, and none of names
  keeps : (i : ℕ) (s : Line) → slice_get u.lines i ≡ Some s → (k : Rule) → (breaks_flow Whole u.header u.lines i s k ≡ false) × (breaks_rule own (acts_in_unit u.lines) i s.act k ≡ false)
  keeps i s is k =
      or_parts (breaks_flow Whole u.header u.lines i s k) _
      (subst (λ o. is_some_and (λ t. breaks_statement Whole own (acts_in_unit u.lines) u.lines i t k) o ≡ false) is (sound.clean (suc i) k))

  statement_keeps : (i : ℕ) (s : Line) → slice_get u.lines i ≡ Some s → KeepsRules own u.lines s.act
  statement_keeps i s is =
      let kinds = (or_parts (clashes own s.act) _ (keeps i s is TypeClash).1).0 in
      let stores = (or_parts (stores_wrong own s.act) _ (keeps i s is NotAssignable).1).0 in
      let counts = or_parts (any_use own (names.miscounts own) s.act) _ (or_parts (names.has_wrong_sizes s.act) _ (keeps i s is WrongCount).1).1 in
      let uses = or_parts (list_any (names.miscounts own) (judged_uses own s.act)) _ counts.0 in
      let constants = or_parts (has_bad_constant own s.act) _ (keeps i s is BadConstant).1 in
      record {
        form = not-false _ (keeps i s is Syntax).1;
        kinds = kinds;
        counts = sym (ap (list_any (names.miscounts own)) (judged_same own s.act kinds stores)) ∙ uses.0;
        passed = (none_of_both (names.miscounts own) (uses_of_all (passed_in s.act)) _ uses.1).0;
        stores = stores;
        sizes = constants.0;
        shared = (or_parts (list_any (has_bad_size own) (common_in s.act)) _ constants.1).0;
        profile = (or_parts (names.gives_other s.act) _ (or_parts (names.has_other_type own s.act) _ (keeps i s is OutOfProfileType).1).0).0;
        formats = labelled_fit u i s (keeps i s is BadLabel).0;
      }

  pub sound_fit : FitRoutine u
  sound_fit = record {
    header = (or_parts (heads.gives_other u.header) _ (or_parts (header_breaks_flow Whole u.header u.lines OutOfProfileType) _ (sound.clean zero OutOfProfileType)).1).0;
    rules = statement_keeps;
  }
