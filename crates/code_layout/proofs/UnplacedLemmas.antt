-- A name of a sound unit that is no dummy and has no places there has no dimensions.
use Rattle.std.proofs.Common.{◌≡◌, ◌++◌, ℕ, suc, Bool, true, false, true≢false, not, ◌&&◌, ◌||◌, List, [], ◌∷◌, Some, map, refl, sym, ap, subst, ◌∙◌}
use Rattle.std.specs.Prelude.{is_some, if◌then◌else◌}
use Rattle.std.specs.List.{list_any, slice_get, flat_map}
use Rattle.std.specs.Str.{bytes_eq}
use Rattle.std.proofs.lemmas.Bool.{or_parts}
use Rattle.std.proofs.lemmas.Slice.Eq.{bytes_eq-Decides}
use Rattle.rule_table.specs.declared.rule.Rule.TheVariants.{DuplicateName}
use Rattle.rule_table.specs.Words.{find_map, is_some_and}
use Rattle.rule_table.proofs.WordLemmas.{list_any_map}
use Rattle.f66_tree.specs.Syntax.{Text, Formula, Ref, Item, Group, Plus, Minus, Not, Pair, Formulas, NoFormula, AndFormula, Par, Constant, Named, Declared, Area, Entry, One, Many, Entries, NoEntry, AndEntry, Act, Assign, Computed, Sign, When, Loop, Invoke, Read, Write, Typed, Dimension, Common, Equivalence, Preset, Line, Routine}
use Rattle.f66_tree.specs.Units.{Context, is_note, notes_of, if_any, sizes_in, sizes_in_areas, sizes_by, sizes_of}
use Rattle.f66_tree.specs.Evaluation.{Sort, AnArray, AnIntrinsic, AFunction, array_or, sort_of}
use Rattle.f66_tree.proofs.Tries.{if_both}
use Rattle.f66_names.specs.Declaring.{type_given}
use Rattle.f66_names.specs.NameRules.{redeclares}
use Rattle.f66_names.specs.Sorts.{form_by, is_array_form, is_array_name}
use Rattle.f66_flow.specs.FlowRules.{breaks_flow}
use Rattle.f66_flow.specs.declared.scope.Scope.TheVariants.{Whole}
use Rattle.f66_soundness.specs.SoundUnits.{acts_in_unit}
use Rattle.f66_soundness.proofs.KindLemmas.{none_of_both}
use Rattle.f66_soundness.proofs.SoundLemmas.{sizes_same}
use Rattle.unit_rules.specs.declared.roles.Role.TheVariants.{Subroutine}
use Rattle.unit_rules.specs.Called.{called_in}
use Rattle.unit_rules.specs.Heads.{declares_own}
use Rattle.unit_rules.specs.Roles.{has_other_role, role_of, miscalls, mixes_roles}
use Rattle.unit_rules.specs.Storage.{lists_again}
use Rattle.f66_check.specs.CheckRules as check
use Rattle.f66_check.specs.UnitChecks.{breaks_statement}
use Rattle.f66_check.specs.Answers.{IsSoundUnit}
use Rattle.f66_program.specs.Mentions.{Mention, AVariable, context_of, applied, mentions_of, mentions_of_all, mentions_of_par, mentions_of_counting, mentions_of_entry, mentions_of_entries, mentions_of_sizes, mentions_in, is_variable, is_function, declares, mentioned, is_dummy, is_own_value, has_places}

-- ---- lists none of whose elements pass ----

neither : (a b : Bool) → a ≡ false → b ≡ false → (a || b) ≡ false
neither false b e f = f
neither true b e f = absurd (true≢false e)

none_append : {X : Type 0} (test : X → Bool) (xs ys : List X) → list_any test xs ≡ false → list_any test ys ≡ false → list_any test (xs ++ ys) ≡ false
none_append test [] ys e f = f
none_append test (x ∷ xs) ys e f = (let p = or_parts (test x) _ e in neither (test x) _ p.0 (none_append test xs ys p.1 f))

none_flat : {X Y : Type 0} (test : Y → Bool) (g : X → List Y) → ((x : X) → list_any test (g x) ≡ false) → (xs : List X) → list_any test (flat_map g xs) ≡ false
none_flat test g h [] = refl
none_flat test g h (x ∷ xs) = none_append test (g x) (flat_map g xs) (h x) (none_flat test g h xs)

none_map : {X Y : Type 0} (test : Y → Bool) (g : X → Y) → ((x : X) → test (g x) ≡ false) → (xs : List X) → list_any test (map g xs) ≡ false
none_map test g h [] = refl
none_map test g h (x ∷ xs) = neither (test (g x)) _ (h x) (none_map test g h xs)

-- ---- an array is called by no statement but a CALL ----

module _ (c : Context) (x : Text) (n : Par) (ns : List Par) (array : sizes_of x c.notes ≡ n ∷ ns) where
  abbrev Free : List Mention → Type 0
  Free ms = list_any (is_function x) ms ≡ false

  free_sort : (y : Text) (es : Formulas) (s : Sort) → bytes_eq x y ≡ false → is_function x (applied y es s) ≡ false
  free_sort y es (AnArray ms) e = refl
  free_sort y es (AnIntrinsic g) e = e
  free_sort y es AFunction e = e

  free_name : (y : Text) (es : Formulas) → is_function x (applied y es (sort_of c y)) ≡ false
  free_name y es = by_name (bytes_eq x y) refl
    where
      by_name : (b : Bool) → bytes_eq x y ≡ b → is_function x (applied y es (sort_of c y)) ≡ false
      by_name true e =
          let sort : sort_of c y ≡ AnArray (n ∷ ns) = ap (sort_of c) (sym ((bytes_eq-Decides x y).0 e)) ∙ ap (λ ms. array_or ms x) array in
          ap (λ s. is_function x (applied y es s)) sort
      by_name false e = free_sort y es (sort_of c y) e

  mutual
    formula_free : (e : Formula) → Free (mentions_of c e)
    formula_free (Ref y) = refl
    formula_free (Item y es) = neither (is_function x (applied y es (sort_of c y))) _ (free_name y es) (formulas_free es)
    formula_free (Group a) = formula_free a
    formula_free (Plus a) = formula_free a
    formula_free (Minus a) = formula_free a
    formula_free (Not a) = formula_free a
    formula_free (Pair op a b) = none_append (is_function x) (mentions_of c a) (mentions_of c b) (formula_free a) (formula_free b)
    formula_free _ = refl

    formulas_free : (es : Formulas) → Free (mentions_of_all c es)
    formulas_free NoFormula = refl
    formulas_free (AndFormula e es) = none_append (is_function x) (mentions_of c e) (mentions_of_all c es) (formula_free e) (formulas_free es)

  par_free : (p : Par) → Free (mentions_of_par p)
  par_free (Constant z) = refl
  par_free (Named y) = refl

  counting_free : (y : Text) (a b d : Par) → Free (mentions_of_counting y a b d)
  counting_free y a b d =
      none_append (is_function x) (mentions_of_par a) (mentions_of_par b ++ mentions_of_par d) (par_free a)
      (none_append (is_function x) (mentions_of_par b) (mentions_of_par d) (par_free b) (par_free d))

  mutual
    entry_free : (e : Entry) → Free (mentions_of_entry c e)
    entry_free (One e) = formula_free e
    entry_free (Many es y a b d) = none_append (is_function x) (mentions_of_entries c es) (mentions_of_counting y a b d) (entries_free es) (counting_free y a b d)

    entries_free : (es : Entries) → Free (mentions_of_entries c es)
    entries_free NoEntry = refl
    entries_free (AndEntry e es) = none_append (is_function x) (mentions_of_entry c e) (mentions_of_entries c es) (entry_free e) (entries_free es)

  sizes_free : (ds : List Declared) → Free (mentions_of_sizes ds)
  sizes_free ds = none_flat (is_function x) (λ d. flat_map mentions_of_par d.sizes) (λ d. none_flat (is_function x) mentions_of_par par_free d.sizes) ds

  area_free : (a : Area) → Free (map (λ d. AVariable d.name) a.list ++ mentions_of_sizes a.list)
  area_free a = none_append (is_function x) (map (λ d. AVariable d.name) a.list) (mentions_of_sizes a.list) (none_map (is_function x) (λ d. AVariable d.name) (λ d. refl) a.list) (sizes_free a.list)

  act_free : (a : Act) → ((y : Text) → called_in a ≡ Some y → bytes_eq x y ≡ false) → Free (mentions_in c a)
  act_free (Assign y e) h = none_append (is_function x) (mentions_of c y) (mentions_of c e) (formula_free y) (formula_free e)
  act_free (Computed ls y) h = refl
  act_free (Sign e l m k) h = formula_free e
  act_free (When e a) h = none_append (is_function x) (mentions_of c e) (mentions_in c a) (formula_free e) (act_free a h)
  act_free (Loop l y a b d) h = counting_free y a b d
  act_free (Invoke y es) h = neither (bytes_eq x y) _ (h y refl) (formulas_free es)
  act_free (Read u l es) h = none_append (is_function x) (mentions_of_par u) (mentions_of_entries c es) (par_free u) (entries_free es)
  act_free (Write u l es) h = none_append (is_function x) (mentions_of_par u) (mentions_of_entries c es) (par_free u) (entries_free es)
  act_free (Typed t ds) h = sizes_free ds
  act_free (Dimension ds) h = sizes_free ds
  act_free (Common areas) h = none_flat (is_function x) (λ a. map (λ d. AVariable d.name) a.list ++ mentions_of_sizes a.list) area_free areas
  act_free (Equivalence groups) h = none_flat (is_function x) (λ es. flat_map (mentions_of c) es) (λ es. none_flat (is_function x) (mentions_of c) formula_free es) groups
  act_free (Preset parts) h = none_flat (is_function x) (λ p. flat_map (mentions_of c) p.places) (λ p. none_flat (is_function x) (mentions_of c) formula_free p.places) parts
  act_free _ h = refl

  lines_free : (lines : List Line) → ((i : ℕ) (s : Line) → slice_get lines i ≡ Some s → (y : Text) → called_in s.act ≡ Some y → bytes_eq x y ≡ false) → mentioned (is_function x) c lines ≡ false
  lines_free [] h = refl
  lines_free (s ∷ lines) h = neither (list_any (is_function x) (mentions_in c s.act)) _ (act_free s.act (h 0 s refl)) (lines_free lines (λ i t is. h (suc i) t is))

-- ---- what is neither declared nor a variable has no dimensions ----

module _ (c : Context) (x : Text) where
  in_none : (ds : List Declared) (others : List Par) → list_any (λ d. bytes_eq x d.name) ds ≡ false → sizes_in x ds others ≡ others
  in_none [] others e = refl
  in_none (d ∷ ds) others e =
      let p = or_parts (bytes_eq x d.name) _ e in
      ap (λ b. if b then if_any d.sizes (sizes_in x ds others) else sizes_in x ds others) p.0 ∙ in_none ds others p.1

  areas_none : (areas : List Area) (others : List Par) → list_any (is_variable x) (flat_map (λ a. map (λ d. AVariable d.name) a.list ++ mentions_of_sizes a.list) areas) ≡ false → sizes_in_areas x areas others ≡ others
  areas_none [] others e = refl
  areas_none (a ∷ areas) others e =
      let p = none_of_both (is_variable x) (map (λ d. AVariable d.name) a.list ++ mentions_of_sizes a.list) (flat_map (λ b. map (λ d. AVariable d.name) b.list ++ mentions_of_sizes b.list) areas) e in
      let q = none_of_both (is_variable x) (map (λ d. AVariable d.name) a.list) (mentions_of_sizes a.list) p.0 in
      in_none a.list (sizes_in_areas x areas others) (sym (list_any_map (is_variable x) (λ d. AVariable d.name) a.list) ∙ q.0) ∙ areas_none areas others p.1

  by_none : (a : Act) → declares x a ≡ false → list_any (is_variable x) (mentions_in c a) ≡ false → sizes_by x a [] ≡ []
  by_none (Typed t ds) e f = in_none ds [] e
  by_none (Dimension ds) e f = in_none ds [] e
  by_none (Common areas) e f = areas_none areas [] f
  by_none _ e f = refl

  none_sized : (lines : List Line) → list_any (λ s. declares x s.act) lines ≡ false → mentioned (is_variable x) c lines ≡ false → sizes_of x (notes_of lines) ≡ []
  none_sized [] e f = refl
  none_sized (s ∷ rest) e f =
      let p = or_parts (declares x s.act) _ e in
      let q = or_parts (list_any (is_variable x) (mentions_in c s.act)) _ f in
      let behind = none_sized rest p.1 q.1 in
      if_both (λ notes. sizes_of x notes ≡ []) (is_note s.act) (record { label = s.label; act = s.act } ∷ notes_of rest) (notes_of rest) (ap (sizes_by x s.act) behind ∙ by_none s.act p.0 q.0) behind

-- ---- a sound unit ----

module _ (r : Routine) (sound : IsSoundUnit r) where
  abbrev own : Context
  own = check.context_of r

  -- no statement calls an array by a CALL
  uncalled : (x : Text) (n : Par) (ns : List Par) → sizes_of x (context_of r).notes ≡ n ∷ ns → (i : ℕ) (s : Line) → slice_get r.lines i ≡ Some s → (y : Text) → called_in s.act ≡ Some y → bytes_eq x y ≡ false
  uncalled x n ns array i s is y called =
      let acts = acts_in_unit r.lines in
      let broken = (or_parts (breaks_flow Whole r.header r.lines i s DuplicateName) _ (subst (λ o. is_some_and (λ t. breaks_statement Whole own acts r.lines i t DuplicateName) o ≡ false) is (sound.clean (suc i) DuplicateName))).1 in
      let mixed : mixes_roles own acts s.act ≡ false = (or_parts (declares_own own.header s.act) _ (or_parts (lists_again own acts i s.act) _ (or_parts (redeclares acts i s.act) _ broken).1).1).1 in
      let by_call = (or_parts _ (is_some_and (miscalls own acts) (called_in s.act)) mixed).1 in
      let missed : miscalls own acts y ≡ false = subst (λ o. is_some_and (miscalls own acts) o ≡ false) called by_call in
      let plain : is_array_name own y ≡ false = (or_parts (is_some (find_map (type_given y) acts)) (is_array_name own y) (or_parts (has_other_role (Some Subroutine) (role_of own acts y)) _ missed).1).1 in
      by_name (bytes_eq x y) refl plain
    where
      by_name : (b : Bool) → bytes_eq x y ≡ b → is_array_name own y ≡ false → b ≡ false
      by_name false e plain = refl
      by_name true e plain =
          let same : sizes_of x own.notes ≡ n ∷ ns = sizes_same x r.lines ∙ array in
          let there : is_array_name own x ≡ true = ap (λ ms. is_array_form (form_by (array_or ms x))) same in
          absurd (true≢false (sym there ∙ subst (λ z. is_array_name own z ≡ false) (sym ((bytes_eq-Decides x y).0 e)) plain))

  pub unplaced : (x : Text) → is_dummy x r.header ≡ false → has_places r x ≡ false → sizes_of x (context_of r).notes ≡ []
  unplaced x free none = by_sizes (sizes_of x (context_of r).notes) refl
    where
      told : (dummy mine there given called : Bool) → dummy ≡ false → called ≡ false → (not dummy && (mine || (there || (given && not called)))) ≡ false → (there ≡ false) × (given ≡ false)
      told false false false false false e f h = (refl, refl)
      told false false false true false e f h = absurd (true≢false h)
      told false false true given false e f h = absurd (true≢false h)
      told false true there given false e f h = absurd (true≢false h)
      told true mine there given called e f h = absurd (true≢false e)
      told false mine there given true e f h = absurd (true≢false f)

      by_sizes : (ms : List Par) → sizes_of x (context_of r).notes ≡ ms → ms ≡ []
      by_sizes [] e = refl
      by_sizes (m ∷ ms) e =
          let called = lines_free (context_of r) x m ms e r.lines (uncalled x m ms e) in
          let t = told (is_dummy x r.header) (is_own_value x r.header) (mentioned (is_variable x) (context_of r) r.lines) (list_any (λ s. declares x s.act) r.lines) (mentioned (is_function x) (context_of r) r.lines) free called none in
          sym e ∙ none_sized (context_of r) x r.lines t.1 t.0
