-- Where names have the same forms, types and dimensions in two units, a statement breaks the same rules there.
use Rattle.std.proofs.Common.{◌≡◌, ℕ, Bool, List, [], ◌∷◌, ◌++◌, refl, ap, ◌∙◌}
use Rattle.std.specs.Prelude.{not, ◌&&◌, ◌||◌, ◌==◌, take, drop, if◌then◌else◌}
use Rattle.std.specs.List.{list_any, flat_map}
use Rattle.ground.specs.declared.value.Kind.{Kind}
use Rattle.ground.specs.declared.value.Kind.TheVariants.{Integer, Logical}
use Rattle.f66_tree.specs.declared.editing.Way.{Way}
use Rattle.f66_tree.specs.declared.editing.Way.TheVariants.{Reading, Writing}
use Rattle.f66_tree.specs.Syntax.{Text, Formula, Int, Truth, Letter, Ref, Item, Group, Plus, Minus, Not, Pair, Formulas, NoFormula, AndFormula, Par, Constant, Named, Declared, PresetPart, Header, Entry, One, Many, Entries, NoEntry, AndEntry, Act, Assign, Computed, Sign, When, Loop, Invoke, Read, Write}
use Rattle.f66_tree.specs.Units.{Note, Context, sizes_of, kind_of}
use Rattle.f66_tree.specs.Evaluation.{array_or}
use Rattle.f66_names.specs.declared.name_form.NameForm.{NameForm}
use Rattle.f66_names.specs.Declaring.{declared_in}
use Rattle.f66_names.specs.Sorts.{form_by, name_form, is_foreign, is_dummy, is_array_form, is_array_name, is_integer, is_counter, takes}
use Rattle.f66_names.specs.Uses.{Usage, many, uses_of, uses_of_all, uses_of_target, uses_of_par, uses_of_counting}
use Rattle.f66_names.specs.Kinds.{is_number, is_index, is_times, is_plus_or_minus, is_multiple, is_shifted, is_subscript, are_subscripts, same_kind, may_be, operand, outcome, takes_kind, is_counting, is_listed, counts, is_entry, are_entries}
use Rattle.f66_names.specs.StoreRules.{is_bad_size, has_bad_size, has_bad_constant, is_assignable, stores_item, stores_entry, store_entries, stores_wrong}
use Rattle.f66_names.specs.NameRules.{has_many_sizes, has_wrong_sizes, miscounts_by, miscounts}
use Rattle.unit_rules.specs.Called.{passed_in}
use Rattle.unit_rules.specs.Judged.{judged_of_target, judged_of_entry, judged_of_entries, judged_uses}
use Rattle.unit_rules.specs.Listed.{common_in, equated_in, preset_in, uses_of_listed, uses_of_place, more_uses, any_use}
use Rattle.unit_rules.specs.Types.{applied, kind_applied, kind_seen, is_whole, is_letter, fits, are_integers, are_actuals, are_passed, assigns, clashes}
use Rattle.unit_rules.specs.Storage.{has_odd_subscript, is_no_element, lists_odd, miscounts_element, has_one_subscript, miscounts_values, any_part, lists_miscounted, has_variable_subscript, has_misfit, has_bad_value, lists_bad_constant}
use Rattle.unit_rules.specs.UnitRules.{counts_wrong}

module _ (h : Header) (m n : List Note) (sizes : (x : Text) → sizes_of x n ≡ sizes_of x m) where
  abbrev c : Context
  c = record { header = h; notes = m }

  abbrev d : Context
  d = record { header = h; notes = n }

  -- ---- forms ----

  pub forms : (x : Text) → name_form d x ≡ name_form c x
  forms x = ap (λ ns. form_by (array_or ns x)) (sizes x)

  pub arrays : (x : Text) → is_array_name d x ≡ is_array_name c x
  arrays x = ap is_array_form (forms x)

  miscounted : (u : Usage) → miscounts d u ≡ miscounts c u
  miscounted u = ap (λ f. miscounts_by f u.manner) (forms u.name)

  judged_target : (e : Formula) → judged_of_target d e ≡ judged_of_target c e
  judged_target (Item x es) = ap (λ b. if b then uses_of_target (Item x es) else []) (arrays x)
  judged_target _ = refl

  mutual
    judged_entry : (e : Entry) → judged_of_entry d e ≡ judged_of_entry c e
    judged_entry (One e) = judged_target e
    judged_entry (Many es x p q r) = ap (λ us. us ++ uses_of_counting x p q r) (judged_entries es)

    judged_entries : (es : Entries) → judged_of_entries d es ≡ judged_of_entries c es
    judged_entries NoEntry = refl
    judged_entries (AndEntry e es) = ap (λ us. us ++ judged_of_entries d es) (judged_entry e) ∙ ap (λ us. judged_of_entry c e ++ us) (judged_entries es)

  pub judged : (a : Act) → judged_uses d a ≡ judged_uses c a
  judged (Assign x e) = ap (λ us. us ++ uses_of e) (judged_target x)
  judged (When e a) = ap (λ us. uses_of e ++ us) (judged a)
  judged (Read u l es) = ap (λ us. uses_of_par u ++ us) (judged_entries es)
  judged (Write u l es) = ap (λ us. uses_of_par u ++ us) (judged_entries es)
  judged _ = refl

  placed : (e : Formula) → uses_of_place d e ≡ uses_of_place c e
  placed (Item x es) = ap (λ b. if b then uses_of_all es else []) (arrays x)
  placed _ = refl

  pub more : (a : Act) → more_uses d a ≡ more_uses c a
  more a = ap (λ (f : Formula → List Usage). uses_of_all (passed_in a) ++ (flat_map uses_of_listed (common_in a) ++ (flat_map f (equated_in a) ++ flat_map f (preset_in a)))) (λ i e. placed e i)

  element : (e : Formula) → miscounts_element d e ≡ miscounts_element c e
  element (Item x es) = ap (λ f. is_array_form f && not (takes f (many es))) (forms x)
  element _ = refl

  listed_counts : (a : Act) → lists_miscounted d a ≡ lists_miscounted c a
  listed_counts a =
      ap (λ (f : Formula → Bool). list_any has_many_sizes (common_in a) || (list_any (λ e. f e && not (has_one_subscript e)) (equated_in a) || (list_any f (preset_in a) || any_part miscounts_values a))) (λ i e. element e i)

  pub measured : (a : Act) → counts_wrong d a ≡ counts_wrong c a
  measured a =
      ap (λ (f : Usage → Bool). has_wrong_sizes a || ((list_any f (judged_uses d a) || list_any f (more_uses d a)) || lists_miscounted d a)) (λ i u. miscounted u i)
      ∙ ap (λ us. has_wrong_sizes a || ((list_any (miscounts c) us || list_any (miscounts c) (more_uses d a)) || lists_miscounted d a)) (judged a)
      ∙ ap (λ us. has_wrong_sizes a || ((list_any (miscounts c) (judged_uses c a) || list_any (miscounts c) us) || lists_miscounted d a)) (more a)
      ∙ ap (λ b. has_wrong_sizes a || (any_use c (miscounts c) a || b)) (listed_counts a)

  -- ---- what is stored into ----

  assigned : (x : Formula) → is_assignable d x ≡ is_assignable c x
  assigned (Ref x) = ap not (arrays x)
  assigned (Item x es) = arrays x
  assigned _ = refl

  items_stored : (way : Way) (e : Formula) → stores_item way d e ≡ stores_item way c e
  items_stored Reading (Item x es) = arrays x
  items_stored Reading _ = refl
  items_stored Writing e = refl

  mutual
    entry_stored : (way : Way) (e : Entry) → stores_entry way d e ≡ stores_entry way c e
    entry_stored way (One e) = items_stored way e
    entry_stored way (Many es x p q r) = ap (λ b. b && not (is_array_name d x)) (entries_stored way es) ∙ ap (λ b. store_entries way c es && not b) (arrays x)

    entries_stored : (way : Way) (es : Entries) → store_entries way d es ≡ store_entries way c es
    entries_stored way NoEntry = refl
    entries_stored way (AndEntry e es) = ap (λ b. b && store_entries way d es) (entry_stored way e) ∙ ap (λ b. stores_entry way c e && b) (entries_stored way es)

  pub stored : (a : Act) → stores_wrong d a ≡ stores_wrong c a
  stored (Assign x e) = ap not (assigned x)
  stored (Loop l x p q r) = arrays x
  stored (When e a) = stored a
  stored (Read u l es) = ap not (entries_stored Reading es)
  stored (Write u l es) = ap not (entries_stored Writing es)
  stored _ = refl

  module _ (kinds : (x : Text) → kind_of d x ≡ kind_of c x) (foreign : (x : Text) → is_foreign d x ≡ is_foreign c x) where
    -- ---- subscripts ----

    counters : (x : Text) → is_counter d x ≡ is_counter c x
    counters x = ap (λ b. not b && is_integer (kind_of d x)) (arrays x) ∙ ap (λ t. not (is_array_name c x) && is_integer t) (kinds x)

    may : (x : Text) (t : Kind) → may_be d x t ≡ may_be c x t
    may x t = ap (λ s. same_kind s t || is_foreign d x) (kinds x) ∙ ap (λ b. same_kind (kind_of c x) t || b) (foreign x)

    index : (e : Formula) → is_index d e ≡ is_index c e
    index (Ref x) = counters x
    index _ = refl

    multiple : (e : Formula) → is_multiple d e ≡ is_multiple c e
    multiple (Ref x) = counters x
    multiple (Pair op a b) = ap (λ v. is_times op && (is_number a && v)) (index b)
    multiple _ = refl

    shifted : (e : Formula) → is_shifted d e ≡ is_shifted c e
    shifted (Pair op a b) = ap (λ v. is_plus_or_minus op && (v && is_number b)) (multiple a)
    shifted _ = refl

    subscript : (e : Formula) → is_subscript d e ≡ is_subscript c e
    subscript e = ap (λ v. is_number e || (v || is_shifted d e)) (multiple e) ∙ ap (λ v. is_number e || (is_multiple c e || v)) (shifted e)

    subscripts : (es : Formulas) → are_subscripts d es ≡ are_subscripts c es
    subscripts NoFormula = refl
    subscripts (AndFormula e es) = ap (λ v. v && are_subscripts d es) (subscript e) ∙ ap (λ v. is_subscript c e && v) (subscripts es)

    odd : (e : Formula) → has_odd_subscript d e ≡ has_odd_subscript c e
    odd (Item x es) = ap (λ b. b && not (are_subscripts d es)) (arrays x) ∙ ap (λ b. is_array_name c x && not b) (subscripts es)
    odd _ = refl

    no_element : (e : Formula) → is_no_element d e ≡ is_no_element c e
    no_element (Item x es) = ap not (arrays x)
    no_element _ = refl

    pub oddly : (a : Act) → lists_odd d a ≡ lists_odd c a
    oddly a =
        ap (λ (f : Formula → Bool). list_any (λ e. f e || has_odd_subscript d e) (equated_in a) || list_any (has_odd_subscript d) (preset_in a)) (λ i e. no_element e i)
        ∙ ap (λ (f : Formula → Bool). list_any (λ e. is_no_element c e || f e) (equated_in a) || list_any f (preset_in a)) (λ i e. odd e i)

    -- ---- expressions ----

    seen : (e : Formula) → kind_seen d e ≡ kind_seen c e
    seen (Ref x) = kinds x
    seen (Item x es) = ap (λ f. kind_applied f (kind_of d x)) (forms x) ∙ ap (kind_applied (name_form c x)) (kinds x)
    seen (Group a) = seen a
    seen _ = refl

    whole : (e : Formula) → is_whole d e ≡ is_whole c e
    whole (Ref x) = arrays x
    whole _ = refl

    -- of a name with parentheses, by its form, its subscripts, its type, and its arguments
    abbrev by_form : Kind → NameForm → Bool → Bool → Kind → Bool → Bool → Bool
    by_form t f subs maybe k ints acts = applied f (subs && maybe) (is_integer k && ints && same_kind Integer t) (maybe && acts)

    mutual
      fitted : (e : Formula) (t : Kind) → fits d e t ≡ fits c e t
      fitted (Int z) t = refl
      fitted (Truth b) t = refl
      fitted (Letter l) t = refl
      fitted (Ref x) t = ap (λ b. not b && may_be d x t) (arrays x) ∙ ap (λ b. not (is_array_name c x) && b) (may x t)
      fitted (Item x es) t =
          ap (λ f. by_form t f (are_subscripts d es) (may_be d x t) (kind_of d x) (are_integers d es) (are_actuals d es)) (forms x)
          ∙ ap (λ b. by_form t (name_form c x) b (may_be d x t) (kind_of d x) (are_integers d es) (are_actuals d es)) (subscripts es)
          ∙ ap (λ b. by_form t (name_form c x) (are_subscripts c es) b (kind_of d x) (are_integers d es) (are_actuals d es)) (may x t)
          ∙ ap (λ k. by_form t (name_form c x) (are_subscripts c es) (may_be c x t) k (are_integers d es) (are_actuals d es)) (kinds x)
          ∙ ap (λ b. by_form t (name_form c x) (are_subscripts c es) (may_be c x t) (kind_of c x) b (are_actuals d es)) (integers es)
          ∙ ap (λ b. by_form t (name_form c x) (are_subscripts c es) (may_be c x t) (kind_of c x) (are_integers c es) b) (actuals es)
      fitted (Group a) t = fitted a t
      fitted (Plus a) t = ap (λ b. same_kind Integer t && b) (fitted a Integer)
      fitted (Minus a) t = ap (λ b. same_kind Integer t && b) (fitted a Integer)
      fitted (Not a) t = ap (λ b. same_kind Logical t && b) (fitted a Logical)
      fitted (Pair op a b) t =
          ap (λ p. same_kind (outcome op) t && (p && fits d b (operand op))) (fitted a (operand op)) ∙ ap (λ p. same_kind (outcome op) t && (fits c a (operand op) && p)) (fitted b (operand op))

      integers : (es : Formulas) → are_integers d es ≡ are_integers c es
      integers NoFormula = refl
      integers (AndFormula e es) = ap (λ b. b && are_integers d es) (fitted e Integer) ∙ ap (λ b. fits c e Integer && b) (integers es)

      actuals : (es : Formulas) → are_actuals d es ≡ are_actuals c es
      actuals NoFormula = refl
      actuals (AndFormula e es) =
          ap (λ b. (b || fits d e (kind_seen d e)) && are_actuals d es) (whole e) ∙ ap (λ k. (is_whole c e || fits d e k) && are_actuals d es) (seen e)
          ∙ ap (λ b. (is_whole c e || b) && are_actuals d es) (fitted e (kind_seen c e)) ∙ ap (λ b. (is_whole c e || fits c e (kind_seen c e)) && b) (actuals es)

    handed : (es : Formulas) → are_passed d es ≡ are_passed c es
    handed NoFormula = refl
    handed (AndFormula e es) =
        ap (λ b. (is_letter e || (b || fits d e (kind_seen d e))) && are_passed d es) (whole e) ∙ ap (λ k. (is_letter e || (is_whole c e || fits d e k)) && are_passed d es) (seen e)
        ∙ ap (λ b. (is_letter e || (is_whole c e || b)) && are_passed d es) (fitted e (kind_seen c e)) ∙ ap (λ b. (is_letter e || (is_whole c e || fits c e (kind_seen c e))) && b) (handed es)

    -- ---- statements ----

    pub taken : (x : Formula) (t : Kind) → takes_kind d x t ≡ takes_kind c x t
    taken (Ref x) t = ap (λ b. b || may_be d x t) (arrays x) ∙ ap (λ b. is_array_name c x || b) (may x t)
    taken (Item x es) t =
        ap (λ b. not b || (are_subscripts d es && may_be d x t)) (arrays x)
        ∙ ap (λ b. not (is_array_name c x) || (b && may_be d x t)) (subscripts es)
        ∙ ap (λ b. not (is_array_name c x) || (are_subscripts c es && b)) (may x t)
    taken _ t = refl

    assigned_kind : (x e : Formula) (t : Kind) → assigns d x e t ≡ assigns c x e t
    assigned_kind x e t = ap (λ b. b && fits d e t) (taken x t) ∙ ap (λ b. takes_kind c x t && b) (fitted e t)

    counting : (p : Par) → is_counting d p ≡ is_counting c p
    counting (Constant z) = refl
    counting (Named x) = counters x

    counted : (x : Text) (p q r : Par) → counts d x p q r ≡ counts c x p q r
    counted x p q r =
        ap (λ t. is_integer t && (is_counting d p && (is_counting d q && is_counting d r))) (kinds x)
        ∙ ap (λ b. is_integer (kind_of c x) && (b && (is_counting d q && is_counting d r))) (counting p)
        ∙ ap (λ b. is_integer (kind_of c x) && (is_counting c p && (b && is_counting d r))) (counting q)
        ∙ ap (λ b. is_integer (kind_of c x) && (is_counting c p && (is_counting c q && b))) (counting r)

    listed : (way : Way) (e : Formula) → is_listed way d e ≡ is_listed way c e
    listed way (Ref x) = refl
    listed Reading (Item x es) = ap (λ b. not b || are_subscripts d es) (arrays x) ∙ ap (λ b. not (is_array_name c x) || b) (subscripts es)
    listed Writing (Item x es) = ap (λ b. b && are_subscripts d es) (arrays x) ∙ ap (λ b. is_array_name c x && b) (subscripts es)
    listed way _ = refl

    mutual
      entry : (way : Way) (e : Entry) → is_entry way d e ≡ is_entry way c e
      entry way (One e) = listed way e
      entry way (Many es x p q r) = ap (λ b. b && counts d x p q r) (entries way es) ∙ ap (λ b. are_entries way c es && b) (counted x p q r)

      entries : (way : Way) (es : Entries) → are_entries way d es ≡ are_entries way c es
      entries way NoEntry = refl
      entries way (AndEntry e es) = ap (λ b. b && are_entries way d es) (entry way e) ∙ ap (λ b. is_entry way c e && b) (entries way es)

    transferred : (way : Way) (u : Par) (es : Entries) → not (is_counting d u && are_entries way d es) ≡ not (is_counting c u && are_entries way c es)
    transferred way u es = ap (λ b. not (b && are_entries way d es)) (counting u) ∙ ap (λ b. not (is_counting c u && b)) (entries way es)

    pub clashed : (a : Act) → clashes d a ≡ clashes c a
    clashed (Assign x e) = ap (λ b. not (b || assigns d x e Logical)) (assigned_kind x e Integer) ∙ ap (λ b. not (assigns c x e Integer || b)) (assigned_kind x e Logical)
    clashed (Computed ls x) = ap not (counters x)
    clashed (Sign e l o q) = ap not (fitted e Integer)
    clashed (When e a) = ap (λ b. not b || clashes d a) (fitted e Logical) ∙ ap (λ b. not (fits c e Logical) || b) (clashed a)
    clashed (Loop l x p q r) = ap not (counted x p q r)
    clashed (Invoke x es) = ap not (handed es)
    clashed (Read u l es) = transferred Reading u es
    clashed (Write u l es) = transferred Writing u es
    clashed _ = refl

    -- ---- constants ----

    unfit : (x : Text) (p : Par) → is_bad_size d x p ≡ is_bad_size c x p
    unfit x (Constant z) = refl
    unfit x (Named y) = ap (λ b. not (is_dummy c x && (is_dummy c y && b))) (counters y)

    sized : (x : Declared) → has_bad_size d x ≡ has_bad_size c x
    sized x = ap (λ (f : Par → Bool). list_any f x.sizes) (λ i p. unfit x.name p i)

    pub constants : (a : Act) → has_bad_constant d a ≡ has_bad_constant c a
    constants a = ap (λ (f : Declared → Bool). list_any f (declared_in a)) (λ i x. sized x i)

    misfit : (ps : List Formula) (vs : List (ℕ × Formula)) → has_misfit d ps vs ≡ has_misfit c ps vs
    misfit ps [] = refl
    misfit ps (v ∷ vs) =
        ap (λ (f : Formula → Bool). list_any f (take v.0 ps) || has_misfit d (drop v.0 ps) vs) (λ i p. ap not (taken p (kind_seen d v.1)) i)
        ∙ ap (λ k. list_any (λ p. not (takes_kind c p k)) (take v.0 ps) || has_misfit d (drop v.0 ps) vs) (seen v.1)
        ∙ ap (λ b. list_any (λ p. not (takes_kind c p (kind_seen c v.1))) (take v.0 ps) || b) (misfit (drop v.0 ps) vs)

    bad_value : (p : PresetPart) → has_bad_value d p ≡ has_bad_value c p
    bad_value p = ap (λ b. list_any (λ v. v.0 == 0) p.values || b) (misfit p.places p.values)

    pub listed_constants : (a : Act) → lists_bad_constant d a ≡ lists_bad_constant c a
    listed_constants a =
        ap (λ (f : Declared → Bool). list_any f (common_in a) || (list_any has_variable_subscript (equated_in a) || any_part (has_bad_value d) a)) (λ i x. sized x i)
        ∙ ap (λ (f : PresetPart → Bool). list_any (has_bad_size c) (common_in a) || (list_any has_variable_subscript (equated_in a) || any_part f a)) (λ i p. bad_value p i)
