-- Plain statements, the type statements of a unit and its header break no rule of names, types, forms, counts, constants and stores.
use Rattle.std.proofs.Common.{◌≡◌, ℕ, ◌<◌, Bool, true, false, List, [], ◌∷◌, ◌++◌, length, Option, Some, None, refl, sym, subst, ap, ◌∙◌, inl, inr, arith, filter, ◌||◌, ◌&&◌, not}
use Rattle.std.specs.Prelude.{nat_lt}
use Rattle.std.specs.List.{All, list_any, list_all, flat_map}
use Rattle.std.proofs.lemmas.Bool.{or_from}
use Rattle.std.proofs.lemmas.Bool.{and_from, or_left, or_right}
use Rattle.std.proofs.lemmas.List.Elements.{All-head, All-tail, All-weaker}
use Rattle.std.proofs.lemmas.List.Folds.{list_any_none}
use Rattle.ground.specs.declared.value.Kind.{Kind}
use Rattle.ground.specs.declared.value.Kind.TheVariants.{Integer, Logical}
use Rattle.rule_table.specs.Words.{repeats, first_place, is_below}
use Rattle.rule_table.specs.declared.rule.Rule.{Rule}
use Rattle.rule_table.specs.declared.rule.Rule.TheVariants.{Syntax, NameTooLong, OutOfProfileType, TypeClash, WrongCount, DuplicateName, BadConstant, BadFormat, NotAssignable, LargeArray}
use Rattle.rule_table.proofs.WordLemmas.{list_any_filter}
use Rattle.f66_tree.specs.declared.declaration.TypeWord.{TypeWord}
use Rattle.f66_tree.specs.declared.editing.Way.TheVariants.{Reading, Writing}
use Rattle.f66_tree.specs.Fields.{Fields}
use Rattle.f66_tree.specs.Syntax.{Text, Formula, Ref, Formulas, Par, Declared, Header, MainUnit, SubUnit, FuncUnit, Entries, Act, Assign, Goto, When, Invoke, Continue, Stop, Return, Read, Write, Format, Typed, Line}
use Rattle.f66_tree.specs.Units.{Context, places_of}
use Rattle.f66_names.specs.declared.name_form.Manner.TheVariants.{Alone}
use Rattle.f66_names.specs.Declaring.{is_sized}
use Rattle.f66_names.specs.Kinds.{takes_kind, are_entries, is_counting, may_be}
use Rattle.f66_names.specs.NameRules.{has_many_sizes, is_long, miscounts, redeclares}
use Rattle.f66_names.specs.Shapes.{are_printed, is_name, is_declared, are_declared, are_items, is_parameter, is_stop, stands}
use Rattle.f66_names.specs.Sorts.{is_array_name, is_other, is_real_by_letter}
use Rattle.f66_names.specs.StoreRules.{has_bad_size, is_bad_size, is_large, is_sound_format, store_entries}
use Rattle.f66_names.specs.Uses.{Usage, usage, uses_of, uses_of_all, uses_of_par, uses_of_entries, uses_of_sizes}
use Rattle.unit_rules.specs.Heads.{has_dummies, header_names, header_values, gives_other, breaks_header, is_own, is_settled, declares_own}
use Rattle.unit_rules.specs.Forms.{are_passed_forms}
use Rattle.unit_rules.specs.Judged.{judged_of_entries}
use Rattle.unit_rules.specs.Roles.{misuses, mixes_roles}
use Rattle.unit_rules.specs.Storage.{gives_sizes, was_given_sizes, lists_again}
use Rattle.unit_rules.specs.Types.{fits, assigns, are_passed}
use Rattle.unit_rules.specs.UnitRules.{breaks_rule}
use Rattle.plain_units.specs.Plain.{ArePassed, IsValue, IsTest, IsUnit, AreListed, IsPlain}
use Rattle.plain_units.specs.Known.{word_of, IsTyped, AreKnown, AreDummies, IsPlainHeader, IsGiven, IsTyping, IsHead}
use Rattle.plain_units.specs.Units.{IsLast}
use Rattle.plain_units.proofs.Values.{AreFine, none_long, none_real, none_miscounted, no_uses, more_uses, no_array, is_of, typed, variable_use, value_stands, value_fits, value_uses, test_stands, test_fits, test_uses, all_formed, all_passed, all_uses, unit_form, unit_counts, unit_uses, listed_form, listed_types, listed_stores, listed_uses, listed_judged}

-- with nothing more behind it
alone : (a : Bool) → a ≡ false → (a || false) ≡ false
alone a h = ap (λ b. b || false) h

-- of names that are used and nothing else
module _ (c : Context) where
  short_alone : (us : List Usage) → AreFine c us → (list_any (λ u. is_long u.name) us || false) ≡ false
  short_alone us h = alone (list_any (λ u. is_long u.name) us) (none_long c us h)

  typed_alone : (us : List Usage) → AreFine c us → (list_any (λ u. is_real_by_letter c u.name) us || false) ≡ false
  typed_alone us h = alone (list_any (λ u. is_real_by_letter c u.name) us) (none_real c us h)

  counted_alone : (us : List Usage) → AreFine c us → ((list_any (miscounts c) us || false) || false) ≡ false
  counted_alone us h = alone (list_any (miscounts c) us || false) (alone (list_any (miscounts c) us) (none_miscounted c us h))

module _ (V F : Text → Kind → Type 0) (S : Text → Type 0) (c : Context) (known : AreKnown V F S c) where
  -- ---- statements that are executed ----

  assigned_so : (x : Text) (k : Kind) (e : Formula) → V x k → fits c e k ≡ true → assigns c (Ref x) e k ≡ true
  assigned_so x k e v h = and_from (takes_kind c (Ref x) k) (fits c e k) (or_right (is_array_name c x) (may_be c x k) (is_of c x k (typed V F S c known x k v).kind)) h

  assigned : (x : Text) (k : Kind) (e : Formula) → V x k → fits c e k ≡ true → (assigns c (Ref x) e Integer || assigns c (Ref x) e Logical) ≡ true
  assigned x Integer e v h = or_left (assigns c (Ref x) e Integer) (assigns c (Ref x) e Logical) (assigned_so x Integer e v h)
  assigned x Logical e v h = or_right (assigns c (Ref x) e Integer) (assigns c (Ref x) e Logical) (assigned_so x Logical e v h)

  module _ (acts : List Act) (i : ℕ) where
    -- the statement breaks no rule
    abbrev IsClean : Act → Type 0
    IsClean a = (k : Rule) → breaks_rule c acts i a k ≡ false

    assign_clean : (x : Text) (e : Formula) (j : Kind) → V x j → IsValue V F S e j → mixes_roles c acts (Assign (Ref x) e) ≡ false → IsClean (Assign (Ref x) e)
    assign_clean x e j v h m Syntax = ap not (and_from (is_name x) (stands 0 e) (typed V F S c known x j v).text.name (value_stands V F S c known e j h))
    assign_clean x e j v h m NameTooLong = short_alone c (usage x Alone ∷ uses_of e) (variable_use V F S c known x j (uses_of e) v (value_uses V F S c known e j h))
    assign_clean x e j v h m OutOfProfileType = typed_alone c (usage x Alone ∷ uses_of e) (variable_use V F S c known x j (uses_of e) v (value_uses V F S c known e j h))
    assign_clean x e j v h m TypeClash =
        alone (not (assigns c (Ref x) e Integer || assigns c (Ref x) e Logical)) (ap not (assigned x j e v (value_fits V F S c known e j h)))
    assign_clean x e j v h m WrongCount = counted_alone c (usage x Alone ∷ uses_of e) (variable_use V F S c known x j (uses_of e) v (value_uses V F S c known e j h))
    assign_clean x e j v h m DuplicateName = m
    assign_clean x e j v h m NotAssignable = alone (not (not (is_array_name c x))) (ap (λ b. not (not b)) (no_array c x (typed V F S c known x j v).form))
    assign_clean x e j v h m _ = refl

    jump_clean : (e : Formula) (l : ℕ) → IsTest V F S e → mixes_roles c acts (When e (Goto l)) ≡ false → IsClean (When e (Goto l))
    jump_clean e l h m Syntax = ap not (and_from (stands 0 e && true) true (and_from (stands 0 e) true (test_stands V F S c known e h) refl) refl)
    jump_clean e l h m NameTooLong = short_alone c (uses_of e ++ []) (more_uses c (uses_of e) [] (test_uses V F S c known e h) (no_uses c))
    jump_clean e l h m OutOfProfileType = typed_alone c (uses_of e ++ []) (more_uses c (uses_of e) [] (test_uses V F S c known e h) (no_uses c))
    jump_clean e l h m TypeClash = alone (not (fits c e Logical) || false) (alone (not (fits c e Logical)) (ap not (test_fits V F S c known e h)))
    jump_clean e l h m WrongCount = counted_alone c (uses_of e ++ []) (more_uses c (uses_of e) [] (test_uses V F S c known e h) (no_uses c))
    jump_clean e l h m DuplicateName = m
    jump_clean e l h m _ = refl

    call_clean : (x : Text) (es : Formulas) → S x → ArePassed V F S es → mixes_roles c acts (Invoke x es) ≡ false → IsClean (Invoke x es)
    call_clean x es s h m Syntax = ap not (and_from (is_name x) (are_passed_forms es) (known.called x s).text.name (all_formed V F S c known es h))
    call_clean x es s h m NameTooLong =
        or_from (is_long x) (list_any (λ u. is_long u.name) (uses_of_all es ++ [])) (known.called x s).text.short (none_long c (uses_of_all es ++ []) (more_uses c (uses_of_all es) [] (all_uses V F S c known es h) (no_uses c)))
    call_clean x es s h m OutOfProfileType = none_real c (uses_of_all es ++ []) (more_uses c (uses_of_all es) [] (all_uses V F S c known es h) (no_uses c))
    call_clean x es s h m TypeClash = alone (not (are_passed c es)) (ap not (all_passed V F S c known es h))
    call_clean x es s h m WrongCount =
        alone (list_any (miscounts c) (uses_of_all es ++ [])) (none_miscounted c (uses_of_all es ++ []) (more_uses c (uses_of_all es) [] (all_uses V F S c known es h) (no_uses c)))
    call_clean x es s h m DuplicateName = m
    call_clean x es s h m _ = refl

    -- the names of a READ or WRITE
    transfer_uses : (u : Par) (es : Entries) → IsUnit V F S u → AreListed V F S es → AreFine c (uses_of_par u ++ uses_of_entries es)
    transfer_uses u es n h = more_uses c (uses_of_par u) (uses_of_entries es) (unit_uses V F S c known u n) (listed_uses V F S c known es h)

    transfer_judged : (u : Par) (es : Entries) → IsUnit V F S u → AreListed V F S es → AreFine c (uses_of_par u ++ judged_of_entries c es)
    transfer_judged u es n h = more_uses c (uses_of_par u) (judged_of_entries c es) (unit_uses V F S c known u n) (listed_judged V F S c known es h)

    read_clean : (u : Par) (l : ℕ) (es : Entries) → IsUnit V F S u → AreListed V F S es → mixes_roles c acts (Read u l es) ≡ false → IsClean (Read u l es)
    read_clean u l es n h m Syntax = ap not (and_from (is_parameter u) (are_items es) (unit_form V F S c known u n) (listed_form V F S c known es h))
    read_clean u l es n h m NameTooLong = short_alone c (uses_of_par u ++ uses_of_entries es) (transfer_uses u es n h)
    read_clean u l es n h m OutOfProfileType = typed_alone c (uses_of_par u ++ uses_of_entries es) (transfer_uses u es n h)
    read_clean u l es n h m TypeClash =
        alone (not (is_counting c u && are_entries Reading c es)) (ap not (and_from (is_counting c u) (are_entries Reading c es) (unit_counts V F S c known u n) (listed_types V F S c known Reading es h)))
    read_clean u l es n h m WrongCount = counted_alone c (uses_of_par u ++ judged_of_entries c es) (transfer_judged u es n h)
    read_clean u l es n h m DuplicateName = m
    read_clean u l es n h m NotAssignable = alone (not (store_entries Reading c es)) (ap not (listed_stores V F S c known Reading es h))
    read_clean u l es n h m _ = refl

    write_clean : (u : Par) (l : ℕ) (es : Entries) → IsUnit V F S u → AreListed V F S es → mixes_roles c acts (Write u l es) ≡ false → IsClean (Write u l es)
    write_clean u l es n h m Syntax = ap not (and_from (is_parameter u) (are_items es) (unit_form V F S c known u n) (listed_form V F S c known es h))
    write_clean u l es n h m NameTooLong = short_alone c (uses_of_par u ++ uses_of_entries es) (transfer_uses u es n h)
    write_clean u l es n h m OutOfProfileType = typed_alone c (uses_of_par u ++ uses_of_entries es) (transfer_uses u es n h)
    write_clean u l es n h m TypeClash =
        alone (not (is_counting c u && are_entries Writing c es)) (ap not (and_from (is_counting c u) (are_entries Writing c es) (unit_counts V F S c known u n) (listed_types V F S c known Writing es h)))
    write_clean u l es n h m WrongCount = counted_alone c (uses_of_par u ++ judged_of_entries c es) (transfer_judged u es n h)
    write_clean u l es n h m DuplicateName = m
    write_clean u l es n h m NotAssignable = alone (not (store_entries Writing c es)) (ap not (listed_stores V F S c known Writing es h))
    write_clean u l es n h m _ = refl

    format_clean : (fs : Fields) → are_printed fs ≡ true → is_sound_format fs ≡ true → mixes_roles c acts (Format fs) ≡ false → IsClean (Format fs)
    format_clean fs h g m Syntax = ap not h
    format_clean fs h g m DuplicateName = m
    format_clean fs h g m BadFormat = ap not g
    format_clean fs h g m _ = refl

    -- statements without names
    goto_clean : (l : ℕ) → mixes_roles c acts (Goto l) ≡ false → IsClean (Goto l)
    goto_clean l m DuplicateName = m
    goto_clean l m _ = refl

    continue_clean : mixes_roles c acts Continue ≡ false → IsClean Continue
    continue_clean m DuplicateName = m
    continue_clean m _ = refl

    return_clean : mixes_roles c acts Return ≡ false → IsClean Return
    return_clean m DuplicateName = m
    return_clean m _ = refl

    stop_clean : (n : Option ℕ) → n ≡ None → mixes_roles c acts (Stop n) ≡ false → IsClean (Stop n)
    stop_clean n e m Syntax = ap (λ o. not (is_stop o)) e
    stop_clean n e m DuplicateName = m
    stop_clean n e m _ = refl

    -- a plain statement that uses no name in two classes breaks no rule
    pub plain_clean : (a : Act) → IsPlain V F S a → mixes_roles c acts a ≡ false → (k : Rule) → breaks_rule c acts i a k ≡ false
    plain_clean (Assign (Ref x) e) h m = assign_clean x e h.0 h.1 h.2 m
    plain_clean (When e (Goto l)) h m = jump_clean e l h m
    plain_clean (Goto l) h m = goto_clean l m
    plain_clean Continue h m = continue_clean m
    plain_clean Return h m = return_clean m
    plain_clean (Stop n) h m = stop_clean n h m
    plain_clean (Invoke x es) h m = call_clean x es h.0 h.1 m
    plain_clean (Read u l es) h m = read_clean u l es h.0 h.1 m
    plain_clean (Write u l es) h m = write_clean u l es h.0 h.1 m
    plain_clean (Format fs) h m = format_clean fs h.0 h.1 m
    plain_clean a h m = absurd h

    plain_last : (a : Act) → IsLast a → IsPlain V F S a
    plain_last (Stop n) h = h
    plain_last Return h = tt
    plain_last a h = absurd h

    -- so does the last one
    pub last_clean : (a : Act) → IsLast a → mixes_roles c acts a ≡ false → (k : Rule) → breaks_rule c acts i a k ≡ false
    last_clean a h m = plain_clean a (plain_last a h) m

  -- ---- type statements ----

  module _ (j : Kind) where
    given_typed : (d : Declared) → IsGiven V F S c.header j d → IsTyped c d.name j
    given_typed d g = elim g.is [ inl v ↦ typed V F S c known d.name j v | inr f ↦ (known.functions d.name j f).0 ]

    abbrev AreGiven : List Declared → Type 0
    AreGiven ds = All (λ d. IsGiven V F S c.header j d) ds

    -- a test that none of them passes
    none_given : (test : Declared → Bool) (ds : List Declared) → ((d : Declared) → IsGiven V F S c.header j d → test d ≡ false) → AreGiven ds → list_any test ds ≡ false
    none_given test ds f h = list_any_none test ds (All-weaker (λ d. IsGiven V F S c.header j d) (λ d. test d ≡ false) f ds h)

    no_size : (test : Declared → Bool) (ds : List Declared) → AreGiven ds → list_any (λ d. is_sized d && test d) ds ≡ false
    no_size test ds h = none_given (λ d. is_sized d && test d) ds (λ d g. ap (λ ns. nat_lt 0 (length ns) && test d) g.sizes) h

    sizes_none : (ds : List Declared) → AreGiven ds → uses_of_sizes ds ≡ []
    sizes_none [] h = refl
    sizes_none (d ∷ ds) h =
        ap (λ ns. flat_map uses_of_par ns ++ uses_of_sizes ds) (All-head (λ d. IsGiven V F S c.header j d) d ds h).sizes ∙ sizes_none ds (All-tail (λ d. IsGiven V F S c.header j d) d ds h)

    size_uses : (ds : List Declared) → AreGiven ds → AreFine c (uses_of_sizes ds)
    size_uses ds h = subst (λ us. AreFine c us) (sym (sizes_none ds h)) (no_uses c)

    declared_well : (d : Declared) → IsGiven V F S c.header j d → is_declared d ≡ true
    declared_well d g = and_from (is_name d.name) (list_all is_parameter d.sizes) (given_typed d g).text.name (ap (list_all is_parameter) g.sizes)

    all_declared : (ds : List Declared) → AreGiven ds → list_all is_declared ds ≡ true
    all_declared [] h = refl
    all_declared (d ∷ ds) h =
        and_from (is_declared d) (list_all is_declared ds) (declared_well d (All-head (λ d. IsGiven V F S c.header j d) d ds h)) (all_declared ds (All-tail (λ d. IsGiven V F S c.header j d) d ds h))

    are_formed : (ds : List Declared) → 0 < length ds → AreGiven ds → are_declared ds ≡ true
    are_formed [] l h = absurd (omega arith)
    are_formed (d ∷ ds) l h = all_declared (d ∷ ds) h

  -- the types of the profile
  own_type : (j : Kind) (t : TypeWord) → t ≡ word_of j → is_other t ≡ false
  own_type Integer t e = ap is_other e
  own_type Logical t e = ap is_other e

  module _ (acts : List Act) (i : ℕ) where
    no_sizes_again : (j : Kind) (ds : List Declared) → AreGiven j ds → list_any (was_given_sizes acts i) ds ≡ false
    no_sizes_again j ds h = no_size j (λ d. is_below i (first_place (gives_sizes d.name) acts)) ds h

    type_clean : (t : TypeWord) (ds : List Declared) (j : Kind) → t ≡ word_of j → 0 < length ds → AreGiven j ds → redeclares acts i (Typed t ds) ≡ false → (k : Rule) → breaks_rule c acts i (Typed t ds) k ≡ false
    type_clean t ds j e l h r Syntax = ap not (are_formed j ds l h)
    type_clean t ds j e l h r NameTooLong =
        alone (list_any (λ d. is_long d.name) ds || list_any (λ u. is_long u.name) (uses_of_sizes ds))
        (or_from (list_any (λ d. is_long d.name) ds) (list_any (λ u. is_long u.name) (uses_of_sizes ds)) (none_given j (λ d. is_long d.name) ds (λ d g. (given_typed j d g).text.short) h) (none_long c (uses_of_sizes ds) (size_uses j ds h)))
    type_clean t ds j e l h r OutOfProfileType =
        alone (is_other t || (list_any (λ d. is_real_by_letter c d.name) ds || list_any (λ u. is_real_by_letter c u.name) (uses_of_sizes ds)))
        (or_from (is_other t) (list_any (λ d. is_real_by_letter c d.name) ds || list_any (λ u. is_real_by_letter c u.name) (uses_of_sizes ds)) (own_type j t e)
        (or_from (list_any (λ d. is_real_by_letter c d.name) ds) (list_any (λ u. is_real_by_letter c u.name) (uses_of_sizes ds)) (none_given j (λ d. is_real_by_letter c d.name) ds (λ d g. (given_typed j d g).declared) h)
        (none_real c (uses_of_sizes ds) (size_uses j ds h))))
    type_clean t ds j e l h r WrongCount =
        or_from (list_any has_many_sizes ds) ((list_any (miscounts c) (uses_of_sizes ds) || false) || false) (none_given j has_many_sizes ds (λ d g. ap (λ ns. nat_lt 3 (length ns)) g.sizes) h) (counted_alone c (uses_of_sizes ds) (size_uses j ds h))
    type_clean t ds j e l h r DuplicateName = or_from _ _ r (or_from _ _ again (or_from _ _ own roles))
      where
        again : lists_again c acts i (Typed t ds) ≡ false
        again = alone (list_any (was_given_sizes acts i) ds) (no_sizes_again j ds h)

        own : declares_own c.header (Typed t ds) ≡ false
        own = or_from (list_any (λ d. is_settled c.header d.name) ds) (list_any (λ d. is_own c.header d.name) (filter is_sized ds)) (none_given j (λ d. is_settled c.header d.name) ds (λ d g. g.other) h)
            (list_any_filter (λ d. is_own c.header d.name) is_sized ds ∙ no_size j (λ d. is_own c.header d.name) ds h)

        roles : mixes_roles c acts (Typed t ds) ≡ false
        roles = ap (λ us. (list_any (misuses c acts) us || false) || false) (sizes_none j ds h)
    type_clean t ds j e l h r BadConstant = alone (list_any (has_bad_size c) ds) (none_given j (has_bad_size c) ds (λ d g. ap (list_any (is_bad_size c d.name)) g.sizes) h)
    type_clean t ds j e l h r LargeArray = alone (list_any is_large ds) (none_given j is_large ds (λ d g. ap (λ ns. nat_lt 32767 (places_of ns)) g.sizes) h)
    type_clean t ds j e l h r _ = refl

    typing_clean : (a : Act) → IsTyping V F S c.header a → redeclares acts i a ≡ false → (k : Rule) → breaks_rule c acts i a k ≡ false
    typing_clean (Typed t ds) h r = type_clean t ds h.0 h.1 h.2 h.3 r
    typing_clean a h r = absurd h

    -- a type statement that declares no name again breaks no rule
    pub head_clean : (s : Line) → IsHead V F S c.header s → redeclares acts i s.act ≡ false → (k : Rule) → breaks_rule c acts i s.act k ≡ false
    head_clean s h r = typing_clean s.act h.typing r

  -- ---- headers ----

  dummies_named : (ds : List Text) → AreDummies V F S ds → list_all is_name ds ≡ true
  dummies_named [] h = refl
  dummies_named (x ∷ ds) h = and_from (is_name x) (list_all is_name ds) (typed V F S c known x h.0.0 h.0.1).text.name (dummies_named ds h.1)

  dummies_short : (ds : List Text) → AreDummies V F S ds → list_any is_long ds ≡ false
  dummies_short [] h = refl
  dummies_short (x ∷ ds) h = or_from (is_long x) (list_any is_long ds) (typed V F S c known x h.0.0 h.0.1).text.short (dummies_short ds h.1)

  dummies_typed : (ds : List Text) → AreDummies V F S ds → list_any (is_real_by_letter c) ds ≡ false
  dummies_typed [] h = refl
  dummies_typed (x ∷ ds) h = or_from (is_real_by_letter c x) (list_any (is_real_by_letter c) ds) (typed V F S c known x h.0.0 h.0.1).declared (dummies_typed ds h.1)

  header_formed : (h : Header) → IsPlainHeader V F S h → (has_dummies h && list_all is_name (header_names h)) ≡ true
  header_formed MainUnit p = refl
  header_formed (SubUnit x ds) p = and_from (is_name x) (list_all is_name ds) p.0.name (dummies_named ds p.2)
  header_formed (FuncUnit (Some t) x []) p = absurd (let l : 0 < 0 = p.1 in omega arith)
  header_formed (FuncUnit (Some t) x (d ∷ ds)) p = and_from (is_name x) (list_all is_name (d ∷ ds)) (typed V F S c known x p.0.0 p.0.2).text.name (dummies_named (d ∷ ds) p.3)
  header_formed h p = absurd p

  header_short : (h : Header) → IsPlainHeader V F S h → list_any is_long (header_names h) ≡ false
  header_short MainUnit p = refl
  header_short (SubUnit x ds) p = or_from (is_long x) (list_any is_long ds) p.0.short (dummies_short ds p.2)
  header_short (FuncUnit (Some t) x ds) p = or_from (is_long x) (list_any is_long ds) (typed V F S c known x p.0.0 p.0.2).text.short (dummies_short ds p.3)
  header_short h p = absurd p

  header_typed : (h : Header) → IsPlainHeader V F S h → (gives_other h || list_any (is_real_by_letter c) (header_values h)) ≡ false
  header_typed MainUnit p = refl
  header_typed (SubUnit x ds) p = dummies_typed ds p.2
  header_typed (FuncUnit (Some t) x ds) p =
      or_from (is_other t) (is_real_by_letter c x || list_any (is_real_by_letter c) ds) (own_type p.0.0 t p.0.1)
      (or_from (is_real_by_letter c x) (list_any (is_real_by_letter c) ds) (typed V F S c known x p.0.0 p.0.2).declared (dummies_typed ds p.3))
  header_typed h p = absurd p

  header_once : (h : Header) → IsPlainHeader V F S h → repeats (header_names h) ≡ false
  header_once MainUnit p = refl
  header_once (SubUnit x ds) p = p.1
  header_once (FuncUnit (Some t) x ds) p = p.2
  header_once h p = absurd p

  -- a header of these breaks no rule
  pub header_clean : IsPlainHeader V F S c.header → (k : Rule) → breaks_header c k ≡ false
  header_clean p Syntax = ap not (header_formed c.header p)
  header_clean p NameTooLong = header_short c.header p
  header_clean p OutOfProfileType = header_typed c.header p
  header_clean p DuplicateName = header_once c.header p
  header_clean p _ = refl
