-- The spare name is none of a unit's names: neither its header nor a statement gives it a type, dimensions or a class.
use Rattle.std.proofs.Common.{◌≡◌, ◌≢◌, ℕ, ◌+◌, ◌%◌, ◌/◌, Bool, true, false, List, [], ◌∷◌, ◌++◌, Option, Some, None, refl, sym, ap, ◌∙◌, arith}
use Rattle.std.specs.Prelude.{◌&&◌, ◌||◌, nat_le, if◌then◌else◌}
use Rattle.std.specs.List.{list_any, flat_map}
use Rattle.std.specs.Option.{option_or}
use Rattle.std.specs.Str.{bytes_eq}
use Rattle.std.proofs.lemmas.Bool.{or_parts, le-leb}
use Rattle.rule_table.specs.Words.{find_map}
use Rattle.f66_tree.specs.declared.declaration.TypeWord.{TypeWord}
use Rattle.f66_tree.specs.declared.declaration.TypeWord.TheVariants.{Integer}
use Rattle.f66_tree.specs.Syntax.{Text, Formula, Item, Par, Declared, Area, Header, MainUnit, SubUnit, FuncUnit, DataUnit, Entry, One, Many, Entries, NoEntry, AndEntry, Act, Assign, When, Read, Write, Typed, Dimension, Common}
use Rattle.f66_tree.specs.Units.{is_note, Context, dummies_of, name_of, one_on, position, if_any, sizes_in, sizes_in_areas, sizes_by, sizes_of, lists, typed_by, by_letter, by_header, type_in}
use Rattle.name_alloc.specs.MadeNames.{made_name}
use Rattle.f66_names.specs.Shapes.{is_capital, is_digit, is_name}
use Rattle.f66_names.specs.Sorts.{given_by, is_array_name}
use Rattle.f66_names.specs.Declaring.{noted, declared_in}
use Rattle.f66_names.specs.Uses.{Usage, uses_of, uses_of_all, uses_of_target, uses_of_par, uses_of_counting, uses_of_entry, uses_of_entries, uses_in}
use Rattle.unit_rules.specs.declared.roles.Role.TheVariants.{Variable, Subroutine}
use Rattle.unit_rules.specs.Called.{called_in, passed_in}
use Rattle.unit_rules.specs.Judged.{judged_of_target, judged_of_entry, judged_of_entries, judged_uses}
use Rattle.unit_rules.specs.Listed.{common_in, equated_in, preset_in, uses_of_listed, uses_of_place, more_uses, first_use}
use Rattle.unit_rules.specs.Heads.{is_settled}
use Rattle.unit_rules.specs.Roles.{role_used, role_given, role_called, role_in, role_listed, role_held}
use Rattle.f66_tree.proofs.Tries.{if_both}
use Rattle.rat_lower.specs.Emitted.{header_names}
use Rattle.rat_lower.proofs.Accepted.NoFault.{AllOf}
use Rattle.rat_lower.proofs.Accepted.ActNames.{AllUsed, AllDeclared, IfCalled, AllNamed, uses_join, used_split, other}
use Rattle.rat_lower.proofs.Soundness.Redeclared.{never_itself}

-- ---- its letters ----

digit_is_one : (m : ℕ) → (is_capital (48 + m % 10) || is_digit (48 + m % 10)) ≡ true
digit_is_one m = or_right_true (is_capital (48 + m % 10)) (is_digit (48 + m % 10)) (both (nat_le 48 (48 + m % 10)) (nat_le (48 + m % 10) 57) (le-leb 48 (48 + m % 10) (omega arith)) (le-leb (48 + m % 10) 57 (omega arith)))
  where
    or_right_true : (a b : Bool) → b ≡ true → (a || b) ≡ true
    or_right_true true b e = refl
    or_right_true false b e = e

    both : (a b : Bool) → a ≡ true → b ≡ true → (a && b) ≡ true
    both a b e f = ap (λ v. v && b) e ∙ f

pub made_is_name : (n : ℕ) → is_name (made_name 90 n) ≡ true
made_is_name n =
    all_true _ _ (digit_is_one (n / 10000)) (all_true _ _ (digit_is_one (n / 1000)) (all_true _ _ (digit_is_one (n / 100)) (all_true _ _ (digit_is_one (n / 10)) (all_true _ _ (digit_is_one (n / 1)) refl))))
  where
    all_true : (a b : Bool) → a ≡ true → b ≡ true → (a && b) ≡ true
    all_true a b e f = ap (λ v. v && b) e ∙ f

module _ (q : Text) where
  abbrev K : Text → Type 0
  K x = x ≢ q

  unlike : (x : Text) → x ≢ q → bytes_eq q x ≡ false
  unlike x other = never_itself q x (λ e. other (sym e))

  -- ---- the header ----

  -- the header gives other names
  pub record IsApart (h : Header) : Type 0 where
    pub own : name_of h ≢ q
    pub dummies : position q (dummies_of h) ≡ None
    pub unheld : role_held h q ≡ None
    pub unsettled : is_settled h q ≡ false
    pub letter : by_header q h ≡ by_letter q
    pub given : given_by q h ≡ Integer

  no_position : (ds : List Text) → list_any (bytes_eq q) ds ≡ false → position q ds ≡ None
  no_position [] e = refl
  no_position (d ∷ ds) e =
      let k = or_parts (bytes_eq q d) (list_any (bytes_eq q) ds) e in
      ap (λ b. if b then Some 0 else one_on (position q ds)) k.0 ∙ ap one_on (no_position ds k.1)

  no_dummy : (ds : List Text) → list_any (bytes_eq q) ds ≡ false → role_listed q ds ≡ None
  no_dummy ds e = ap (λ b. if b then Some Variable else None) e

  pub apart : (h : Header) → [] ≢ q → list_any (bytes_eq q) (header_names h) ≡ false → IsApart h
  apart MainUnit some e = record { own = some; dummies = refl; unheld = refl; unsettled = refl; letter = refl; given = refl }
  apart DataUnit some e = record { own = some; dummies = refl; unheld = refl; unsettled = refl; letter = refl; given = refl }
  apart (SubUnit x ds) some e =
      let k = or_parts (bytes_eq q x) (list_any (bytes_eq q) ds) e in
      record { own = other q x k.0; dummies = no_position ds k.1; unheld = ap (λ b. option_or (if b then Some Subroutine else None) (role_listed q ds)) k.0 ∙ no_dummy ds k.1; unsettled = k.0; letter = refl; given = refl }
  apart (FuncUnit None x ds) some e =
      let k = or_parts (bytes_eq q x) (list_any (bytes_eq q) ds) e in
      record { own = other q x k.0; dummies = no_position ds k.1; unheld = ap (λ b. option_or (if b then Some Variable else None) (role_listed q ds)) k.0 ∙ no_dummy ds k.1; unsettled = refl; letter = refl; given = refl }
  apart (FuncUnit (Some t) x ds) some e =
      let k = or_parts (bytes_eq q x) (list_any (bytes_eq q) ds) e in
      record {
        own = other q x k.0;
        dummies = no_position ds k.1;
        unheld = ap (λ b. option_or (if b then Some Variable else None) (role_listed q ds)) k.0 ∙ no_dummy ds k.1;
        unsettled = k.0;
        letter = ap (λ b. if b then t else by_letter q) k.0;
        given = ap (λ b. if b then t else Integer) k.0;
      }

  -- ---- types and dimensions ----

  unlisted : (ds : List Declared) → AllDeclared K ds → lists q ds ≡ false
  unlisted [] h = refl
  unlisted (d ∷ ds) h = ap (λ b. b || lists q ds) (unlike d.name h.0) ∙ unlisted ds h.1

  act_untyped : (a : Act) (w : TypeWord) → AllDeclared K (declared_in a) → typed_by q a w ≡ w
  act_untyped (Typed t ds) w h = ap (λ b. if b then t else w) (unlisted ds h)
  act_untyped _ w h = refl

  -- no statement gives it a type
  pub untyped : (acts : List Act) (w : TypeWord) → AllOf (AllNamed K) acts → type_in q (noted acts) w ≡ w
  untyped [] w h = refl
  untyped (a ∷ rest) w h = by (is_note a) (untyped rest w h.1)
    where
      by : (v : Bool) → type_in q (noted rest) w ≡ w → type_in q (if v then (record { label = None; act = a } ∷ noted rest) else noted rest) w ≡ w
      by true e = ap (typed_by q a) e ∙ act_untyped a w h.0.declared
      by false e = e

  unsized : (ds : List Declared) (others : List Par) → AllDeclared K ds → sizes_in q ds others ≡ others
  unsized [] others h = refl
  unsized (d ∷ ds) others h = ap (λ b. if b then if_any d.sizes (sizes_in q ds others) else sizes_in q ds others) (unlike d.name h.0) ∙ unsized ds others h.1

  listed_names : (ds : List Declared) → AllUsed K (flat_map uses_of_listed ds) → AllDeclared K ds
  listed_names [] h = tt
  listed_names (d ∷ ds) h = let k = used_split K (uses_of_listed d) (flat_map uses_of_listed ds) h in (k.0.0, listed_names ds k.1)

  both_parts : (xs ys : List Declared) → AllDeclared K (xs ++ ys) → AllDeclared K xs × AllDeclared K ys
  both_parts [] ys h = (tt, h)
  both_parts (x ∷ xs) ys h = let k = both_parts xs ys h.1 in ((h.0, k.0), k.1)

  areas_unsized : (areas : List Area) (others : List Par) → AllDeclared K (flat_map (λ a. a.list) areas) → sizes_in_areas q areas others ≡ others
  areas_unsized [] others h = refl
  areas_unsized (a ∷ areas) others h =
      let k = both_parts a.list (flat_map (λ b. b.list) areas) h in
      unsized a.list (sizes_in_areas q areas others) k.0 ∙ areas_unsized areas others k.1

  act_unsized : (a : Act) (others : List Par) → AllNamed K a → sizes_by q a others ≡ others
  act_unsized (Typed t ds) others h = unsized ds others h.declared
  act_unsized (Dimension ds) others h = unsized ds others h.declared
  act_unsized (Common areas) others h = areas_unsized areas others (listed_names (flat_map (λ a. a.list) areas) h.common)
  act_unsized _ others h = refl

  -- or dimensions
  pub none_sized : (acts : List Act) → AllOf (AllNamed K) acts → sizes_of q (noted acts) ≡ []
  none_sized [] h = refl
  none_sized (a ∷ rest) h = by (is_note a) (none_sized rest h.1)
    where
      by : (v : Bool) → sizes_of q (noted rest) ≡ [] → sizes_of q (if v then (record { label = None; act = a } ∷ noted rest) else noted rest) ≡ []
      by true e = act_unsized a (sizes_of q (noted rest)) h.0 ∙ e
      by false e = e

  -- ---- classes ----

  module _ (c : Context) where
    none_given : (us : List Usage) → AllUsed K us → find_map (role_given c q) us ≡ None
    none_given [] h = refl
    none_given (u ∷ us) h = ap (λ b. option_or (if b then role_used c u else None) (find_map (role_given c q) us)) (unlike u.name h.0) ∙ none_given us h.1

    -- the names that are judged are names of the statement
    target_named : (e : Formula) → AllUsed K (uses_of_target e) → AllUsed K (judged_of_target c e)
    target_named (Item x es) h = if_both (AllUsed K) (is_array_name c x) (uses_of_target (Item x es)) [] h tt
    target_named _ h = h

    mutual
      entry_named : (e : Entry) → AllUsed K (uses_of_entry e) → AllUsed K (judged_of_entry c e)
      entry_named (One e) h = target_named e h
      entry_named (Many es x p q r) h =
          let k = used_split K (uses_of_entries es) (uses_of_counting x p q r) h in
          uses_join (λ u. K u.name) (judged_of_entries c es) (uses_of_counting x p q r) (entries_named es k.0) k.1

      entries_named : (es : Entries) → AllUsed K (uses_of_entries es) → AllUsed K (judged_of_entries c es)
      entries_named NoEntry h = tt
      entries_named (AndEntry e es) h =
          let k = used_split K (uses_of_entry e) (uses_of_entries es) h in
          uses_join (λ u. K u.name) (judged_of_entry c e) (judged_of_entries c es) (entry_named e k.0) (entries_named es k.1)

    listed_named : (p : Par) (es : Entries) → AllUsed K (uses_of_par p ++ uses_of_entries es) → AllUsed K (uses_of_par p ++ judged_of_entries c es)
    listed_named p es h =
        let k = used_split K (uses_of_par p) (uses_of_entries es) h in
        uses_join (λ u. K u.name) (uses_of_par p) (judged_of_entries c es) k.0 (entries_named es k.1)

    judged_named : (a : Act) → AllUsed K (uses_in a) → AllUsed K (judged_uses c a)
    judged_named (Assign x e) h =
        let k = used_split K (uses_of_target x) (uses_of e) h in
        uses_join (λ u. K u.name) (judged_of_target c x) (uses_of e) (target_named x k.0) k.1
    judged_named (When e a) h =
        let k = used_split K (uses_of e) (uses_in a) h in
        uses_join (λ u. K u.name) (uses_of e) (judged_uses c a) k.0 (judged_named a k.1)
    judged_named (Read p l es) h = listed_named p es h
    judged_named (Write p l es) h = listed_named p es h
    judged_named _ h = h

    place_named : (e : Formula) → AllUsed K (uses_of_target e) → AllUsed K (uses_of_place c e)
    place_named (Item x es) h = by (is_array_name c x)
      where
        by : (b : Bool) → AllUsed K (if b then uses_of_all es else [])
        by true = h.1
        by false = tt
    place_named _ h = h

    places_named : (es : List Formula) → AllUsed K (flat_map uses_of_target es) → AllUsed K (flat_map (uses_of_place c) es)
    places_named [] h = tt
    places_named (e ∷ es) h =
        let k = used_split K (uses_of_target e) (flat_map uses_of_target es) h in
        uses_join (λ u. K u.name) (uses_of_place c e) (flat_map (uses_of_place c) es) (place_named e k.0) (places_named es k.1)

    more_named : (a : Act) → AllNamed K a → AllUsed K (more_uses c a)
    more_named a h =
        uses_join (λ u. K u.name) (uses_of_all (passed_in a)) _ h.passed
        (uses_join (λ u. K u.name) (flat_map uses_of_listed (common_in a)) _ h.common
        (uses_join (λ u. K u.name) (flat_map (uses_of_place c) (equated_in a)) _ (places_named (equated_in a) h.equated) (places_named (preset_in a) h.preset)))

    not_called : (o : Option Text) → IfCalled K o → role_called q o ≡ None
    not_called None h = refl
    not_called (Some x) h = ap (λ b. if b then Some Subroutine else None) (unlike x h)

    act_unsaid : (a : Act) → AllNamed K a → role_in c q a ≡ None
    act_unsaid a h =
        ap (λ o. option_or o (first_use c (role_given c q) a)) (not_called (called_in a) h.called)
        ∙ ap (λ o. option_or o (find_map (role_given c q) (more_uses c a))) (none_given (judged_uses c a) (judged_named a h.used)) ∙ none_given (more_uses c a) (more_named a h)

    -- or a class
    pub unsaid : (acts : List Act) → AllOf (AllNamed K) acts → find_map (role_in c q) acts ≡ None
    unsaid [] h = refl
    unsaid (a ∷ rest) h = ap (λ o. option_or o (find_map (role_in c q) rest)) (act_unsaid a h.0) ∙ unsaid rest h.1
