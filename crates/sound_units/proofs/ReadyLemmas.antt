-- A sound unit is ready: its rules of names say what its COMMON and EQUIVALENCE list, and those of arrays how many places there are.
use Rattle.std.proofs.Common.{◌≡◌, ◌<◌, ◌≤◌, ℕ, suc, Bool, true, false, true≢false, Some, None, List, length, get_or, refl, subst, arith}
use Rattle.std.specs.Prelude.{is_some, ◌||◌, if◌then◌else◌}
use Rattle.std.specs.Option.{option_or}
use Rattle.std.specs.List.{list_any, flat_map}
use Rattle.std.specs.Str.{bytes_eq}
use Rattle.std.proofs.lemmas.Bool.{or_parts, or_left, not-false}
use Rattle.std.proofs.lemmas.List.Elements.{All-map}
use Rattle.std.proofs.lemmas.Option.{slice_get-get_or}
use Rattle.rule_table.specs.declared.rule.Rule.{Rule}
use Rattle.rule_table.specs.declared.rule.Rule.TheVariants.{TypeClash, DuplicateName, LargeArray}
use Rattle.rule_table.specs.Words.{is_some_and}
use Rattle.f66_tree.specs.Syntax.{Text, Formula, Ref, Item, Header, MainUnit, SubUnit, FuncUnit, DataUnit, Act, Common, Equivalence, Line, Routine}
use Rattle.f66_tree.specs.Units.{Context, sizes_of, places_of}
use Rattle.f66_tree.specs.Evaluation.{array_or, sort_of}
use Rattle.f66_names.specs.NameRules.{redeclares}
use Rattle.f66_names.specs.Sorts.{form_by, is_array_form, is_array_name}
use Rattle.f66_names.specs.StoreRules.{is_large, has_large_array}
use Rattle.f66_flow.specs.FlowRules.{breaks_flow}
use Rattle.f66_flow.specs.declared.scope.Scope.TheVariants.{Whole}
use Rattle.f66_soundness.specs.SoundUnits.{acts_in_unit}
use Rattle.f66_soundness.proofs.SoundLemmas.{sizes_same}
use Rattle.unit_rules.specs.declared.roles.Role.{Role}
use Rattle.unit_rules.specs.declared.roles.Role.TheVariants.{Variable}
use Rattle.unit_rules.specs.Listed.{common_in, equated_in}
use Rattle.unit_rules.specs.Storage.{is_held, holds_place, is_no_element, has_odd_subscript, recommons, was_given_sizes, lists_again}
use Rattle.unit_rules.specs.Types.{clashes}
use Rattle.unit_rules.specs.UnitRules.{breaks_rule}
use Rattle.f66_names.specs.Declaring.{listed_in}
use Rattle.f66_check.specs.CheckRules.{context_of}
use Rattle.f66_check.specs.UnitChecks.{breaks_statement}
use Rattle.f66_check.specs.Answers.{IsSoundUnit}
use Rattle.f66_program.specs.Mentions as program
use Rattle.f66_program.specs.Mentions.{mentions_of, mentions_in, is_variable, is_dummy, applied, has_places}
use Rattle.storage_assoc.specs.Naming.{IsMemberReady, IsActReady, IsReady}
use Rattle.sound_units.specs.Laws.{SoundIsReady}
use Rattle.sound_units.proofs.ListLemmas.{none_at, none_in, any_in}
use Rattle.sound_units.proofs.PlaceLemmas.{itself, has_its, in_areas, names_array}
use Rattle.sound_units.proofs.SizeLemmas.{few_places}

-- what a header does not hold is no dummy of it

not_listed : (own listed : Bool) (r : Role) → is_some (option_or (if own then Some r else None) (if listed then Some Variable else None)) ≡ false → listed ≡ false
not_listed own false r e = refl
not_listed true true r e = absurd (true≢false e)
not_listed false true r e = absurd (true≢false e)

no_dummy : (h : Header) (x : Text) → is_held h x ≡ false → is_dummy x h ≡ false
no_dummy MainUnit x e = refl
no_dummy (SubUnit y ds) x e = not_listed (bytes_eq x y) (list_any (bytes_eq x) ds) _ e
no_dummy (FuncUnit t y ds) x e = not_listed (bytes_eq x y) (list_any (bytes_eq x) ds) _ e
no_dummy DataUnit x e = refl

-- ---- what the rules of names say of COMMON, EQUIVALENCE and arrays ----

-- what a statement lists there is not held by the header, an element is one of an array, and no array is large
pub record IsTidy (c : Context) (a : Act) : Type 0 where
  pub listed : list_any (λ d. is_held c.header d.name) (common_in a) ≡ false
  pub equated : list_any (holds_place c.header) (equated_in a) ≡ false
  pub fits : list_any (λ e. is_no_element c e || has_odd_subscript c e) (equated_in a) ≡ false
  pub small : (has_large_array a || list_any is_large (common_in a)) ≡ false

pub tidy : (c : Context) (acts : List Act) (i : ℕ) (a : Act) → ((k : Rule) → breaks_rule c acts i a k ≡ false) → IsTidy c a
tidy c acts i a keeps =
    let again = (or_parts (lists_again c acts i a) _ (or_parts (redeclares acts i a) _ (keeps DuplicateName)).1).0 in
    let held = or_parts _ _ (or_parts (list_any (was_given_sizes acts i) (listed_in a)) _ (or_parts (recommons acts i (common_in a)) _ again).1).1 in
    let odd = (or_parts (clashes c a) _ (keeps TypeClash)).1 in
    record { listed = held.0; equated = held.1; fits = (or_parts _ _ odd).0; small = keeps LargeArray }

module _ (u : Routine) where
  -- an array of the checks is one where the unit is associated
  same_array : (x : Text) → is_array_name (context_of u) x ≡ true → is_array_form (form_by (sort_of (program.context_of u) x)) ≡ true
  same_array x e = subst (λ ns. is_array_form (form_by (array_or ns x)) ≡ true) (sizes_same x u.lines) e

  member_ready : (e : Formula) → ((x : Text) → is_dummy x u.header ≡ false → list_any (is_variable x) (mentions_of (program.context_of u) e) ≡ true → has_places u x ≡ true) →
      holds_place u.header e ≡ false → (is_no_element (context_of u) e || has_odd_subscript (context_of u) e) ≡ false → IsMemberReady u e
  member_ready (Ref x) there free fits = there x (no_dummy u.header x free) (or_left (bytes_eq x x) false (itself x))
  member_ready (Item x es) there free fits =
      there x (no_dummy u.header x free)
      (or_left (is_variable x (applied x es (sort_of (program.context_of u) x))) _
      (names_array x es (sort_of (program.context_of u) x)
      (same_array x (not-false (is_array_name (context_of u) x) (or_parts (is_no_element (context_of u) (Item x es)) (has_odd_subscript (context_of u) (Item x es)) fits).0))))
  member_ready _ there free fits = tt

  act_ready : (a : Act) → ((x : Text) → is_dummy x u.header ≡ false → list_any (is_variable x) (mentions_in (program.context_of u) a) ≡ true → has_places u x ≡ true) →
      list_any (λ d. is_held u.header d.name) (common_in a) ≡ false → list_any (holds_place u.header) (equated_in a) ≡ false →
      list_any (λ e. is_no_element (context_of u) e || has_odd_subscript (context_of u) e) (equated_in a) ≡ false → IsActReady u a
  act_ready (Common areas) there listed free fits = λ k a lt i d lt'.
      there (get_or (get_or areas k a).list i d).name
      (no_dummy u.header (get_or (get_or areas k a).list i d).name
      (none_at (λ e. is_held u.header e.name) (get_or areas k a).list i d (none_in (λ e. is_held u.header e.name) (λ b. b.list) areas k a listed lt) lt'))
      (in_areas areas k a lt i d lt')
  act_ready (Equivalence groups) there listed free fits = λ k g lt i e lt'.
      member_ready (get_or (get_or groups k g) i e)
      (λ x dummy h. there x dummy
      (any_in (is_variable x) (λ es. flat_map (mentions_of (program.context_of u)) es) groups k g lt (any_in (is_variable x) (mentions_of (program.context_of u)) (get_or groups k g) i e lt' h)))
      (none_at (holds_place u.header) (get_or groups k g) i e (none_in (holds_place u.header) (λ es. es) groups k g free lt) lt')
      (none_at (λ m. is_no_element (context_of u) m || has_odd_subscript (context_of u) m) (get_or groups k g) i e
      (none_in (λ m. is_no_element (context_of u) m || has_odd_subscript (context_of u) m) (λ es. es) groups k g fits lt) lt')
  act_ready _ there listed free fits = tt

  module _ (keeps : (i : ℕ) (s : Line) → i < length u.lines → IsTidy (context_of u) (get_or u.lines i s).act) where
    line_ready : (i : ℕ) (s : Line) → i < length u.lines → IsActReady u (get_or u.lines i s).act
    line_ready i s lt =
        let t = keeps i s lt in
        act_ready (get_or u.lines i s).act (λ x free e. has_its u x i s lt free e) t.listed t.equated t.fits

    few : (x : Text) → places_of (sizes_of x (program.context_of u).notes) ≤ 32767
    few x =
        subst (λ ns. places_of ns ≤ 32767) (sizes_same x u.lines)
        (few_places x (acts_in_unit u.lines) (All-map (λ a. (has_large_array a || list_any is_large (common_in a)) ≡ false) (λ s. s.act) u.lines (λ i s lt. (keeps i s lt).small)))

    -- a unit of such statements is ready
    pub ready_by : IsReady u
    ready_by = record {
      tied = line_ready;
      small = λ x has. (let n = few x in omega (arith, n));
    }

  module _ (sound : IsSoundUnit u) where
    keeps : (i : ℕ) (s : Line) → i < length u.lines → (k : Rule) → breaks_rule (context_of u) (acts_in_unit u.lines) i (get_or u.lines i s).act k ≡ false
    keeps i s lt k =
        (or_parts (breaks_flow Whole u.header u.lines i (get_or u.lines i s) k) _
        (subst (λ o. is_some_and (λ t. breaks_statement Whole (context_of u) (acts_in_unit u.lines) u.lines i t k) o ≡ false) (slice_get-get_or u.lines i s lt) (sound.clean (suc i) k))).1

    ready : IsReady u
    ready = ready_by (λ i s lt. tidy (context_of u) (acts_in_unit u.lines) i (get_or u.lines i s).act (keeps i s lt))

pub sound_is_ready : SoundIsReady
sound_is_ready u sound = ready u sound
