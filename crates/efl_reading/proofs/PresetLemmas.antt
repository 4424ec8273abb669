-- Ranges that presets fill, one behind the other, and a part with initial values.
use Rattle.std.proofs.Common.{◌≡◌, ◌<◌, ℕ, ◌+◌, nat_le, nat_lt, Bool, true, false, ◌&&◌, ◌||◌, List, [], ◌∷◌, ◌++◌, map, sum, flat_map, Option, Some, None, option_map, is_some, unwrap_or, refl, sym, ap, subst, ◌∙◌, append_assoc, arith, if◌then◌else◌}
use Rattle.std.specs.List.{list_any, slice_get}
use Rattle.std.specs.Result.{IfOk}
use Rattle.std.specs.declared.result.Result.{Result}
use Rattle.std.specs.declared.result.Result.TheVariants.{Ok, Err}
use Rattle.std.specs.Option.{option_or, option_and_then}
use Rattle.std.proofs.lemmas.List.{append-nil}
use Rattle.std.proofs.lemmas.Grind.{flat_map-append}
use Rattle.std.proofs.Math.Bool.{or_assoc}
use Rattle.ground.specs.declared.fault.Fault.{Fault}
use Rattle.ground.specs.declared.place.Place.{Place}
use Rattle.efl_tree.specs.Syntax.{Text, Initial, EflPreset, EflProcedure}
use Rattle.efl_scope.specs.Parts.{Declares, Around, Part, part}
use Rattle.efl_types.specs.declared.rule.TypeRule.{TypeRule}
use Rattle.efl_types.specs.declared.rule.TypeRule.TheVariants.{InitialTwice, ManyValues}
use Rattle.efl_types.specs.Expressions.{when}
use Rattle.efl_types.specs.Presets.{Owner, Own, OfArea, Filled, meet, many_values, meets_earlier, filled, preset_faults}
use Rattle.efl_types.specs.TypeRules.{rule_number, names_of, is_outer, faults_by, part_faults, presets_of, part_fills, part_values, passes_limit, broken_rules}
use Rattle.efl_scoped.specs.Numbers.{Table, Grows, along}
use Rattle.efl_scoped.specs.Seen.{table_of}
use Rattle.efl_scoped.specs.Told.{capped}
use Rattle.efl_scoped.proofs.WordLemmas.{grows_same, grows_on}
use Rattle.efl_expressions.specs.FirstRule.{or_lower, first_rule}
use Rattle.efl_places.proofs.RuleLemmas.{first_of_three}
use Rattle.efl_initial_values.specs.Fills.{Ends, ends_of, Notes}
use Rattle.efl_initial_values.specs.Owners.{owner_code}
use Rattle.efl_initial_values.proofs.FillLemmas.{notes_last, notes_later}
use Rattle.efl_reading.specs.declared.progress.Progress.{Progress}
use Rattle.efl_reading.specs.Reading.{fault_at, Behind, FillsMore}
use Rattle.efl_reading.proofs.ReadingLemmas.{first_more, sum_more, no_fault}

-- ---- the numbers of owners stay ----

along_stays : (f g : Table) → Grows f g → (ws : List ℕ) (k n : ℕ) → along f ws k ≡ Some n → along g ws k ≡ Some n
along_stays f g grows [] k n is = is
along_stays f g grows (w ∷ ws) k n is = each (f k w) refl (λ j. along_stays f g grows ws j n) is
  where
    each : (o : Option ℕ) → f k w ≡ o → ((j : ℕ) → along f ws j ≡ Some n → along g ws j ≡ Some n) → option_and_then (along f ws) o ≡ Some n → option_and_then (along g ws) (g k w) ≡ Some n
    each None at rest is = absurd cc
    each (Some j) at rest is = ap (option_and_then (along g ws)) (grows k w j at) ∙ rest j is

pub codes_stay : (f g : Table) → Grows f g → (o : Owner) (n : ℕ) → owner_code f o ≡ Some n → owner_code g o ≡ Some n
codes_stay f g grows (Own u h x) n is = each (along f x 2) refl is
  where
    each : (o : Option ℕ) → along f x 2 ≡ o → option_and_then (λ w. along f (u ∷ w ∷ h) 0) o ≡ Some n → option_and_then (λ w. along g (u ∷ w ∷ h) 0) (along g x 2) ≡ Some n
    each None at is = absurd cc
    each (Some w) at is = ap (option_and_then (λ w. along g (u ∷ w ∷ h) 0)) (along_stays f g grows x 2 w at) ∙ along_stays f g grows (u ∷ w ∷ h) 0 n is
codes_stay f g grows (OfArea q i) n is = along_stays f g grows (i ∷ q) 1 n is

-- ---- ranges one behind the other ----

any_middle : (p : Filled → Bool) (g : Filled) (fs gs : List Filled) → list_any p (g ∷ fs ++ gs) ≡ list_any p (fs ++ g ∷ gs)
any_middle p g [] gs = refl
any_middle p g (f ∷ fs) gs = turned (p g) (p f) (list_any p (fs ++ gs)) ∙ ap (λ r. p f || r) (any_middle p g fs gs)
  where
    turned : (a b c : Bool) → (a || (b || c)) ≡ (b || (a || c))
    turned true true c = refl
    turned true false c = refl
    turned false b c = refl

meets_same : (es bs gs : List Filled) → ((p : Filled → Bool) → list_any p es ≡ list_any p bs) → meets_earlier es gs ≡ meets_earlier bs gs
meets_same es bs [] same = refl
meets_same es bs (g ∷ gs) same =
    ap (λ r. r || meets_earlier (g ∷ es) gs) (same (meet g)) ∙ ap (λ r. list_any (meet g) bs || r) (meets_same (g ∷ es) (g ∷ bs) gs (λ p. ap (λ r. p g || r) (same p)))

meets_both : (fs gs hs : List Filled) → meets_earlier fs (gs ++ hs) ≡ (meets_earlier fs gs || meets_earlier (fs ++ gs) hs)
meets_both fs [] hs = meets_same fs (fs ++ []) hs (λ p. ap (list_any p) (sym (append-nil fs)))
meets_both fs (g ∷ gs) hs =
    ap (λ r. list_any (meet g) fs || r) (meets_both (g ∷ fs) gs hs ∙ ap (λ r. meets_earlier (g ∷ fs) gs || r) (meets_same (g ∷ fs ++ gs) (fs ++ g ∷ gs) hs (λ p. any_middle p g fs gs)))
    ∙ sym (or_assoc (list_any (meet g) fs) (meets_earlier (g ∷ fs) gs) (meets_earlier (fs ++ g ∷ gs) hs))

pub none_filled : (f : Table) (ends : Ends) → FillsMore f ends [] f ends false
none_filled f ends = record {
  grows = grows_same f;
  meets = λ fs notes. refl;
  notes = λ fs notes none. subst (Notes (owner_code f) ends) (sym (append-nil fs)) notes;
}

pub one_filled : (f g : Table) (ends later : Ends) (r : Filled) (met : Bool) → Grows f g →
    ((fs : List Filled) → Notes (owner_code g) ends fs → (met ≡ list_any (meet r) fs) × (met ≡ false → Notes (owner_code g) later (r ∷ fs))) → FillsMore f ends (r ∷ []) g later met
one_filled f g ends later r met grows more = record {
  grows = grows;
  meets = λ fs notes. (more fs (known fs notes)).0 ∙ sym (or_false (list_any (meet r) fs));
  notes = λ fs notes none. notes_last (owner_code g) later r fs ((more fs (known fs notes)).1 none);
}
  where
    known : (fs : List Filled) → Notes (owner_code f) ends fs → Notes (owner_code g) ends fs
    known fs notes = notes_later (owner_code f) (owner_code g) ends fs (codes_stay f g grows) notes

    or_false : (b : Bool) → (b || false) ≡ b
    or_false true = refl
    or_false false = refl

both_filled : (f g h : Table) (ends later last : Ends) (gs hs : List Filled) (met : Bool) → FillsMore f ends gs g later false → FillsMore g later hs h last met → FillsMore f ends (gs ++ hs) h last met
both_filled f g h ends later last gs hs met one two = record {
  grows = grows_on f g h one.grows two.grows;
  meets = λ fs notes. two.meets (fs ++ gs) (one.notes fs notes refl) ∙ ap (λ r. r || meets_earlier (fs ++ gs) hs) (one.meets fs notes) ∙ sym (meets_both fs gs hs);
  notes = λ fs notes none. subst (Notes (owner_code h) last) (append_assoc fs gs hs) (two.notes (fs ++ gs) (one.notes fs notes refl) none);
}

met_filled : (f g : Table) (ends later : Ends) (gs hs : List Filled) → FillsMore f ends gs g later true → FillsMore f ends (gs ++ hs) g later true
met_filled f g ends later gs hs one = record {
  grows = one.grows;
  meets = λ fs notes. ap (λ r. r || meets_earlier (fs ++ gs) hs) (one.meets fs notes) ∙ sym (meets_both fs gs hs);
  notes = λ fs notes none. absurd cc;
}

-- what is asked of one more range
pub record IsAsked (code : Owner → Option ℕ) (ends : Ends) (owner first many : ℕ) : Type 0 where
  pub range : Filled
  pub others : List Filled
  pub is : code range.owner ≡ Some owner
  pub begins : range.first ≡ first
  pub counts : range.many ≡ many
  pub low : first + many < 18446744073709551616
  pub notes : Notes code ends others

pub answered : {X E : Type 0} (P : X → Bool → Type 0) (Q : Bool → Type 0) (r : Result Bool E) → ((x : X) → IfOk r (P x)) → ((met : Bool) → ((x : X) → P x met) → Q met) → IfOk r Q
answered P Q (Ok met) each more = more met each
answered P Q (Err e) each more = tt

pub short_low : (first many : ℕ) → first + many < 65536 → first + many < 18446744073709551616
short_low first many short = omega (arith, short)

-- what comes behind these ranges comes with them
abbrev pub FillsOn : Table → Ends → List Filled → Table → Ends → List Filled → Type 0
FillsOn f ends all g later rest = (h : Table) (last : Ends) (met : Bool) → FillsMore g later rest h last met → FillsMore f ends all h last met

pub next_filled : (f g h : Table) (ends later last : Ends) (all left gs rest : List Filled) (met : Bool) → left ≡ gs ++ rest → FillsOn f ends all g later left → FillsMore g later gs h last met → met ≡ false → FillsOn f ends all h last rest
next_filled f g h ends later last all left gs rest met split so_far one clear k end more two =
    so_far k end more (subst (λ fs. FillsMore g later fs k end more) (sym split) (both_filled g h k later last end gs rest more (subst (FillsMore g later gs h last) clear one) two))

pub last_filled : (f g h : Table) (ends later last : Ends) (all left gs rest : List Filled) (met : Bool) → left ≡ gs ++ rest → FillsOn f ends all g later left → FillsMore g later gs h last met → met ≡ true → FillsMore f ends all h last true
last_filled f g h ends later last all left gs rest met split so_far one meets =
    so_far h last true (subst (λ fs. FillsMore g later fs h last true) (sym split) (met_filled g h later last gs rest (subst (FillsMore g later gs h last) meets one)))

pub all_filled : (f g : Table) (ends later : Ends) (all left : List Filled) → left ≡ [] → FillsOn f ends all g later left → FillsMore f ends all g later false
all_filled f g ends later all left none so_far = so_far g later false (subst (λ fs. FillsMore g later fs g later false) (sym none) (none_filled g later))

-- ---- a part with initial values ----

some_lower : (r : TypeRule) (o : Option TypeRule) → is_some (or_lower (Some r) o) ≡ true
some_lower r None = refl
some_lower r (Some s) = each (nat_le (rule_number r) (rule_number s))
  where
    each : (l : Bool) → is_some (if l then Some r else Some s) ≡ true
    each true = refl
    each false = refl

lower_some : (o p : Option TypeRule) → is_some p ≡ true → is_some (or_lower o p) ≡ true
lower_some None p is = is
lower_some (Some r) p is = some_lower r p

-- where none of these rules is broken, no range meets an earlier one
unmet : (place : Place) (rs : List TypeRule) (met passes : Bool) → fault_at place (first_rule (rs ++ when met InitialTwice ++ when passes ManyValues)) ≡ None → met ≡ false
unmet place rs false passes none = refl
unmet place rs true passes none = absurd (let d : true ≡ false = sym broken ∙ sym (told place all) ∙ nothing (fault_at place all) none in cc)
  where
    all : Option TypeRule
    all = first_rule (rs ++ when true InitialTwice ++ when passes ManyValues)

    broken : is_some all ≡ true
    broken =
        ap is_some (first_of_three rs (when true InitialTwice) (when passes ManyValues))
        ∙ lower_some (first_rule rs) (or_lower (Some InitialTwice) (first_rule (when passes ManyValues))) (some_lower InitialTwice (first_rule (when passes ManyValues)))

    told : (place : Place) (o : Option TypeRule) → is_some (fault_at place o) ≡ is_some o
    told place None = refl
    told place (Some r) = refl

    nothing : (o : Option Fault) → o ≡ None → is_some o ≡ false
    nothing o is = ap is_some is

module _ (us : List EflProcedure) (u : EflProcedure) (a : Around) (place : Place) (before : List Text) (ps : List EflPreset) (found : slice_get us a.unit ≡ Some u) where
  abbrev v : Part
  v = part a place (Declares before (Initial ps))

  abbrev own : List TypeRule
  own = flat_map (preset_faults u (names_of us u v) (is_outer a)) ps

  abbrev fills : List Filled
  fills = flat_map (filled a.unit u (names_of us u v)) ps

  own_faults : part_faults us v ≡ own
  own_faults = ap (λ o. unwrap_or (option_map (λ w. faults_by w (names_of us w v) v.around v.form) o) []) found

  own_fills : part_fills us v ≡ fills
  own_fills = ap (λ o. unwrap_or (option_map (λ w. flat_map (filled v.around.unit w (names_of us w v)) (presets_of v.form)) o) []) found

  all_fills : (vs : List Part) → flat_map (part_fills us) (vs ++ v ∷ []) ≡ flat_map (part_fills us) vs ++ fills
  all_fills vs = flat_map-append (part_fills us) vs (v ∷ []) ∙ ap (λ fs. flat_map (part_fills us) vs ++ fs) (append-nil (part_fills us v) ∙ own_fills)

  rules_are : (vs : List Part) (met passes : Bool) → met ≡ meets_earlier (flat_map (part_fills us) vs) fills → passes ≡ passes_limit vs v →
      broken_rules us vs v ≡ own ++ when met InitialTwice ++ when passes ManyValues
  rules_are vs met passes one two =
      ap (λ rs. rs ++ when (meets_earlier (flat_map (part_fills us) vs) (part_fills us v)) InitialTwice ++ when (passes_limit vs v) ManyValues) own_faults
      ∙ ap (λ fs. own ++ when (meets_earlier (flat_map (part_fills us) vs) fs) InitialTwice ++ when (passes_limit vs v) ManyValues) own_fills
      ∙ ap (λ b. own ++ when b InitialTwice ++ when (passes_limit vs v) ManyValues) (sym one)
      ∙ ap (λ b. own ++ when met InitialTwice ++ when b ManyValues) (sym two)

  pub presets_noted : (vs : List Part) (rule : Option TypeRule) (met passes : Bool) (more : ℕ) (p q : Progress) → is_some p.fault ≡ false → Behind us vs p →
      FillsMore (table_of p.owners) (ends_of p.fills.ends) fills (table_of q.owners) (ends_of q.fills.ends) met → more ≡ capped (sum (map many_values ps)) →
      ((m n : ℕ) → p.values ≡ capped m → more ≡ capped n → passes ≡ (nat_lt 0 n && nat_lt 32767 (m + n))) → q.values ≡ capped (p.values + more) →
      rule ≡ first_rule (own ++ when met InitialTwice ++ when passes ManyValues) → q.fault ≡ fault_at place rule → Behind us (vs ++ v ∷ []) q
  presets_noted vs rule met passes more p q none known new many limit values is fault = record {
    tells = told ∙ sym (ap (λ rs. fault_at place (first_rule rs)) (rules_are vs met passes (new.meets (flat_map (part_fills us) vs) notes) (limit (sum (map part_values vs)) (part_values v) counted many)))
        ∙ sym (first_more us vs v ∙ ap (λ o. option_or o (fault_at place (first_rule (broken_rules us vs v)))) (sym known.tells ∙ clear));
    filled = λ still. subst (Notes (owner_code (table_of q.owners)) (ends_of q.fills.ends)) (sym (all_fills vs)) (new.notes (flat_map (part_fills us) vs) notes (unmet place own met passes (sym told ∙ still)));
    counted = λ still. both (sum (map part_values vs)) (part_values v) p.values more q.values counted many values ∙ ap capped (sym (sum_more vs v));
  }
    where
      clear : p.fault ≡ None
      clear = no_fault p.fault none

      notes : Notes (owner_code (table_of p.owners)) (ends_of p.fills.ends) (flat_map (part_fills us) vs)
      notes = known.filled clear

      counted : p.values ≡ capped (sum (map part_values vs))
      counted = known.counted clear

      told : q.fault ≡ fault_at place (first_rule (own ++ when met InitialTwice ++ when passes ManyValues))
      told = fault ∙ ap (fault_at place) is

      both : (m n a b c : ℕ) → a ≡ capped m → b ≡ capped n → c ≡ capped (a + b) → c ≡ capped (m + n)
      both m n a b c one two three = omega (arith, one, two, three)
