-- The places that DATA fills are real: each is of a name with places, and within its dimensions.
use Rattle.std.proofs.Common.{◌≡◌, ◌++◌, ℕ, zero, suc, ◌+◌, Bool, true, false, true≢false, List, [], ◌∷◌, Some, None, refl, sym, ap, ◌∙◌, subst, arith}
use Rattle.std.specs.Prelude.{is_some, not, unsigned_abs, if◌then◌else◌}
use Rattle.std.specs.Option.{option_or}
use Rattle.std.specs.List.{All, list_any, slice_get, flat_map}
use Rattle.std.specs.Str.{bytes_eq}
use Rattle.std.proofs.lemmas.Bool.{and_parts, or_parts, or_left, or_right, not-false, not-true}
use Rattle.std.proofs.lemmas.List.Elements.{All-nil, All-cons, All-append}
use Rattle.std.proofs.lemmas.List.Folds.{list_any-append}
use Rattle.std.proofs.lemmas.Slice.Eq.{bytes_eq-Decides}
use Rattle.ground.specs.Content.{Content}
use Rattle.f66_tree.specs.Syntax.{Text, Formula, Ref, Item, Formulas, Header, MainUnit, SubUnit, FuncUnit, DataUnit, PresetPart, Act, Line, Routine}
use Rattle.f66_tree.specs.Syntax as f66
use Rattle.f66_tree.specs.Units.{Context, sizes_of}
use Rattle.f66_tree.specs.Evaluation.{Sort, AnArray, AnIntrinsic, AFunction, array_or, sort_of}
use Rattle.f66_names.specs.Sorts.{form_by, is_array_form, is_array_name}
use Rattle.f66_soundness.specs.SoundUnits.{acts_in_unit}
use Rattle.f66_soundness.proofs.KindLemmas.{none_of_both, no_some, some_same}
use Rattle.f66_soundness.proofs.SoundLemmas.{sizes_same}
use Rattle.unit_rules.specs.declared.roles.Role.{Role}
use Rattle.unit_rules.specs.declared.roles.Role.TheVariants.{Variable}
use Rattle.unit_rules.specs.Storage.{is_held, are_within, may_hold, takes_value, presets_wrong}
use Rattle.f66_check.specs.CheckRules as check
use Rattle.f66_program.specs.Mentions.{Mention, context_of, applied, mentions_of, mentions_in, is_variable, is_dummy, has_places}
use Rattle.f66_program.specs.Association.{shift, IsReal}
use Rattle.f66_program.specs.Initial.{values_of, Preset, paired, part_presets, act_presets, line_presets, presets_from, presets_of}
use Rattle.renumbering.specs.Placed.{IsPlaced}
use Rattle.renumbering.proofs.SoundLemmas.{has_one, variable_has_places}
use Rattle.renumbering.proofs.ElementLemmas.{inside}

-- ---- what the header does not hold is no dummy ----

not_listed : (own listed : Bool) (r : Role) → is_some (option_or (if own then Some r else None) (if listed then Some Variable else None)) ≡ false → listed ≡ false
not_listed own false r e = refl
not_listed true true r e = absurd (true≢false e)
not_listed false true r e = absurd (true≢false e)

no_dummy : (h : Header) (x : Text) → is_held h x ≡ false → is_dummy x h ≡ false
no_dummy MainUnit x e = refl
no_dummy (SubUnit y ds) x e = not_listed (bytes_eq x y) (list_any (bytes_eq x) ds) _ e
no_dummy (FuncUnit t y ds) x e = not_listed (bytes_eq x y) (list_any (bytes_eq x) ds) _ e
no_dummy DataUnit x e = refl

pub itself : (x : Text) → bytes_eq x x ≡ true
itself x = (bytes_eq-Decides x x).1 refl

names_array : (x : Text) (es : Formulas) (s : Sort) → is_array_form (form_by s) ≡ true → is_variable x (applied x es s) ≡ true
names_array x es (AnArray ns) e = itself x
names_array x es (AnIntrinsic g) e = absurd (true≢false (sym e))
names_array x es AFunction e = absurd (true≢false (sym e))

any_there : {X : Type 0} (test : X → Bool) (xs : List X) (i : ℕ) (x : X) → slice_get xs i ≡ Some x → test x ≡ true → list_any test xs ≡ true
any_there test [] i x is e = no_some _ is
any_there test (y ∷ xs) zero x is e = or_left (test y) _ (subst (λ z. test z ≡ true) (sym (some_same is)) e)
any_there test (y ∷ xs) (suc i) x is e = or_right (test y) _ (any_there test xs i x is e)

abbrev pub IsRealPreset : List Routine → Preset → Type 0
IsRealPreset rs q = IsReal rs q.unit q.name q.at

module _ (rs : List Routine) (u : ℕ) (r : Routine) (here : slice_get rs u ≡ Some r) (placed : IsPlaced r) where
  abbrev own : Context
  own = check.context_of r

  abbrev c : Context
  c = context_of r

  -- what is mentioned there as a variable and is no dummy has places
  abbrev Told : List Mention → Type 0
  Told ms = (x : Text) → is_dummy x r.header ≡ false → list_any (is_variable x) ms ≡ true → has_places r x ≡ true

  told_first : (ms ns : List Mention) → Told (ms ++ ns) → Told ms
  told_first ms ns h x free e = h x free (list_any-append (is_variable x) ms ns ∙ or_left (list_any (is_variable x) ms) _ e)

  told_rest : (ms ns : List Mention) → Told (ms ++ ns) → Told ns
  told_rest ms ns h x free e = h x free (list_any-append (is_variable x) ms ns ∙ or_right (list_any (is_variable x) ms) _ e)

  abbrev Fits : List Formula → Type 0
  Fits es = list_any (λ e. not (takes_value own (acts_in_unit r.lines) e)) es ≡ false

  held_not : (x : Text) → may_hold own (acts_in_unit r.lines) x ≡ true → is_dummy x r.header ≡ false
  held_not x e = no_dummy r.header x (not-true (is_held r.header x) (and_parts (not (is_held r.header x)) _ e).0)

  -- a variable, and an element
  ref_real : (x : Text) → takes_value own (acts_in_unit r.lines) (Ref x) ≡ true → Told (mentions_of c (Ref x)) → IsReal rs u x 0
  ref_real x e told =
      let has = told x (held_not x (and_parts (not (is_array_name own x)) _ e).1) (or_left (bytes_eq x x) false (itself x)) in
      record { unit = r; here = here; named = has; inside = has_one r placed x has }

  item_real : (x : Text) (es : Formulas) → takes_value own (acts_in_unit r.lines) (Item x es) ≡ true → Told (mentions_of c (Item x es)) → IsReal rs u x (unsigned_abs (shift 1 (sizes_of x c.notes) es))
  item_real x es e told =
      let p = and_parts (is_array_name own x) _ e in
      let q = and_parts (are_within (sizes_of x own.notes) es) _ p.1 in
      let array = subst (λ ns. is_array_form (form_by (array_or ns x)) ≡ true) (sizes_same x r.lines) p.0 in
      let has = told x (held_not x q.1) (or_left (is_variable x (applied x es (sort_of c x))) _ (names_array x es (sort_of c x) array)) in
      let k = inside 1 (sizes_of x c.notes) es (subst (λ ns. are_within ns es ≡ true) (sizes_same x r.lines) q.0) in
      let less = k.less in
      let at = ap unsigned_abs k.is in
      record { unit = r; here = here; named = has; inside = omega (arith, less, at) }

  paired_real : (i : ℕ) (es : List Formula) (vs : List Content) → Fits es → Told (flat_map (mentions_of c) es) → All (IsRealPreset rs) (paired u i c es vs)
  paired_real i [] vs h told = All-nil (IsRealPreset rs)
  paired_real i (Ref x ∷ es) (v ∷ vs) h told =
      let p = or_parts (not (takes_value own (acts_in_unit r.lines) (Ref x))) _ h in
      All-cons (IsRealPreset rs) _ (paired u i c es vs) (ref_real x (not-false _ p.0) (told_first (mentions_of c (Ref x)) (flat_map (mentions_of c) es) told))
      (paired_real i es vs p.1 (told_rest (mentions_of c (Ref x)) (flat_map (mentions_of c) es) told))
  paired_real i (Item x ns ∷ es) (v ∷ vs) h told =
      let p = or_parts (not (takes_value own (acts_in_unit r.lines) (Item x ns))) _ h in
      All-cons (IsRealPreset rs) _ (paired u i c es vs) (item_real x ns (not-false _ p.0) (told_first (mentions_of c (Item x ns)) (flat_map (mentions_of c) es) told))
      (paired_real i es vs p.1 (told_rest (mentions_of c (Item x ns)) (flat_map (mentions_of c) es) told))
  paired_real i (e ∷ es) vs h told = All-nil (IsRealPreset rs)

  parts_real : (i : ℕ) (parts : List PresetPart) → Fits (flat_map (λ p. p.places) parts) → Told (flat_map (λ p. flat_map (mentions_of c) p.places) parts) → All (IsRealPreset rs) (flat_map (part_presets u i c) parts)
  parts_real i [] h told = All-nil (IsRealPreset rs)
  parts_real i (p ∷ parts) h told =
      let q = none_of_both (λ e. not (takes_value own (acts_in_unit r.lines) e)) p.places (flat_map (λ k. k.places) parts) h in
      let first = flat_map (mentions_of c) p.places in
      let rest = flat_map (λ k. flat_map (mentions_of c) k.places) parts in
      All-append (IsRealPreset rs) (part_presets u i c p) (flat_map (part_presets u i c) parts) (paired_real i p.places (values_of p.values) q.0 (told_first first rest told)) (parts_real i parts q.1 (told_rest first rest told))

  act_real : (i : ℕ) (a : Act) → presets_wrong own (acts_in_unit r.lines) a ≡ false → Told (mentions_in c a) → All (IsRealPreset rs) (act_presets u i c a)
  act_real i (f66.Preset parts) h told = parts_real i parts h told
  act_real i _ h told = All-nil (IsRealPreset rs)

  -- ---- the statements of the unit ----

  pub told_there : (i : ℕ) (s : Line) → slice_get r.lines i ≡ Some s → Told (mentions_in c s.act)
  told_there i s is x free e = variable_has_places r x free (any_there (λ t. list_any (is_variable x) (mentions_in c t.act)) r.lines i s is e)

  lines_real : (i : ℕ) (lines : List Line) → ((j : ℕ) (s : Line) → slice_get lines j ≡ Some s → (k : ℕ) → All (IsRealPreset rs) (act_presets u k c s.act)) → All (IsRealPreset rs) (line_presets u i c lines)
  lines_real i [] h = All-nil (IsRealPreset rs)
  lines_real i (s ∷ lines) h = All-append (IsRealPreset rs) (act_presets u i c s.act) (line_presets u (suc i) c lines) (h zero s refl i) (lines_real (suc i) lines (λ j t is k. h (suc j) t is k))

  unit_real : All (IsRealPreset rs) (line_presets u 0 c r.lines)
  unit_real = lines_real 0 r.lines (λ j s is k. act_real k s.act (placed.filled j s is) (told_there j s is))

-- ---- the units of the program ----

onward : (s v : ℕ) → s + suc v ≡ suc s + v
onward s v = omega arith

module _ (rs : List Routine) (placed : (u : ℕ) (r : Routine) → slice_get rs u ≡ Some r → IsPlaced r) where
  from_real : (s : ℕ) (rest : List Routine) → ((v : ℕ) (r : Routine) → slice_get rest v ≡ Some r → slice_get rs (s + v) ≡ Some r) → All (IsRealPreset rs) (presets_from s rest)
  from_real s [] h = All-nil (IsRealPreset rs)
  from_real s (r ∷ rest) h =
      let here = subst (λ n. slice_get rs n ≡ Some r) (omega arith) (h zero r refl) in
      All-append (IsRealPreset rs) (line_presets s 0 (context_of r) r.lines) (presets_from (suc s) rest) (unit_real rs s r here (placed s r here))
      (from_real (suc s) rest (λ v t is. subst (λ n. slice_get rs n ≡ Some t) (onward s v) (h (suc v) t is)))

  pub presets_real : All (IsRealPreset rs) (presets_of rs)
  presets_real = from_real 0 rs (λ v r is. subst (λ n. slice_get rs n ≡ Some r) (omega arith) is)
