-- The initial values that the DATA of sound units gives are integers in range and truth values.
use Rattle.std.proofs.Common.{◌≡◌, ℕ, zero, suc, pos, negsuc, true, true≢false, nat_le, List, [], ◌∷◌, ◌++◌, Some, refl, sym, replicate}
use Rattle.std.specs.Prelude.{ℤ, neg_ℤ}
use Rattle.std.specs.List.{AllByRecursion, list_all, slice_get, flat_map}
use Rattle.std.proofs.lemmas.Bool.{and_parts}
use Rattle.std.proofs.lemmas.List.Elements.{All-from_recursion, recursion_from_All}
use Rattle.ground.specs.Content.{Content, Whole}
use Rattle.f66_tree.specs.Built.{is_constant}
use Rattle.f66_tree.specs.Syntax.{Text, Formula, Int, Letter, Ref, Item, Plus, Minus, PresetPart, Act, Line, Routine}
use Rattle.f66_tree.specs.Syntax as f66
use Rattle.f66_tree.specs.Units.{Context}
use Rattle.unit_rules.specs.Forms.{is_signed, is_datum, is_value, is_part, has_form}
use Rattle.f66_check.specs.Answers.{IsSoundUnit}
use Rattle.f66_program.specs.Mentions.{context_of}
use Rattle.f66_program.specs.Initial.{content_of, values_of, Preset, paired, part_presets, act_presets, line_presets, presets_from, presets_of}
use Rattle.linked_soundness.proofs.RuleLemmas.{sound_fit}
use Rattle.stack_code.specs.ValidCode.{is_small}
use Rattle.code_validity.specs.Valid.{InitialAreValues}
use Rattle.code_validity.proofs.Places.{small, small_letter}

abbrev IsSmall : Content → Type 0
IsSmall v = is_small v ≡ true

abbrev AllSmall : List Content → Type 0
AllSmall vs = AllByRecursion IsSmall vs

abbrev Hold : List Preset → Type 0
Hold qs = AllByRecursion (λ q. IsSmall q.value) qs

-- ---- one value ----

opposite_small : (z : ℤ) → is_constant z ≡ true → IsSmall (Whole (neg_ℤ z))
opposite_small (pos zero) h = refl
opposite_small (pos (suc n)) h = small (pos (suc n)) h
opposite_small (negsuc n) h = absurd (true≢false (sym h))

signed_small : (a : Formula) → is_signed a ≡ true → (IsSmall (content_of a)) × (IsSmall (content_of (Minus a)))
signed_small (Int z) h = (small z h, opposite_small z h)
signed_small _ h = absurd (true≢false (sym h))

datum_small : (a : Formula) → is_datum a ≡ true → IsSmall (content_of a)
datum_small (Int z) h = small z h
datum_small (Plus a) h = (signed_small a h).0
datum_small (Minus a) h = (signed_small a h).1
datum_small (f66.Truth b) h = refl
datum_small (Letter c) h = small_letter c h
datum_small _ h = absurd (true≢false (sym h))

-- ---- lists ----

small_append : (vs ws : List Content) → AllSmall vs → AllSmall ws → AllSmall (vs ++ ws)
small_append [] ws h g = g
small_append (v ∷ vs) ws h g = (h.0, small_append vs ws h.1 g)

hold_append : (ps qs : List Preset) → Hold ps → Hold qs → Hold (ps ++ qs)
hold_append [] qs h g = g
hold_append (p ∷ ps) qs h g = (h.0, hold_append ps qs h.1 g)

small_times : (n : ℕ) (v : Content) → IsSmall v → AllSmall (replicate n v)
small_times zero v h = tt
small_times (suc n) v h = (h, small_times n v h)

values_small : (vs : List (ℕ × Formula)) → list_all is_value vs ≡ true → AllSmall (values_of vs)
values_small [] h = tt
values_small (v ∷ vs) h =
    let p = and_parts (is_value v) _ h in
    let q = and_parts (nat_le v.0 2147483647) _ p.0 in
    small_append (replicate v.0 (content_of v.1)) (values_of vs) (small_times v.0 (content_of v.1) (datum_small v.1 q.1)) (values_small vs p.1)

paired_small : (u i : ℕ) (c : Context) (es : List Formula) (vs : List Content) → AllSmall vs → Hold (paired u i c es vs)
paired_small u i c [] vs h = tt
paired_small u i c (Ref x ∷ es) [] h = tt
paired_small u i c (Ref x ∷ es) (v ∷ vs) h = (h.0, paired_small u i c es vs h.1)
paired_small u i c (Item x ns ∷ es) [] h = tt
paired_small u i c (Item x ns ∷ es) (v ∷ vs) h = (h.0, paired_small u i c es vs h.1)
paired_small u i c (a ∷ es) vs h = tt

parts_small : (u i : ℕ) (c : Context) (parts : List PresetPart) → list_all is_part parts ≡ true → Hold (flat_map (part_presets u i c) parts)
parts_small u i c [] h = tt
parts_small u i c (p ∷ parts) h =
    let q = and_parts (is_part p) _ h in
    let values = (and_parts _ _ (and_parts _ _ q.0).1).1 in
    hold_append (part_presets u i c p) (flat_map (part_presets u i c) parts) (paired_small u i c p.places (values_of p.values) (values_small p.values values)) (parts_small u i c parts q.1)

act_small : (u i : ℕ) (c : Context) (a : Act) → has_form a ≡ true → Hold (act_presets u i c a)
act_small u i c (f66.Preset parts) h = parts_small u i c parts (and_parts _ _ h).1
act_small u i c _ h = tt

lines_small : (u i : ℕ) (c : Context) (lines : List Line) → ((k : ℕ) (s : Line) → slice_get lines k ≡ Some s → has_form s.act ≡ true) → Hold (line_presets u i c lines)
lines_small u i c [] h = tt
lines_small u i c (s ∷ lines) h = hold_append (act_presets u i c s.act) (line_presets u (suc i) c lines) (act_small u i c s.act (h zero s refl)) (lines_small u (suc i) c lines (λ k t e. h (suc k) t e))

units_small : (u : ℕ) (rs : List Routine) → AllByRecursion IsSoundUnit rs → Hold (presets_from u rs)
units_small u [] h = tt
units_small u (r ∷ rs) h =
    let fit = sound_fit r h.0 in
    hold_append (line_presets u 0 (context_of r) r.lines) (presets_from (suc u) rs) (lines_small u 0 (context_of r) r.lines (λ k s e. (fit.rules k s e).form)) (units_small (suc u) rs h.1)

pub initial_are_values : InitialAreValues
initial_are_values rs sound = All-from_recursion (λ q. IsSmall q.value) (presets_of rs) (units_small 0 rs (recursion_from_All IsSoundUnit rs sound))
