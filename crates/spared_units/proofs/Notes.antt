-- The ties of a unit, and the places that its DATA fill, by its statements that are not executed.
use Rattle.std.proofs.Common.{◌≡◌, ℕ, suc, List, [], ◌∷◌, ◌++◌, map, Option, refl, ap, ◌∙◌}
use Rattle.std.specs.Prelude.{if◌then◌else◌}
use Rattle.std.specs.List.{flat_map}
use Rattle.std.proofs.lemmas.List.{map-append}
use Rattle.ground.specs.Content.{Content}
use Rattle.f66_tree.specs.Syntax.{Formula, Ref, Item, PresetPart, Act, Common, Line}
use Rattle.f66_tree.specs.Syntax as f66
use Rattle.f66_tree.specs.Units.{Note, Context, is_note, notes_of}
use Rattle.f66_program.specs.Association.{Tie, Filled, act_ties, act_filled, line_ties}
use Rattle.spared_units.proofs.SameSizes.{one_more}
use Rattle.f66_program.specs.Initial.{Preset, values_of, paired, part_presets, act_presets, line_presets}

abbrev pub note_ties : ℕ → Context → Filled → List Note → List Tie
note_ties u c f [] = []
note_ties u c f (n ∷ notes) = act_ties u c f n.act ++ note_ties u c (act_filled c f n.act) notes

one_tied : (u : ℕ) (c : Context) (f : Filled) (l : Option ℕ) (a : Act) (notes : List Note) →
    act_ties u c f a ++ note_ties u c (act_filled c f a) notes ≡ note_ties u c f (if is_note a then (record { label = l; act = a } ∷ notes) else notes)
one_tied u c f l (Common areas) notes = refl
one_tied u c f l _ notes = refl

pub lines_tied : (u : ℕ) (c : Context) (f : Filled) (lines : List Line) → line_ties u c f lines ≡ note_ties u c f (notes_of lines)
lines_tied u c f [] = refl
lines_tied u c f (s ∷ lines) = ap (λ ts. act_ties u c f s.act ++ ts) (lines_tied u c (act_filled c f s.act) lines) ∙ one_tied u c f s.label s.act (notes_of lines)

-- ---- DATA ----

-- a place that is filled, whichever statement of its unit fills it
abbrev pub unparted : Preset → Preset
unparted q = record { unit = q.unit; part = 0; name = q.name; at = q.at; value = q.value }

abbrev pub note_presets : ℕ → Context → List Note → List Preset
note_presets u c notes = flat_map (λ n. act_presets u 0 c n.act) notes

paired_unparted : (u i : ℕ) (c : Context) (es : List Formula) (vs : List Content) → map unparted (paired u i c es vs) ≡ paired u 0 c es vs
paired_unparted u i c [] vs = refl
paired_unparted u i c (e ∷ es) [] = by_form e
  where
    by_form : (e : Formula) → map unparted (paired u i c (e ∷ es) []) ≡ paired u 0 c (e ∷ es) []
    by_form (Ref x) = refl
    by_form (Item x ns) = refl
    by_form _ = refl
paired_unparted u i c (Ref x ∷ es) (v ∷ vs) = one_more _ _ _ (paired_unparted u i c es vs)
paired_unparted u i c (Item x ns ∷ es) (v ∷ vs) = one_more _ _ _ (paired_unparted u i c es vs)
paired_unparted u i c (_ ∷ es) (v ∷ vs) = refl

parts_unparted : (u i : ℕ) (c : Context) (parts : List PresetPart) → map unparted (flat_map (part_presets u i c) parts) ≡ flat_map (part_presets u 0 c) parts
parts_unparted u i c [] = refl
parts_unparted u i c (p ∷ parts) =
    map-append unparted (part_presets u i c p) (flat_map (part_presets u i c) parts)
    ∙ ap (λ qs. qs ++ map unparted (flat_map (part_presets u i c) parts)) (paired_unparted u i c p.places (values_of p.values))
    ∙ ap (λ qs. part_presets u 0 c p ++ qs) (parts_unparted u i c parts)

one_unparted : (u i : ℕ) (c : Context) (l : Option ℕ) (a : Act) (notes : List Note) →
    map unparted (act_presets u i c a) ++ note_presets u c notes ≡ note_presets u c (if is_note a then (record { label = l; act = a } ∷ notes) else notes)
one_unparted u i c l (f66.Preset parts) notes = ap (λ qs. qs ++ note_presets u c notes) (parts_unparted u i c parts)
one_unparted u i c l _ notes = refl

pub lines_preset : (u i : ℕ) (c : Context) (lines : List Line) → map unparted (line_presets u i c lines) ≡ note_presets u c (notes_of lines)
lines_preset u i c [] = refl
lines_preset u i c (s ∷ lines) =
    map-append unparted (act_presets u i c s.act) (line_presets u (suc i) c lines)
    ∙ ap (λ qs. map unparted (act_presets u i c s.act) ++ qs) (lines_preset u (suc i) c lines) ∙ one_unparted u i c s.label s.act (notes_of lines)
