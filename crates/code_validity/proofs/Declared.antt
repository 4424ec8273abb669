-- What the forms of a sound unit's statements give: dimensions are constants of the profile or names; and a unit that is no BLOCK DATA
-- has a statement that is executed.
use Rattle.std.proofs.Common.{◌≡◌, cond, ℕ, zero, suc, ◌+◌, Bool, true, false, true≢false, not, ◌&&◌, is_none, List, [], ◌∷◌, Option, Some, None, option_map, refl, sym, ◌∙◌}
use Rattle.std.specs.List.{list_all, slice_get}
use Rattle.std.specs.Str.{bytes_eq}
use Rattle.std.proofs.lemmas.Bool.{and_parts, or_parts}
use Rattle.rule_table.specs.declared.rule.Rule.TheVariants.{Syntax}
use Rattle.rule_table.specs.Words.{first_place}
use Rattle.f66_tree.specs.Syntax.{Text, Par, Declared, Area, Act, Typed, Dimension, Common, Line, Routine}
use Rattle.f66_tree.specs.Units.{is_note, notes_of, if_any, sizes_in, sizes_in_areas, sizes_by, sizes_of}
use Rattle.f66_tree.specs.Execution.{runnable}
use Rattle.f66_tree.proofs.Tries.{if_both}
use Rattle.f66_flow.specs.Acts.{is_executable, needs_executable}
use Rattle.f66_flow.specs.FlowRules.{header_breaks_flow}
use Rattle.f66_flow.specs.declared.scope.Scope.TheVariants.{Whole}
use Rattle.f66_names.specs.Shapes.{is_parameter, is_declared, are_declared}
use Rattle.unit_rules.specs.Forms.{has_form, is_area}
use Rattle.f66_check.specs.Answers.{IsSoundUnit}

-- ---- dimensions ----

abbrev AllParameters : List Par → Type 0
AllParameters ns = list_all is_parameter ns ≡ true

any_parameters : (ns others : List Par) → AllParameters ns → AllParameters others → AllParameters (if_any ns others)
any_parameters [] others h g = g
any_parameters (p ∷ ns) others h g = h

all_declared : (ds : List Declared) → are_declared ds ≡ true → list_all is_declared ds ≡ true
all_declared [] h = refl
all_declared (d ∷ ds) h = h

in_parameters : (x : Text) (ds : List Declared) (others : List Par) → list_all is_declared ds ≡ true → AllParameters others → AllParameters (sizes_in x ds others)
in_parameters x [] others h g = g
in_parameters x (d ∷ ds) others h g =
    let p = and_parts (is_declared d) _ h in
    let behind = in_parameters x ds others p.1 g in
    if_both AllParameters (bytes_eq x d.name) (if_any d.sizes (sizes_in x ds others)) (sizes_in x ds others) (any_parameters d.sizes (sizes_in x ds others) (and_parts _ _ p.0).1 behind) behind

areas_parameters : (x : Text) (areas : List Area) (others : List Par) → list_all is_area areas ≡ true → AllParameters others → AllParameters (sizes_in_areas x areas others)
areas_parameters x [] others h g = g
areas_parameters x (a ∷ areas) others h g =
    let p = and_parts (is_area a) _ h in
    in_parameters x a.list (sizes_in_areas x areas others) (all_declared a.list (and_parts _ _ p.0).1) (areas_parameters x areas others p.1 g)

by_parameters : (x : Text) (a : Act) (others : List Par) → has_form a ≡ true → AllParameters others → AllParameters (sizes_by x a others)
by_parameters x (Typed t ds) others h g = in_parameters x ds others (all_declared ds h) g
by_parameters x (Dimension ds) others h g = in_parameters x ds others (all_declared ds h) g
by_parameters x (Common areas) others h g = areas_parameters x areas others (and_parts _ _ h).1 g
by_parameters x _ others h g = g

pub sizes_parameters : (x : Text) (lines : List Line) → ((i : ℕ) (s : Line) → slice_get lines i ≡ Some s → has_form s.act ≡ true) → AllParameters (sizes_of x (notes_of lines))
sizes_parameters x [] h = refl
sizes_parameters x (s ∷ rest) h =
    let behind = sizes_parameters x rest (λ i t e. h (suc i) t e) in
    if_both (λ notes. AllParameters (sizes_of x notes)) (is_note s.act) (record { label = s.label; act = s.act } ∷ notes_of rest) (notes_of rest) (by_parameters x s.act (sizes_of x (notes_of rest)) (h zero s refl) behind) behind

-- ---- the first statement that is executed ----

abbrev HasFirst : List Line → Type 0
HasFirst lines = (s : Line) × (rest : List Line) × (runnable lines ≡ s ∷ rest)

none_mapped : (o : Option ℕ) (f : ℕ → ℕ) → is_none (option_map f o) ≡ is_none o
none_mapped None f = refl
none_mapped (Some k) f = refl

has_first : (lines : List Line) → is_none (first_place (λ s. is_executable s.act) lines) ≡ false → HasFirst lines
has_first [] h = absurd (true≢false h)
has_first (s ∷ lines) h = by_note (is_note s.act) (has_first lines) h
  where
    by_note : (b : Bool) → (is_none (first_place (λ t. is_executable t.act) lines) ≡ false → HasFirst lines) → is_none (cond (not b) (Some 0) (option_map (λ n. n + 1) (first_place (λ t. is_executable t.act) lines))) ≡ false →
        (t : Line) × (rest : List Line) × (cond b (runnable lines) (s ∷ lines) ≡ t ∷ rest)
    by_note true more g = more (sym (none_mapped (first_place (λ t. is_executable t.act) lines) (λ n. n + 1)) ∙ g)
    by_note false more g = (s, lines, refl)

needed : (b c : Bool) → b ≡ true → (b && (true && c)) ≡ false → c ≡ false
needed true c h g = g
needed false c h g = absurd (true≢false (sym h))

pub sound_first : (r : Routine) → IsSoundUnit r → needs_executable r.header ≡ true → HasFirst r.lines
sound_first r sound h =
    has_first r.lines (needed (needs_executable r.header) (is_none (first_place (λ s. is_executable s.act) r.lines)) h (or_parts (header_breaks_flow Whole r.header r.lines Syntax) _ (sound.clean zero Syntax)).0)
