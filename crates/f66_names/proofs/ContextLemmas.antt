-- The types and dimensions of a context's names, by the statements that give them.
use Rattle.std.proofs.Common.{◌≡◌, ℕ, Bool, true, false, List, [], ◌∷◌, ◌||◌, Option, Some, None, unwrap_or, map, refl, ap, sym, ◌∙◌}
use Rattle.std.specs.Prelude.{if◌then◌else◌}
use Rattle.std.specs.List.{list_any, flat_map}
use Rattle.std.specs.Option.{option_or}
use Rattle.std.specs.Str.{bytes_eq}
use Rattle.rule_table.specs.Words.{find_map}
use Rattle.f66_tree.specs.declared.declaration.TypeWord.{TypeWord}
use Rattle.f66_tree.specs.Syntax.{Text, Par, Declared, Area, Act, Line, Typed, Dimension, Common}
use Rattle.f66_tree.specs.Units.{Note, is_note, notes_of, lists, typed_by, type_in, if_any, sizes_in, sizes_in_areas, sizes_by, sizes_of}
use Rattle.f66_tree.specs.Evaluation.{known, intrinsics, array_or}
use Rattle.f66_names.specs.declared.name_form.NameForm.{NameForm}
use Rattle.f66_names.specs.declared.name_form.NameForm.TheVariants as forms
use Rattle.f66_names.specs.Declaring.{noted, names, type_given, dimension_count, count_by, count_in}
use Rattle.f66_names.specs.Sorts.{form_by}
use Rattle.f66_names.proofs.TableLemmas.{find_map-append, option_or-assoc}

-- ---- types ----

lists-any : (q : Text) (ds : List Declared) → lists q ds ≡ list_any (names q) ds
lists-any q [] = refl
lists-any q (d ∷ ds) = ap (λ b. bytes_eq q d.name || b) (lists-any q ds)

typed_or : (b : Bool) (t unsaid : TypeWord) (later : Option TypeWord) → (if b then t else unwrap_or later unsaid) ≡ unwrap_or (option_or (if b then Some t else None) later) unsaid
typed_or true t unsaid later = refl
typed_or false t unsaid later = refl

pub type_in-given : (q : Text) (acts : List Act) (unsaid : TypeWord) → type_in q (noted acts) unsaid ≡ unwrap_or (find_map (type_given q) acts) unsaid
type_in-given q [] unsaid = refl
type_in-given q (Typed t ds ∷ rest) unsaid =
    ap (λ b. if b then t else type_in q (noted rest) unsaid) (lists-any q ds)
    ∙ ap (λ w. if list_any (names q) ds then t else w) (type_in-given q rest unsaid)
    ∙ typed_or (list_any (names q) ds) t unsaid (find_map (type_given q) rest)
type_in-given q (a ∷ rest) unsaid = type_in-given q rest unsaid

-- ---- dimensions ----

if_any-counted : (ns others : List Par) → dimension_count (if_any ns others) ≡ option_or (dimension_count ns) (dimension_count others)
if_any-counted [] others = refl
if_any-counted (n ∷ ns) others = refl

sized_or : (b : Bool) (ns later : List Par) (o : Option ℕ) → dimension_count later ≡ o → dimension_count (if b then if_any ns later else later) ≡ option_or (if b then dimension_count ns else None) o
sized_or true ns later o e = if_any-counted ns later ∙ ap (option_or (dimension_count ns)) e
sized_or false ns later o e = e

sizes_in-counted : (q : Text) (ds : List Declared) (others : List Par) → dimension_count (sizes_in q ds others) ≡ option_or (find_map (count_by q) ds) (dimension_count others)
sizes_in-counted q [] others = refl
sizes_in-counted q (d ∷ ds) others =
    sized_or (bytes_eq q d.name) d.sizes (sizes_in q ds others) (option_or (find_map (count_by q) ds) (dimension_count others)) (sizes_in-counted q ds others)
    ∙ sym (option_or-assoc (count_by q d) (find_map (count_by q) ds) (dimension_count others))

sizes_in_areas-counted : (q : Text) (areas : List Area) (others : List Par) →
    dimension_count (sizes_in_areas q areas others) ≡ option_or (find_map (count_by q) (flat_map (λ a. a.list) areas)) (dimension_count others)
sizes_in_areas-counted q [] others = refl
sizes_in_areas-counted q (a ∷ areas) others =
    sizes_in-counted q a.list (sizes_in_areas q areas others)
    ∙ ap (option_or (find_map (count_by q) a.list)) (sizes_in_areas-counted q areas others)
    ∙ sym (option_or-assoc (find_map (count_by q) a.list) (find_map (count_by q) (flat_map (λ b. b.list) areas)) (dimension_count others))
    ∙ ap (λ o. option_or o (dimension_count others)) (sym (find_map-append (count_by q) a.list (flat_map (λ b. b.list) areas)))

pub sizes_of-counted : (q : Text) (acts : List Act) → dimension_count (sizes_of q (noted acts)) ≡ find_map (count_in q) acts
sizes_of-counted q [] = refl
sizes_of-counted q (Typed t ds ∷ rest) = sizes_in-counted q ds (sizes_of q (noted rest)) ∙ ap (option_or (find_map (count_by q) ds)) (sizes_of-counted q rest)
sizes_of-counted q (Dimension ds ∷ rest) = sizes_in-counted q ds (sizes_of q (noted rest)) ∙ ap (option_or (find_map (count_by q) ds)) (sizes_of-counted q rest)
sizes_of-counted q (Common areas ∷ rest) =
    sizes_in_areas-counted q areas (sizes_of q (noted rest)) ∙ ap (option_or (count_in q (Common areas))) (sizes_of-counted q rest)
sizes_of-counted q (a ∷ rest) = sizes_of-counted q rest

-- ---- forms ----

abbrev form_counted : Option ℕ → Text → NameForm
form_counted (Some n) x = forms.Array n
form_counted None x = form_by (known intrinsics x)

form_by-counted : (ns : List Par) (x : Text) → form_by (array_or ns x) ≡ form_counted (dimension_count ns) x
form_by-counted [] x = refl
form_by-counted (n ∷ ns) x = refl

pub form_of-counted : (x : Text) (acts : List Act) (o : Option ℕ) → o ≡ find_map (count_in x) acts → form_by (array_or (sizes_of x (noted acts)) x) ≡ form_counted o x
form_of-counted x acts o e = form_by-counted (sizes_of x (noted acts)) x ∙ ap (λ n. form_counted n x) (sizes_of-counted x acts ∙ sym e)

-- ---- statements with labels ----

note_or : (b : Bool) (l : Option ℕ) (x : Text) (a : Act) (ns ms : List Note) (later : TypeWord) → type_in x ns later ≡ type_in x ms later →
    type_in x (if b then record { label = l; act = a } ∷ ns else ns) later ≡ type_in x (if b then record { label = None; act = a } ∷ ms else ms) later
note_or true l x a ns ms later e = ap (typed_by x a) e
note_or false l x a ns ms later e = e

-- labels tell nothing of types
pub type_in-unlabelled : (x : Text) (code : List Line) (later : TypeWord) → type_in x (notes_of code) later ≡ type_in x (noted (map (λ s. s.act) code)) later
type_in-unlabelled x [] later = refl
type_in-unlabelled x (s ∷ rest) later = note_or (is_note s.act) s.label x s.act (notes_of rest) (noted (map (λ t. t.act) rest)) later (type_in-unlabelled x rest later)

size_or : (b : Bool) (l : Option ℕ) (x : Text) (a : Act) (ns ms : List Note) → sizes_of x ns ≡ sizes_of x ms →
    sizes_of x (if b then record { label = l; act = a } ∷ ns else ns) ≡ sizes_of x (if b then record { label = None; act = a } ∷ ms else ms)
size_or true l x a ns ms e = ap (sizes_by x a) e
size_or false l x a ns ms e = e

-- nor of dimensions
pub sizes_of-unlabelled : (x : Text) (code : List Line) → sizes_of x (notes_of code) ≡ sizes_of x (noted (map (λ s. s.act) code))
sizes_of-unlabelled x [] = refl
sizes_of-unlabelled x (s ∷ rest) = size_or (is_note s.act) s.label x s.act (notes_of rest) (noted (map (λ t. t.act) rest)) (sizes_of-unlabelled x rest)
