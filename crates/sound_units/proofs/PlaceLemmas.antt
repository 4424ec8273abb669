-- Names that stand as variables and are no dummies have places.
use Rattle.std.proofs.Common.{◌≡◌, ◌<◌, ◌++◌, ℕ, Bool, true, false, true≢false, List, length, map, get_or, sym, ◌∙◌, refl}
use Rattle.std.specs.Prelude.{not, ◌&&◌, ◌||◌}
use Rattle.std.specs.List.{list_any, flat_map}
use Rattle.std.specs.Str.{bytes_eq}
use Rattle.std.proofs.lemmas.Bool.{or_left, or_right, and_from, not_from_false}
use Rattle.std.proofs.lemmas.List.Folds.{list_any_at, list_any-append}
use Rattle.std.proofs.lemmas.Slice.Eq.{bytes_eq-Decides}
use Rattle.rule_table.proofs.WordLemmas.{list_any_map}
use Rattle.f66_tree.specs.Syntax.{Text, Formulas, Declared, Area, Line, Routine}
use Rattle.f66_tree.specs.Evaluation.{Sort, AnArray, AnIntrinsic, AFunction}
use Rattle.f66_names.specs.Sorts.{form_by, is_array_form}
use Rattle.f66_program.specs.Mentions.{AVariable, context_of, applied, mentions_of_sizes, mentions_in, is_variable, is_dummy, is_own_value, has_places}
use Rattle.sound_units.proofs.ListLemmas.{any_in}

pub itself : (x : Text) → bytes_eq x x ≡ true
itself x = (bytes_eq-Decides x x).1 refl

has_by : (dummy own there declared : Bool) → dummy ≡ false → there ≡ true → (not dummy && (own || (there || declared))) ≡ true
has_by dummy own there declared free e = and_from (not dummy) (own || (there || declared)) (not_from_false dummy free) (or_right own (there || declared) (or_left there declared e))

-- a statement names it as a variable
pub has_its : (r : Routine) (x : Text) (i : ℕ) (s : Line) → i < length r.lines → is_dummy x r.header ≡ false → list_any (is_variable x) (mentions_in (context_of r) (get_or r.lines i s).act) ≡ true →
    has_places r x ≡ true
has_its r x i s lt free e =
    has_by (is_dummy x r.header) (is_own_value x r.header) _ _ free (list_any_at (λ t. list_any (is_variable x) (mentions_in (context_of r) t.act)) r.lines i s lt e)

-- COMMON names what it lists

in_list : (ds : List Declared) (i : ℕ) (d : Declared) → i < length ds → list_any (is_variable (get_or ds i d).name) (map (λ e. AVariable e.name) ds ++ mentions_of_sizes ds) ≡ true
in_list ds i d lt =
    list_any-append (is_variable (get_or ds i d).name) (map (λ e. AVariable e.name) ds) (mentions_of_sizes ds)
    ∙ or_left (list_any (is_variable (get_or ds i d).name) (map (λ e. AVariable e.name) ds)) _
    (list_any_map (is_variable (get_or ds i d).name) (λ e. AVariable e.name) ds ∙ list_any_at (λ e. bytes_eq (get_or ds i d).name e.name) ds i d lt (itself (get_or ds i d).name))

pub in_areas : (areas : List Area) (k : ℕ) (a : Area) → k < length areas → (i : ℕ) (d : Declared) → i < length (get_or areas k a).list →
    list_any (is_variable (get_or (get_or areas k a).list i d).name) (flat_map (λ b. map (λ e. AVariable e.name) b.list ++ mentions_of_sizes b.list) areas) ≡ true
in_areas areas k a lt i d lt' =
    any_in (is_variable (get_or (get_or areas k a).list i d).name) (λ b. map (λ e. AVariable e.name) b.list ++ mentions_of_sizes b.list) areas k a lt (in_list (get_or areas k a).list i d lt')

-- an array's element names the array
pub names_array : (x : Text) (es : Formulas) (s : Sort) → is_array_form (form_by s) ≡ true → is_variable x (applied x es s) ≡ true
names_array x es (AnArray ns) e = itself x
names_array x es (AnIntrinsic g) e = absurd (true≢false (sym e))
names_array x es AFunction e = absurd (true≢false (sym e))
