-- The dimensions of a context's names, by the statements that give them.
use Rattle.std.proofs.Common.{◌≡◌, Bool, true, false, List, [], ◌∷◌, Option, Some, None, unwrap_or, refl, ap, sym, ◌∙◌}
use Rattle.std.specs.Prelude.{if◌then◌else◌}
use Rattle.std.specs.List.{flat_map}
use Rattle.std.specs.Option.{option_or}
use Rattle.rule_table.specs.Words.{find_map}
use Rattle.f66_tree.specs.Syntax.{Text, Par, Declared, Area, Act, Typed, Dimension, Common}
use Rattle.f66_tree.specs.Units.{if_any, sizes_in, sizes_in_areas, sizes_of}
use Rattle.f66_names.specs.Declaring.{noted}
use Rattle.f66_names.proofs.TableLemmas.{find_map-append}
use Rattle.unit_rules.specs.Bounds.{some_sizes, sizes_by, sizes_given}

or_unwrapped : {X : Type 0} (a b : Option X) (x : X) → unwrap_or a (unwrap_or b x) ≡ unwrap_or (option_or a b) x
or_unwrapped None b x = refl
or_unwrapped (Some y) b x = refl

sized_or : (b : Bool) (ns later others : List Par) (o : Option (List Par)) → later ≡ unwrap_or o others →
    (if b then if_any ns later else later) ≡ unwrap_or (option_or (if b then some_sizes ns else None) o) others
sized_or true [] later others o e = e
sized_or true (n ∷ ns) later others o e = refl
sized_or false ns later others o e = e

sizes_in-given : (q : Text) (ds : List Declared) (others : List Par) → sizes_in q ds others ≡ unwrap_or (find_map (sizes_by q) ds) others
sizes_in-given q [] others = refl
sizes_in-given q (d ∷ ds) others = sized_or _ d.sizes (sizes_in q ds others) others (find_map (sizes_by q) ds) (sizes_in-given q ds others)

sizes_in_areas-given : (q : Text) (areas : List Area) (others : List Par) →
    sizes_in_areas q areas others ≡ unwrap_or (find_map (sizes_by q) (flat_map (λ a. a.list) areas)) others
sizes_in_areas-given q [] others = refl
sizes_in_areas-given q (a ∷ areas) others =
    sizes_in-given q a.list (sizes_in_areas q areas others)
    ∙ ap (unwrap_or (find_map (sizes_by q) a.list)) (sizes_in_areas-given q areas others)
    ∙ or_unwrapped (find_map (sizes_by q) a.list) (find_map (sizes_by q) (flat_map (λ b. b.list) areas)) others
    ∙ ap (λ o. unwrap_or o others) (sym (find_map-append (sizes_by q) a.list (flat_map (λ b. b.list) areas)))

-- the first dimensions that statements give a name are its dimensions
pub sizes_of-given : (q : Text) (acts : List Act) → sizes_of q (noted acts) ≡ unwrap_or (find_map (sizes_given q) acts) []
sizes_of-given q [] = refl
sizes_of-given q (Typed t ds ∷ rest) =
    sizes_in-given q ds (sizes_of q (noted rest)) ∙ ap (unwrap_or (find_map (sizes_by q) ds)) (sizes_of-given q rest)
    ∙ or_unwrapped (find_map (sizes_by q) ds) (find_map (sizes_given q) rest) []
sizes_of-given q (Dimension ds ∷ rest) =
    sizes_in-given q ds (sizes_of q (noted rest)) ∙ ap (unwrap_or (find_map (sizes_by q) ds)) (sizes_of-given q rest)
    ∙ or_unwrapped (find_map (sizes_by q) ds) (find_map (sizes_given q) rest) []
sizes_of-given q (Common areas ∷ rest) =
    sizes_in_areas-given q areas (sizes_of q (noted rest)) ∙ ap (unwrap_or (sizes_given q (Common areas))) (sizes_of-given q rest)
    ∙ or_unwrapped (sizes_given q (Common areas)) (find_map (sizes_given q) rest) []
sizes_of-given q (a ∷ rest) = sizes_of-given q rest
