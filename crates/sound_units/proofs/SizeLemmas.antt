-- The names of a unit with no large array have few places.
use Rattle.std.proofs.Common.{◌≡◌, ◌≤◌, Bool, true, false, Option, Some, None, List, [], ◌∷◌, get_or, unwrap_or, sym, subst, arith}
use Rattle.std.specs.Prelude.{nat_lt, ◌||◌, if◌then◌else◌}
use Rattle.std.specs.Option.{IfSome}
use Rattle.std.specs.List.{All, list_any, flat_map}
use Rattle.std.proofs.lemmas.Bool.{or_parts, ltb-false}
use Rattle.rule_table.specs.Words.{find_map}
use Rattle.f66_tree.specs.Syntax.{Text, Par, Declared, Act, Typed, Dimension, Common}
use Rattle.f66_tree.specs.Units.{sizes_of, places_of}
use Rattle.f66_names.specs.Declaring.{names, noted}
use Rattle.f66_names.specs.StoreRules.{is_large, has_large_array}
use Rattle.unit_rules.specs.Bounds.{some_sizes, sizes_by, sizes_given}
use Rattle.unit_rules.specs.Listed.{common_in}
use Rattle.unit_rules.proofs.SizeLemmas.{sizes_of-given}
use Rattle.sound_units.proofs.ListLemmas.{none_at, first_keeps}

abbrev IsFew : List Par → Type 0
IsFew ns = places_of ns ≤ 32767

few_where : (b : Bool) (ns : List Par) → nat_lt 32767 (places_of ns) ≡ false → IfSome (if b then some_sizes ns else None) IsFew
few_where false ns e = tt
few_where true [] e = tt
few_where true (n ∷ ns) e = ltb-false 32767 (places_of (n ∷ ns)) e

few_listed : (q : Text) (ds : List Declared) → list_any is_large ds ≡ false → IfSome (find_map (sizes_by q) ds) IsFew
few_listed q ds e = first_keeps IsFew (sizes_by q) ds (λ i d lt. few_where (names q (get_or ds i d)) (get_or ds i d).sizes (none_at is_large ds i d e lt))

few_given : (q : Text) (a : Act) → (has_large_array a || list_any is_large (common_in a)) ≡ false → IfSome (sizes_given q a) IsFew
few_given q (Typed t ds) e = few_listed q ds (or_parts (list_any is_large ds) false e).0
few_given q (Dimension ds) e = few_listed q ds (or_parts (list_any is_large ds) false e).0
few_given q (Common areas) e = few_listed q (flat_map (λ a. a.list) areas) e
few_given q _ e = tt

few_either : (o : Option (List Par)) → IfSome o IsFew → IsFew (unwrap_or o [])
few_either None e = omega arith
few_either (Some ns) e = e

pub few_places : (q : Text) (acts : List Act) → All (λ a. (has_large_array a || list_any is_large (common_in a)) ≡ false) acts → places_of (sizes_of q (noted acts)) ≤ 32767
few_places q acts h =
    subst IsFew (sym (sizes_of-given q acts)) (few_either (find_map (sizes_given q) acts) (first_keeps IsFew (sizes_given q) acts (λ i a lt. few_given q (get_or acts i a) (h i a lt))))
