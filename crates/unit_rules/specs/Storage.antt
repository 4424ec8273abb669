-- The rules of COMMON, EQUIVALENCE and DATA (X3.9-1966, sections 5.1.3, 7.2.1.3, 7.2.1.4, 7.2.2 and 8.5).
use Rattle.std.specs.Prelude.{ℕ, pos, Bool, true, false, not, ◌&&◌, ◌||◌, ◌==◌, int_le, List, [], ◌∷◌, map, take, drop, length, sum_by, Option, Some, None, is_some, if◌then◌else◌}
use Rattle.std.specs.List.{list_any}
use Rattle.rule_table.specs.Words.{first_place, find_map, is_below, is_some_and, repeats}
use Rattle.f66_tree.specs.Syntax.{Text, Formula, Int, Ref, Item, Formulas, NoFormula, AndFormula, Par, Constant, Declared, Area, PresetPart, Header, DataUnit, Act, Common, Preset}
use Rattle.f66_tree.specs.Units.{Context, sizes_of}
use Rattle.f66_names.specs.Declaring.{names, is_sized, listed_in}
use Rattle.f66_names.specs.Sorts.{name_form, is_array_name, takes}
use Rattle.f66_names.specs.Kinds.{is_number, are_subscripts, takes_kind}
use Rattle.f66_names.specs.NameRules.{has_many_sizes}
use Rattle.f66_names.specs.StoreRules.{has_bad_size}
use Rattle.f66_names.specs.Uses.{many}
use Rattle.unit_rules.specs.Listed.{common_in, equated_in, preset_in}
use Rattle.unit_rules.specs.Roles.{role_held}
use Rattle.unit_rules.specs.Types.{kind_seen}

-- ---- names ----

-- a common block's name, where it has one, passes a test
abbrev pub any_block : (Text → Bool) → Act → Bool
any_block test (Common areas) = list_any (λ a. is_some_and test a.name) areas
any_block test _ = false

-- ---- types and shapes ----

-- an array's element with a subscript of none of the seven forms
abbrev pub has_odd_subscript : Context → Formula → Bool
has_odd_subscript c (Item x es) = is_array_name c x && not (are_subscripts c es)
has_odd_subscript c _ = false

-- a name with parentheses that is no array
abbrev pub is_no_element : Context → Formula → Bool
is_no_element c (Item x es) = not (is_array_name c x)
is_no_element c _ = false

abbrev pub lists_odd : Context → Act → Bool
lists_odd c a = list_any (λ e. is_no_element c e || has_odd_subscript c e) (equated_in a) || list_any (has_odd_subscript c) (preset_in a)

-- ---- counts ----

-- an element has another number of subscripts than its array has dimensions
abbrev pub miscounts_element : Context → Formula → Bool
miscounts_element c (Item x es) = is_array_name c x && not (takes (name_form c x) (many es))
miscounts_element c _ = false

-- in EQUIVALENCE it may have one alone
abbrev pub has_one_subscript : Formula → Bool
has_one_subscript (Item x es) = many es == 1
has_one_subscript _ = false

-- a part of DATA has another number of values than of places
abbrev pub miscounts_values : PresetPart → Bool
miscounts_values p = not (length p.places == sum_by (λ v. v.0) p.values)

abbrev pub any_part : (PresetPart → Bool) → Act → Bool
any_part test (Preset parts) = list_any test parts
any_part test _ = false

abbrev pub lists_miscounted : Context → Act → Bool
lists_miscounted c a =
    list_any has_many_sizes (common_in a)
    || (list_any (λ e. miscounts_element c e && not (has_one_subscript e)) (equated_in a) || (list_any (miscounts_element c) (preset_in a) || any_part miscounts_values a))

-- ---- names that are listed twice, or stand in the header ----

abbrev pub commons : Text → Act → Bool
commons q a = list_any (names q) (common_in a)

-- names are in a common block by an earlier statement too, or twice by this one
abbrev pub recommons : List Act → ℕ → List Declared → Bool
recommons acts i ds = list_any (λ d. is_below i (first_place (commons d.name) acts)) ds || repeats (map (λ d. d.name) ds)

-- a statement, be it COMMON, gives a name dimensions
abbrev pub gives_sizes : Text → Act → Bool
gives_sizes q a = list_any (λ d. is_sized d && names q d) (listed_in a)

-- an earlier statement gives the name dimensions too
abbrev pub was_given_sizes : List Act → ℕ → Declared → Bool
was_given_sizes acts i d = is_sized d && is_below i (first_place (gives_sizes d.name) acts)

-- a dummy, or the unit's own name
abbrev pub is_held : Header → Text → Bool
is_held h q = is_some (role_held h q)

abbrev pub holds_place : Header → Formula → Bool
holds_place h (Ref x) = is_held h x
holds_place h (Item x es) = is_held h x
holds_place h _ = false

abbrev pub lists_again : Context → List Act → ℕ → Act → Bool
lists_again c acts i a =
    recommons acts i (common_in a)
    || (list_any (was_given_sizes acts i) (listed_in a) || (list_any (λ d. is_held c.header d.name) (common_in a) || list_any (holds_place c.header) (equated_in a)))

-- ---- constants ----

abbrev pub are_numbers : Formulas → Bool
are_numbers NoFormula = true
are_numbers (AndFormula e es) = is_number e && are_numbers es

-- a subscript that is no constant
abbrev pub has_variable_subscript : Formula → Bool
has_variable_subscript (Item x es) = not (are_numbers es)
has_variable_subscript _ = false

-- Each value goes to as many places as its count says. One of them takes no value of its type.
abbrev pub has_misfit : Context → List Formula → List (ℕ × Formula) → Bool
has_misfit c ps [] = false
has_misfit c ps (v ∷ vs) = list_any (λ p. not (takes_kind c p (kind_seen c v.1))) (take v.0 ps) || has_misfit c (drop v.0 ps) vs

-- a count of zero, or such a value
abbrev pub has_bad_value : Context → PresetPart → Bool
has_bad_value c p = list_any (λ v. v.0 == 0) p.values || has_misfit c p.places p.values

abbrev pub lists_bad_constant : Context → Act → Bool
lists_bad_constant c a = list_any (has_bad_size c) (common_in a) || (list_any has_variable_subscript (equated_in a) || any_part (has_bad_value c) a)

-- ---- what DATA may give a value ----

-- the first common block that lists a name has a name itself
abbrev pub block_by : Text → Area → Option Bool
block_by q a = if list_any (names q) a.list then Some (is_some a.name) else None

abbrev pub block_in : Text → Act → Option Bool
block_in q (Common areas) = find_map (block_by q) areas
block_in q _ = None

abbrev pub is_data_unit : Header → Bool
is_data_unit DataUnit = true
is_data_unit _ = false

-- in blank common nothing gets a value, and in a block with a name in BLOCK DATA alone
abbrev pub is_open_block : Header → Option Bool → Bool
is_open_block h None = true
is_open_block h (Some labelled) = labelled && is_data_unit h

abbrev pub may_hold : Context → List Act → Text → Bool
may_hold c acts x = not (is_held c.header x) && is_open_block c.header (find_map (block_in x) acts)

-- constants, each from 1 to its dimension
abbrev pub is_within : Par → Formula → Bool
is_within (Constant n) (Int z) = int_le (pos 1) z && int_le z n
is_within _ _ = false

abbrev pub are_within : List Par → Formulas → Bool
are_within [] NoFormula = true
are_within (n ∷ ns) (AndFormula e es) = is_within n e && are_within ns es
are_within _ _ = false

-- a variable, or an element with constant subscripts within their bounds, that is no dummy and in no common block but as above
abbrev pub takes_value : Context → List Act → Formula → Bool
takes_value c acts (Ref x) = not (is_array_name c x) && may_hold c acts x
takes_value c acts (Item x es) = is_array_name c x && (are_within (sizes_of x c.notes) es && may_hold c acts x)
takes_value c acts _ = false

abbrev pub presets_wrong : Context → List Act → Act → Bool
presets_wrong c acts a = list_any (λ p. not (takes_value c acts p)) (preset_in a)
