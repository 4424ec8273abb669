-- What COMMON, EQUIVALENCE and DATA list (X3.9-1966, sections 7.2.1.3, 7.2.1.4 and 7.2.2), and the names that statements use there
-- and as arguments of a CALL.
use Rattle.std.specs.Prelude.{Bool, ◌||◌, List, [], ◌∷◌, ◌++◌, Option, if◌then◌else◌}
use Rattle.std.specs.List.{list_any, flat_map}
use Rattle.std.specs.Option.{option_or}
use Rattle.rule_table.specs.Words.{find_map}
use Rattle.f66_tree.specs.Syntax.{Formula, Item, Declared, Act, Common, Equivalence, Preset}
use Rattle.f66_tree.specs.Units.{Context}
use Rattle.f66_names.specs.declared.name_form.Manner.TheVariants.{Alone}
use Rattle.f66_names.specs.Sorts.{is_array_name}
use Rattle.f66_names.specs.Uses.{Usage, usage, uses_of, uses_of_all, uses_of_target, uses_of_par}
use Rattle.unit_rules.specs.Called.{passed_in}
use Rattle.unit_rules.specs.Judged.{judged_uses}

-- the names in common blocks, with their dimensions
abbrev pub common_in : Act → List Declared
common_in (Common areas) = flat_map (λ a. a.list) areas
common_in _ = []

-- the members of the groups of EQUIVALENCE
abbrev pub equated_in : Act → List Formula
equated_in (Equivalence groups) = flat_map (λ g. g) groups
equated_in _ = []

-- the places that DATA gives values
abbrev pub preset_in : Act → List Formula
preset_in (Preset parts) = flat_map (λ p. p.places) parts
preset_in _ = []

-- a name in a common block is used there, and so are those in its dimensions
abbrev pub uses_of_listed : Declared → List Usage
uses_of_listed d = usage d.name Alone ∷ flat_map uses_of_par d.sizes

-- Of a name with parentheses the subscripts have classes and counts where it is an array; else it is at fault itself.
abbrev pub uses_of_place : Context → Formula → List Usage
uses_of_place c (Item x es) = if is_array_name c x then uses_of_all es else []
uses_of_place c e = uses_of e

-- the names whose lengths and types count, besides those of f66_names
abbrev pub more_names : Act → List Usage
more_names a = uses_of_all (passed_in a) ++ (flat_map uses_of_listed (common_in a) ++ (flat_map uses_of_target (equated_in a) ++ flat_map uses_of_target (preset_in a)))

-- those whose classes and counts do
abbrev pub more_uses : Context → Act → List Usage
more_uses c a = uses_of_all (passed_in a) ++ (flat_map uses_of_listed (common_in a) ++ (flat_map (uses_of_place c) (equated_in a) ++ flat_map (uses_of_place c) (preset_in a)))

-- a use with a class and a count passes a test
abbrev pub any_use : Context → (Usage → Bool) → Act → Bool
any_use c test a = list_any test (judged_uses c a) || list_any test (more_uses c a)

-- the first value that f gives of such a use
abbrev pub first_use : {V : Type 0} → Context → (Usage → Option V) → Act → Option V
first_use c f a = option_or (find_map f (judged_uses c a)) (find_map f (more_uses c a))
