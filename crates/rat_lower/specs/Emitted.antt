-- What is added to the statements of a unit.
use Rattle.std.specs.Prelude.{◌≡◌, ℕ, ◌+◌, Bool, List, [], ◌∷◌, ◌++◌, map, Option, Some, None, if◌then◌else◌}
use Rattle.std.specs.List.{flat_map}
use Rattle.name_alloc.specs.Numbers.{made_number}
use Rattle.name_alloc.specs.MadeNames.{next_name, unused, keeping_all}
use Rattle.f66_names.specs.Declaring.{declared_in}
use Rattle.f66_names.specs.Uses.{Usage, uses_of_all, uses_of_target, uses_in}
use Rattle.unit_rules.specs.Listed.{uses_of_listed}
use Rattle.rat_check.specs.Parts.{unit_parts}
use Rattle.rat_check.specs.Said.{said_in}
use Rattle.f66_tree.specs.Syntax.{Text, Formula, Area, PresetPart, Header, MainUnit, SubUnit, FuncUnit, DataUnit, Act, When, Invoke, Common, Equivalence, Preset, Line}
use Rattle.rat_tree.specs.Syntax.{Command, Commands, Clauses, RatRoutine}
use Rattle.rat_lower.specs.Code.{Rings, labels, all_labels, clause_labels, code_of, all_code, tests, bodies}

-- the labels of the source, how many labels were made, the name that holds the values of switches, and the unit's own name
pub record Making : Type 0 where
  pub taken : List ℕ
  pub made : ℕ
  pub spare : Text
  pub own : Text

-- the labels that are made, where these are taken
abbrev pub labels_past : List ℕ → ℕ → ℕ
labels_past taken i = made_number 23000 taken i

abbrev pub names_used : List Usage → List Text
names_used us = map (λ u. u.name) us

-- the names that a CALL calls and hands over, and those that COMMON, EQUIVALENCE and DATA list
abbrev pub further_names : Act → List Text
further_names (Invoke x es) = x ∷ names_used (uses_of_all es)
further_names (When e a) = further_names a
further_names (Common areas) = flat_map (λ (a : Area). flat_map (λ d. names_used (uses_of_listed d)) a.list) areas
further_names (Equivalence groups) = flat_map (λ (g : List Formula). flat_map (λ e. names_used (uses_of_target e)) g) groups
further_names (Preset parts) = flat_map (λ (p : PresetPart). flat_map (λ e. names_used (uses_of_target e)) p.places) parts
further_names _ = []

-- the names that a statement declares, uses, calls or lists
abbrev pub named_in : Act → List Text
named_in a = map (λ d. d.name) (declared_in a) ++ (names_used (uses_in a) ++ further_names a)

-- the names of the source, once more for each place where one stands
abbrev pub names_of : Header → Commands → List Text
names_of h ss = flat_map named_in (said_in h (unit_parts ss))

-- the names in a header: the unit's own, and its dummies
abbrev pub header_names : Header → List Text
header_names MainUnit = []
header_names (SubUnit x ds) = x ∷ ds
header_names (FuncUnit t x ds) = x ∷ ds
header_names DataUnit = []

-- the names of a whole unit
abbrev pub unit_names : RatRoutine → List Text
unit_names u = header_names u.header ++ names_of u.header u.body

-- the spare name of a unit: Z with the first number from 1 on that none of its names has there
abbrev pub spare_name : RatRoutine → Text
spare_name u = next_name (keeping_all (unit_names u) unused)

-- new is old with some statements more: f puts these before others
pub record Adds (old new : List Line) (f : List Line → List Line) : Type 0 where
  pub by : (rest : List Line) → new ++ rest ≡ old ++ f rest

-- the statements of a command were added, and its labels made
pub record Emitted (s : Command) (ls : Rings) (before after : Making) (old new : List Line) : Type 0 where
  pub taken : after.taken ≡ before.taken
  pub spare : after.spare ≡ before.spare
  pub own : after.own ≡ before.own
  pub made : after.made ≡ before.made + labels s
  pub added : Adds old new (code_of (labels_past before.taken) before.spare before.own s before.made ls)

pub record AllEmitted (ss : Commands) (ls : Rings) (before after : Making) (old new : List Line) : Type 0 where
  pub taken : after.taken ≡ before.taken
  pub spare : after.spare ≡ before.spare
  pub own : after.own ≡ before.own
  pub made : after.made ≡ before.made + all_labels ss
  pub added : Adds old new (all_code (labels_past before.taken) before.spare before.own ss before.made ls)

-- the case expressions of clauses were added to some statements, and their bodies to others
pub record ClausesEmitted (cs : Clauses) (out : ℕ) (ls : Rings) (before after : Making) (old new inner outer : List Line) : Type 0 where
  pub taken : after.taken ≡ before.taken
  pub spare : after.spare ≡ before.spare
  pub own : after.own ≡ before.own
  pub made : after.made ≡ before.made + clause_labels cs
  pub tested : Adds old new (tests (labels_past before.taken) before.spare before.own cs before.made)
  pub added : Adds inner outer (bodies (labels_past before.taken) before.spare before.own cs before.made out ls)

-- the label of the first default, among one more clause
abbrev pub first_default : Option ℕ → Bool → ℕ → Option ℕ
first_default (Some l) fallback m = Some l
first_default None fallback m = if fallback then Some m else None
