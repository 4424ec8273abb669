-- The storage of an accepted program, the contents at first, and what it means.
use Rattle.std.specs.Prelude.{ℕ, ◌+◌, List, [], map, filter, flat_map, length, replicate, take, sum, Option, option_map, option_and_then, unwrap_or, is_none}
use Rattle.std.specs.List.{slice_get, enumerate_from}
use Rattle.std.specs.Str.{bytes_eq}
use Rattle.rule_table.specs.Words.{is_some_and, first_place}
use Rattle.ground.specs.Content.{Content, Whole, Truth}
use Rattle.f66_tree.specs.World.{Record, Shown, fresh}
use Rattle.efl_tree.specs.declared.declaration.EflConst.{EflConst}
use Rattle.efl_tree.specs.declared.declaration.EflConst.TheVariants as constants
use Rattle.efl_tree.specs.Syntax.{Text, EflPreset, EflProcedure, EflProgram}
use Rattle.efl_scope.specs.Scopes.{Variable, meaning, outer, own_variables}
use Rattle.efl_scope.specs.Parts.{Part, program_parts}
use Rattle.efl_scope.specs.ScopeRules.{has_area}
use Rattle.efl_scope.specs.Marks.{Located, program_variables, number_of, meant_by}
use Rattle.efl_types.specs.TypeRules.{names_of, presets_of, of_unit}
use Rattle.efl_types.specs.Presets.{first_name, offset}
use Rattle.efl_program.specs.Places.{places}
use Rattle.efl_program.specs.Setting.{Linkage}
use Rattle.efl_program.specs.Meaning.{efl}
use Rattle.efl_typed.specs.Typing.{sort_of, bodies_of}

-- ---- areas ----

-- the variables of an area in a procedure, in order
abbrev pub area_variables : Text → EflProcedure → List Variable
area_variables q u = filter (λ v. is_some_and (bytes_eq q) v.area) (own_variables u)

-- the first procedure that has the area, and its variable in the same place of the list
abbrev pub area_owner : EflProgram → List Located → Text → ℕ → Option ℕ
area_owner p xs q i =
    option_and_then (λ n. option_and_then (λ u. option_map (number_of xs n) (slice_get (area_variables q u) i)) (slice_get p.procedures n))
    (first_place (has_area q) p.procedures)

abbrev pub place_in_area : EflProgram → Located → Text → Option ℕ
place_in_area p x q = option_and_then (λ u. first_place (λ v. bytes_eq x.variable.name v.name) (area_variables q u)) (slice_get p.procedures x.unit)

abbrev pub owner_of : EflProgram → List Located → ℕ → ℕ
owner_of p xs v =
    unwrap_or (option_and_then (λ x. option_and_then (λ q. option_and_then (area_owner p xs q) (place_in_area p x q)) x.variable.area) (slice_get xs v)) v

-- ---- storage units ----

abbrev pub size_of : Located → ℕ
size_of x = places (sort_of x.variable.kind)

abbrev pub extent_of : List Located → ℕ → ℕ
extent_of xs v = unwrap_or (option_map size_of (slice_get xs v)) 0

-- the units of the variables stand one behind the other, and behind them those of the procedures' values
abbrev pub unit_of : List Located → ℕ → ℕ
unit_of xs v = sum (map size_of (take v xs))

abbrev pub formals_in : List Located → ℕ → EflProcedure → List ℕ
formals_in xs n u = map (λ x. number_of xs n (meant_by [] x (meaning (outer u) x))) u.formals

-- ---- initial ----

abbrev pub content_of : EflConst → Content
content_of (constants.Int z) = Whole z
content_of (constants.Truth b) = Truth b

abbrev pub contents_of : EflPreset → List Content
contents_of s = flat_map (λ c. replicate c.0 (content_of c.1)) s.values

-- the values of a preset, each with its storage unit
abbrev pub preset_by : EflProgram → List Located → Part → EflProcedure → EflPreset → List (ℕ × Content)
preset_by p xs v u s = let x = meant_by (names_of p.procedures u v).implied (first_name s.place) (meaning v.around.blocks (first_name s.place)) in
    map (λ c. (unit_of xs (owner_of p xs (number_of xs v.around.unit x)) + c.0, c.1)) (enumerate_from (unwrap_or (offset x.kind s.place) 0) (contents_of s))

abbrev pub presets_by : EflProgram → List Located → Part → List (ℕ × Content)
presets_by p xs v = of_unit [] (λ u. flat_map (preset_by p xs v u) (presets_of v.form)) p.procedures v

-- ---- the program ----

abbrev pub linkage_of : EflProgram → Linkage
linkage_of p = let xs = program_variables p in record {
  formals = λ n. unwrap_or (option_map (formals_in xs n) (slice_get p.procedures n)) [];
  owner = owner_of p xs;
  extent = extent_of xs;
  number = λ v k. unit_of xs v + k;
  result = λ n. unit_of xs (length xs) + n;
  main = unwrap_or (first_place (λ u. is_none u.name) p.procedures) 0;
  deep = length p.procedures;
  first = fresh (flat_map (presets_by p xs) (program_parts p));
}

-- what an accepted program means over these records of input, where each loop makes at most b turns in one entry
abbrev pub efl_meaning : EflProgram → ℕ → List Record → Shown
efl_meaning p b input = efl (linkage_of p) (bodies_of p) b input
