-- What is read off a part is no deeper than the part.
use Rattle.std.proofs.Common.{◌≡◌, ◌≤◌, suc, arith, List, [], ◌∷◌, refl}
use Rattle.std.specs.Prelude.{max}
use Rattle.f66_tree.specs.Syntax.{Formula, Entry}
use Rattle.f66_tree.specs.Views.{chained, listed}
use Rattle.rat_tree.specs.Syntax.{RatRoutine}
use Rattle.rat_parse_values.specs.Kinds as part
use Rattle.rat_parse_values.specs.Values.{Val}
use Rattle.rat_parse_values.specs.Values as val
use Rattle.rat_parse_values.specs.Parts.{as_exprs, as_joins, as_pars, as_declareds, as_areas, as_groups, as_presets, as_entries, as_fields, as_statements, as_clauses, as_units, with_declared, with_area, with_preset, with_entry, with_routine, as_formula, as_act, as_command, formula_part, act_part}
use Rattle.rat_room.proofs.Weights.{if_any}
use Rattle.deck_laws.specs.Nesting.{deepest, nesting, nesting_all, arguments_nesting, sizes_nesting, declared_nesting, entry_nesting, entries_nesting, fields_nesting, area_nesting, group_nesting, preset_nesting, act_nesting}
use Rattle.rat_shapes.proofs.Depths.{depth_of, depth_in, depth_among, depth_of_unit, subscripts_depth, depth, around_subscripts, around_fields}

-- ---- lists ----

pub chained_deep : (fs : List Formula) → nesting_all (chained fs) ≡ deepest nesting fs
chained_deep [] = refl
chained_deep (f ∷ fs) = omega (arith, chained_deep fs)

pub arguments_deep : (fs : List Formula) → arguments_nesting (chained fs) ≤ suc (deepest nesting fs)
arguments_deep [] = omega arith
arguments_deep (f ∷ fs) = omega (arith, chained_deep (f ∷ fs))

pub listed_deep : (es : List Entry) → entries_nesting (listed es) ≡ deepest entry_nesting es
listed_deep [] = refl
listed_deep (e ∷ es) = omega (arith, listed_deep es)

-- ---- single parts ----

pub formula_deep : (v : Val) → nesting (as_formula v) ≤ depth v
formula_deep (val.expression (part.formula f)) = omega arith
formula_deep (val.expression (part.located p f)) = omega arith
formula_deep _ = omega arith

pub act_deep : (v : Val) → act_nesting (as_act v) ≤ depth v
act_deep (val.statement (part.deed p a)) = omega arith
act_deep _ = omega arith

pub command_deep : (v : Val) → depth_of (as_command v) ≤ depth v
command_deep (val.statement (part.command p c)) = omega arith
command_deep _ = omega arith

pub formula_if_any_deep : (v : Val) → if_any nesting (formula_part v) ≤ depth v
formula_if_any_deep (val.expression (part.formula f)) = omega arith
formula_if_any_deep _ = omega arith

pub act_if_any_deep : (v : Val) → if_any act_nesting (act_part v) ≤ depth v
act_if_any_deep (val.statement (part.deed p a)) = omega arith
act_if_any_deep _ = omega arith

-- ---- lists of parts ----

pub exprs_deep : (v : Val) → deepest nesting (as_exprs v) ≤ depth v
exprs_deep (val.expression (part.formulas fs)) = omega arith
exprs_deep _ = omega arith

pub joins_deep : (v : Val) → deepest (λ j. nesting j.1) (as_joins v) ≤ depth v
joins_deep (val.expression (part.joins js)) = omega arith
joins_deep _ = omega arith

pub sizes_deep : (v : Val) → sizes_nesting (as_pars v) ≤ depth v
sizes_deep (val.parameter (part.pars ps)) = omega arith
sizes_deep _ = omega arith

pub declareds_deep : (v : Val) → deepest declared_nesting (as_declareds v) ≤ depth v
declareds_deep (val.declaration (part.declareds ds)) = omega arith
declareds_deep _ = omega arith

pub areas_deep : (v : Val) → deepest area_nesting (as_areas v) ≤ depth v
areas_deep (val.declaration (part.areas all)) = omega arith
areas_deep _ = omega arith

pub groups_deep : (v : Val) → deepest group_nesting (as_groups v) ≤ depth v
groups_deep (val.declaration (part.groups all)) = omega arith
groups_deep _ = omega arith

pub presets_deep : (v : Val) → deepest preset_nesting (as_presets v) ≤ depth v
presets_deep (val.declaration (part.presets all)) = omega arith
presets_deep _ = omega arith

pub entries_deep : (v : Val) → deepest entry_nesting (as_entries v) ≤ depth v
entries_deep (val.transfer (part.entries es)) = omega arith
entries_deep _ = omega arith

pub fields_deep : (v : Val) → fields_nesting (as_fields v) ≤ depth v
fields_deep (val.transfer (part.fields fs)) = omega arith
fields_deep _ = omega arith

pub statements_deep : (v : Val) → depth_in (as_statements v) ≤ depth v
statements_deep (val.statement (part.commands ss)) = omega arith
statements_deep _ = omega arith

pub clauses_deep : (v : Val) → depth_among (as_clauses v) ≤ depth v
clauses_deep (val.statement (part.clauses cs)) = omega arith
clauses_deep _ = omega arith

pub units_deep : (v : Val) → deepest depth_of_unit (as_units v) ≤ depth v
units_deep (val.unit (part.routines us)) = omega arith
units_deep _ = omega arith

-- ---- with their parentheses ----

pub around_subscripts_deep : (v : Val) → around_subscripts v ≤ subscripts_depth (as_exprs v)
around_subscripts_deep (val.expression (part.formulas fs)) = omega arith
around_subscripts_deep _ = omega arith

pub around_fields_deep : (v : Val) → around_fields v ≤ suc (depth v)
around_fields_deep (val.transfer (part.fields fs)) = omega arith
around_fields_deep _ = omega arith

-- ---- a part before a list ----

pub with_declared_deep : (v : Val) (ds : List _) → deepest declared_nesting (with_declared v ds) ≤ max (depth v) (deepest declared_nesting ds)
with_declared_deep (val.declaration (part.declared d)) ds = omega arith
with_declared_deep _ ds = omega arith

pub with_area_deep : (v : Val) (all : List _) → deepest area_nesting (with_area v all) ≤ max (depth v) (deepest area_nesting all)
with_area_deep (val.declaration (part.area a)) all = omega arith
with_area_deep _ all = omega arith

pub with_preset_deep : (v : Val) (all : List _) → deepest preset_nesting (with_preset v all) ≤ max (depth v) (deepest preset_nesting all)
with_preset_deep (val.declaration (part.preset p)) all = omega arith
with_preset_deep _ all = omega arith

pub with_entry_deep : (v : Val) (es : List _) → deepest entry_nesting (with_entry v es) ≤ max (depth v) (deepest entry_nesting es)
with_entry_deep (val.transfer (part.entry e)) es = omega arith
with_entry_deep _ es = omega arith

pub with_routine_deep : (v : Val) (us : List RatRoutine) → deepest depth_of_unit (with_routine v us) ≤ max (depth v) (deepest depth_of_unit us)
with_routine_deep (val.unit (part.routine u)) us = omega arith
with_routine_deep _ us = omega arith
