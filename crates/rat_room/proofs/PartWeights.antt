-- What is read off a part weighs no more than the part.
use Rattle.std.proofs.Common.{◌≡◌, ◌≤◌, ℕ, ◌+◌, arith, Bool, List, [], ◌∷◌, length, refl}
use Rattle.ground.specs.declared.place.Place.{Place}
use Rattle.f66_tree.specs.Syntax.{Formula, Formulas}
use Rattle.f66_tree.specs.Views.{chained, listed}
use Rattle.rat_tree.specs.Syntax.{Commands, Clauses, NoClause, AndClause}
use Rattle.rat_parse_values.specs.Kinds as part
use Rattle.rat_parse_values.specs.Values.{Val}
use Rattle.rat_parse_values.specs.Values as val
use Rattle.rat_parse_values.specs.Parts.{as_exprs, as_joins, as_names, as_pars, as_declareds, as_areas, as_groups, as_presets, as_entries, as_statements, as_clauses, with_declared, with_area, with_preset, with_entry, with_clause, as_formula, as_par, as_act, as_command, as_header, as_range, formula_part, act_part, step_or_one}
use Rattle.rat_room.proofs.BeforeOthers.{HoldsBefore}
use Rattle.rat_room.proofs.Weights.{total, if_any, of_formula, of_formulas, of_par, of_entry, of_entries, of_declared, of_area, of_preset, of_act, of_command, of_commands, of_clauses, of_header, of_range, weight}

-- ---- lists ----

pub chained_weighs : (fs : List Formula) → of_formulas (chained fs) ≡ total of_formula fs
chained_weighs [] = refl
chained_weighs (f ∷ fs) = omega (arith, chained_weighs fs)

pub listed_weighs : (es : List _) → of_entries (listed es) ≡ total of_entry es
listed_weighs [] = refl
listed_weighs (e ∷ es) = omega (arith, listed_weighs es)

abbrev pub weights : List Val → ℕ
weights vs = total weight vs

-- ---- single parts ----

pub formula_weighs : (v : Val) → of_formula (as_formula v) ≤ weight v
formula_weighs (val.expression (part.formula f)) = omega arith
formula_weighs (val.expression (part.located p f)) = omega arith
formula_weighs _ = omega arith

pub par_weighs : (v : Val) → of_par (as_par v) ≤ weight v
par_weighs (val.parameter (part.par p)) = omega arith
par_weighs _ = omega arith

pub step_weighs : (v : Val) → of_par (step_or_one v) ≤ weight v
step_weighs (val.parameter (part.par p)) = omega arith
step_weighs _ = omega arith

pub range_weighs : (v : Val) → of_range (as_range v) ≤ weight v
range_weighs (val.parameter (part.range r)) = omega arith
range_weighs _ = omega arith

pub act_weighs : (v : Val) → of_act (as_act v) ≤ weight v
act_weighs (val.statement (part.deed p a)) = omega arith
act_weighs _ = omega arith

pub command_weighs : (v : Val) → of_command (as_command v) ≤ weight v
command_weighs (val.statement (part.command p c)) = omega arith
command_weighs _ = omega arith

pub formula_if_any_weighs : (v : Val) → if_any of_formula (formula_part v) ≤ weight v
formula_if_any_weighs (val.expression (part.formula f)) = omega arith
formula_if_any_weighs _ = omega arith

pub act_if_any_weighs : (v : Val) → if_any of_act (act_part v) ≤ weight v
act_if_any_weighs (val.statement (part.deed p a)) = omega arith
act_if_any_weighs _ = omega arith

-- ---- lists of parts ----

pub exprs_weigh : (v : Val) → total of_formula (as_exprs v) ≤ weight v
exprs_weigh (val.expression (part.formulas fs)) = omega arith
exprs_weigh _ = omega arith

pub joins_weigh : (v : Val) → total (λ j. of_formula j.1) (as_joins v) ≤ weight v
joins_weigh (val.expression (part.joins js)) = omega arith
joins_weigh _ = omega arith

pub pars_weigh : (v : Val) → total of_par (as_pars v) ≤ weight v
pars_weigh (val.parameter (part.pars ps)) = omega arith
pars_weigh _ = omega arith

pub names_weigh : (v : Val) → length (as_names v) ≤ weight v
names_weigh (val.parameter (part.names xs)) = omega arith
names_weigh _ = omega arith

pub declareds_weigh : (v : Val) → total of_declared (as_declareds v) ≤ weight v
declareds_weigh (val.declaration (part.declareds ds)) = omega arith
declareds_weigh _ = omega arith

pub areas_weigh : (v : Val) → total of_area (as_areas v) ≤ weight v
areas_weigh (val.declaration (part.areas all)) = omega arith
areas_weigh _ = omega arith

pub groups_weigh : (v : Val) → total (total of_formula) (as_groups v) ≤ weight v
groups_weigh (val.declaration (part.groups all)) = omega arith
groups_weigh _ = omega arith

pub presets_weigh : (v : Val) → total of_preset (as_presets v) ≤ weight v
presets_weigh (val.declaration (part.presets all)) = omega arith
presets_weigh _ = omega arith

pub entries_weigh : (v : Val) → total of_entry (as_entries v) ≤ weight v
entries_weigh (val.transfer (part.entries es)) = omega arith
entries_weigh _ = omega arith

pub statements_weigh : (v : Val) → of_commands (as_statements v) ≤ weight v
statements_weigh (val.statement (part.commands ss)) = omega arith
statements_weigh _ = omega arith

pub header_weighs : (v : Val) → of_header (as_header v) ≤ weight v
header_weighs (val.unit (part.heading p h)) = omega arith
header_weighs _ = omega arith

pub clauses_weigh : (v : Val) → of_clauses (as_clauses v) ≤ weight v
clauses_weigh (val.statement (part.clauses cs)) = omega arith
clauses_weigh _ = omega arith

-- ---- a part before a list ----

pub with_declared_weighs : (v : Val) (ds : List _) → total of_declared (with_declared v ds) ≤ weight v + total of_declared ds
with_declared_weighs (val.declaration (part.declared d)) ds = omega arith
with_declared_weighs _ ds = omega arith

pub with_area_weighs : (v : Val) (all : List _) → total of_area (with_area v all) ≤ weight v + total of_area all
with_area_weighs (val.declaration (part.area a)) all = omega arith
with_area_weighs _ all = omega arith

pub with_preset_weighs : (v : Val) (all : List _) → total of_preset (with_preset v all) ≤ weight v + total of_preset all
with_preset_weighs (val.declaration (part.preset p)) all = omega arith
with_preset_weighs _ all = omega arith

pub with_entry_weighs : (v : Val) (es : List _) → total of_entry (with_entry v es) ≤ weight v + total of_entry es
with_entry_weighs (val.transfer (part.entry e)) es = omega arith
with_entry_weighs _ es = omega arith

-- A clause puts itself before others, whatever they are.
pub record PutsOne (d : Clauses → Clauses) : Type 0 where
  pub cases : Formulas
  pub fallback : Bool
  pub statements : Commands
  pub place : Place
  pub is : (all : Clauses) → d all ≡ AndClause cases fallback statements place all

abbrev pub IsEven : Val → Type 0
IsEven v = HoldsBefore PutsOne (λ d. Unit {0}) v

pub with_clause_weighs : (v : Val) (cs : Clauses) → IsEven v → of_clauses (with_clause v cs) ≤ weight v + of_clauses cs
with_clause_weighs (val.statement (part.clause d)) cs even = let here = even.is cs in let alone = even.is NoClause in rw (here, alone) (omega arith)
with_clause_weighs _ cs even = omega arith
