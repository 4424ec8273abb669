-- What a walk over the parts of a program knows: the procedure, what is around a part, and the first fault of the parts that it has read.
use Rattle.std.specs.Prelude.{◌≡◌, Bool, false, List, [], ◌∷◌, ◌++◌, map, flat_map, sum, Option, Some, None, option_map}
use Rattle.std.specs.List.{slice_get}
use Rattle.ground.specs.declared.fault.Fault.{Fault}
use Rattle.ground.specs.declared.place.Place.{Place}
use Rattle.efl_tree.specs.Syntax.{Text, Initial, EflPreset, EflProcedure}
use Rattle.efl_scope.specs.Scopes.{implied_of}
use Rattle.efl_scope.specs.Parts.{Declares, Around, Part, part}
use Rattle.efl_types.specs.declared.rule.TypeRule.{TypeRule}
use Rattle.efl_types.specs.Signatures.{signatures}
use Rattle.efl_types.specs.Signatures as seen
use Rattle.efl_types.specs.Presets.{Filled, meets_earlier}
use Rattle.efl_types.specs.TypeRules.{kind_of, limit_of, part_fills, part_values, first_in}
use Rattle.efl_scoped.specs.Numbers.{Table, Grows}
use Rattle.efl_scoped.specs.Seen.{table_of}
use Rattle.efl_scoped.specs.Told.{capped}
use Rattle.efl_expressions.specs.NameViews.{Know}
use Rattle.efl_names.specs.NameViews.{result_of}
use Rattle.efl_blocks.specs.declared.types.Types.{Types}
use Rattle.efl_blocks.specs.OuterViews.{AreRules}
use Rattle.efl_blocks.specs.ProcedureViews.{AreAllUnits}
use Rattle.efl_blocks.specs.HomeViews.{position_of, AreHomes}
use Rattle.efl_initial_values.specs.Fills.{Ends, ends_of, Notes}
use Rattle.efl_initial_values.specs.Owners.{owner_code, AreAreas}
use Rattle.efl_reading.specs.declared.sites.Procedure.{Procedure}
use Rattle.efl_reading.specs.declared.sites.Site.{Site}
use Rattle.efl_reading.specs.declared.progress.Progress.{Progress}

-- ---- around a part ----

-- the procedure u of the program us
pub record IsProcedure (y : Types) (us : List EflProcedure) (u : EflProcedure) (p : Procedure) : Type 0 where
  pub found : slice_get us p.unit ≡ Some u
  pub formals : u.formals ≡ p.formals.now
  pub letters : AreRules y (implied_of u) p.letters.now
  pub units : AreAllUnits y (signatures us) p.units.now
  pub gives : seen.result_of u.result ≡ result_of p.outcome
  pub areas : AreAreas u p.areas.now

-- all names of the part's blocks are known
pub record IsSite (y : Types) (us : List EflProcedure) (u : EflProcedure) (a : Around) (s : Site) : Type 0 where
  pub procedure : IsProcedure y us u s.procedure.now
  pub unit : a.unit ≡ s.procedure.now.unit
  pub position : a.position ≡ position_of s.position.now
  pub formals : a.formals ≡ s.formals.now
  pub blocks : Know (table_of y.numbers) y.structures.list.items a.blocks s.blocks.now
  pub homes : AreHomes u a.blocks s.homes.now

-- ---- behind parts ----

-- what a part at this place tells of the first rule that it breaks
abbrev pub fault_at : Place → Option TypeRule → Option Fault
fault_at p o = option_map (λ r. record { kind = kind_of r; place = p; number = limit_of r }) o

-- what is known behind these parts of the program us
pub record Behind (us : List EflProcedure) (vs : List Part) (p : Progress) : Type 0 where
  pub tells : p.fault ≡ first_in us vs
  pub filled : p.fault ≡ None → Notes (owner_code (table_of p.owners)) (ends_of p.fills.ends) (flat_map (part_fills us) vs)
  pub counted : p.fault ≡ None → p.values ≡ capped (sum (map part_values vs))

-- Ranges come one by one: whether one meets an earlier one of these owners or of their own. If not, they are known too.
pub record FillsMore (f : Table) (ends : Ends) (gs : List Filled) (g : Table) (later : Ends) (met : Bool) : Type 0 where
  pub grows : Grows f g
  pub meets : (fs : List Filled) → Notes (owner_code f) ends fs → met ≡ meets_earlier fs gs
  pub notes : (fs : List Filled) → Notes (owner_code f) ends fs → met ≡ false → Notes (owner_code g) later (fs ++ gs)

-- initial values come
abbrev pub NotesPresets : Types → Site → Place → List EflPreset → Progress → Progress → Type 0
NotesPresets y s place ps old new = (us : List EflProcedure) (u : EflProcedure) (a : Around) (before : List Text) (vs : List Part) → IsSite y us u a s → Behind us vs old →
    Behind us (vs ++ part a place (Declares before (Initial ps)) ∷ []) new
