-- What is around a part stays while types are made.
use Rattle.std.proofs.Common.{List, [], ◌∷◌, Option, Some, None}
use Rattle.efl_tree.specs.Syntax.{EflProcedure}
use Rattle.efl_scope.specs.DataTypes.{DataType}
use Rattle.efl_scope.specs.Scopes.{implied_of}
use Rattle.efl_scope.specs.Parts.{Around}
use Rattle.efl_types.specs.Signatures as seen
use Rattle.efl_scoped.specs.Seen.{table_of}
use Rattle.efl_expressions.specs.declared.types.DataType as types
use Rattle.efl_names.specs.declared.units.Signature.{Signature}
use Rattle.efl_names.specs.declared.units.Units.{Units}
use Rattle.efl_names.specs.NameViews.{IsSignatureIfAny, first_unit, unit_in}
use Rattle.efl_blocks.specs.declared.types.Types.{Types}
use Rattle.efl_blocks.specs.Within.{Later}
use Rattle.efl_blocks.specs.ProcedureViews.{AreAllTypes, AreAllUnits}
use Rattle.efl_blocks.proofs.LaterLemmas.{type_later, know_later}
use Rattle.efl_blocks.proofs.OuterLemmas.{rules_later}
use Rattle.efl_reading.specs.declared.sites.Procedure.{Procedure}
use Rattle.efl_reading.specs.declared.sites.Site.{Site}
use Rattle.efl_reading.specs.Reading.{IsProcedure, IsSite}

types_later : (y z : Types) (ts : List DataType) (ds : List types.DataType) → Later y z → AreAllTypes y ts ds → AreAllTypes z ts ds
types_later y z [] [] more are = tt
types_later y z (t ∷ ts) (d ∷ ds) more are = (type_later y z more t d are.0, types_later y z ts ds more are.1)
types_later y z [] (d ∷ ds) more are = absurd are
types_later y z (t ∷ ts) [] more are = absurd are

abbrev IsSigned : Types → Option seen.Signature → Option Signature → Type 0
IsSigned y o p = IsSignatureIfAny (table_of y.numbers) y.structures.list.items o p

signed_later : (y z : Types) (o : Option seen.Signature) (p : Option Signature) → Later y z → IsSigned y o p → IsSigned z o p
signed_later y z None None more is = tt
signed_later y z (Some s) (Some t) more is = (types_later y z s.formals t.formals.items more is.0, is.1)
signed_later y z None (Some t) more is = absurd is
signed_later y z (Some s) None more is = absurd is

pub units_later : (y z : Types) (ss : List seen.Signature) (units : Units) → Later y z → AreAllUnits y ss units → AreAllUnits z ss units
units_later y z ss units more are x = signed_later y z (first_unit ss x) (unit_in units x) more (are x)

pub procedure_later : (y z : Types) (us : List EflProcedure) (u : EflProcedure) (p : Procedure) → Later y z → IsProcedure y us u p → IsProcedure z us u p
procedure_later y z us u p more is = record {
  found = is.found;
  formals = is.formals;
  letters = rules_later y z (implied_of u) p.letters.now more is.letters;
  units = units_later y z (seen.signatures us) p.units.now more is.units;
  gives = is.gives;
  areas = is.areas;
}

pub site_later : (y z : Types) (us : List EflProcedure) (u : EflProcedure) (a : Around) (s : Site) → Later y z → IsSite y us u a s → IsSite z us u a s
site_later y z us u a s more is = record {
  procedure = procedure_later y z us u s.procedure.now more is.procedure;
  unit = is.unit;
  position = is.position;
  formals = is.formals;
  blocks = know_later y z more a.blocks s.blocks.now is.blocks;
  homes = is.homes;
}
