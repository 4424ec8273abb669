-- What the parts of a text give, by what they are parts of.
use Rattle.std.specs.Prelude.{ℕ, Option, List}
use Rattle.ground.specs.declared.place.Place.{Place}
use Rattle.f66_tree.specs.declared.expression.Operator.{Operator}
use Rattle.f66_tree.specs.Fields.{Fields}
use Rattle.f66_tree.specs.Syntax.{Text, Formula, Par, Header, Entry, Declared, Area, PresetPart, Act}
use Rattle.rat_tree.specs.Syntax.{Command, Commands, Clauses, RatRoutine, RatProgram}

-- the parameters of a DO
pub record Range : Type 0 where
  pub first : Par
  pub last : Par
  pub step : Par

-- the later entries of an implied DO, with its variable and parameters
pub record LoopRest : Type 0 where
  pub list : List Entry
  pub variable : Text
  pub range : Range

pub data ExpressionVal : Type 0 where
  formula : Formula → ExpressionVal
  located : Place → Formula → ExpressionVal
  formulas : List Formula → ExpressionVal
  joins : List (Operator × Formula) → ExpressionVal

pub data ParameterVal : Type 0 where
  names : List Text → ParameterVal
  numbers : List ℕ → ParameterVal
  par : Par → ParameterVal
  pars : List Par → ParameterVal
  range : Range → ParameterVal

pub data DeclarationVal : Type 0 where
  declared : Declared → DeclarationVal
  declareds : List Declared → DeclarationVal
  area : Area → DeclarationVal
  areas : List Area → DeclarationVal
  groups : List (List Formula) → DeclarationVal
  preset : PresetPart → DeclarationVal
  presets : List PresetPart → DeclarationVal
  datum : ℕ → Formula → DeclarationVal
  data_values : List (ℕ × Formula) → DeclarationVal

pub data TransferVal : Type 0 where
  entry : Entry → TransferVal
  entries : List Entry → TransferVal
  rest : LoopRest → TransferVal
  pending : Option (List Formula) → LoopRest → TransferVal
  field : (Fields → Fields) → TransferVal
  fields : Fields → TransferVal

pub data StatementVal : Type 0 where
  deed : Place → Act → StatementVal
  command : Place → Command → StatementVal
  commands : Commands → StatementVal
  clause : (Clauses → Clauses) → StatementVal
  clauses : Clauses → StatementVal

pub data UnitVal : Type 0 where
  heading : Place → Header → UnitVal
  routine : RatRoutine → UnitVal
  routines : List RatRoutine → UnitVal
  program : RatProgram → UnitVal
