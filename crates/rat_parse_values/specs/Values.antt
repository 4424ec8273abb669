-- What the parts of a text give, as plain data.
use Rattle.std.specs.Prelude.{ℕ, zero, suc, Option, List, [], ◌∷◌}
use Rattle.ground.specs.declared.place.Place.{Place}
use Rattle.ground.specs.declared.token.Token.{Token}
use Rattle.f66_tree.specs.declared.expression.Operator.{Operator}
use Rattle.f66_tree.specs.Fields.{Fields}
use Rattle.f66_tree.specs.Syntax.{Text, Formula, Par, Header, Entry, Declared, Area, PresetPart, Act}
use Rattle.f66_tree.specs.Views.{par_of}
use Rattle.rat_tree.specs.Syntax.{Command, Commands, Clauses, RatRoutine, RatProgram}
use Rattle.rat_parse_values.specs.declared.range.Range as ranges
use Rattle.rat_parse_values.specs.Kinds.{Range, LoopRest, ExpressionVal, ParameterVal, DeclarationVal, TransferVal, StatementVal, UnitVal}
use Rattle.rat_parse_values.specs.Kinds as part

pub data Val : Type 0 where
  nothing : Val
  tok : Token → Val
  expression : ExpressionVal → Val
  parameter : ParameterVal → Val
  declaration : DeclarationVal → Val
  transfer : TransferVal → Val
  statement : StatementVal → Val
  unit : UnitVal → Val

abbrev pub formula : Formula → Val
formula x = expression (part.formula x)

abbrev pub located : Place → Formula → Val
located x y = expression (part.located x y)

abbrev pub formulas : List Formula → Val
formulas x = expression (part.formulas x)

abbrev pub joins : List (Operator × Formula) → Val
joins x = expression (part.joins x)

abbrev pub names : List Text → Val
names x = parameter (part.names x)

abbrev pub numbers : List ℕ → Val
numbers x = parameter (part.numbers x)

abbrev pub par : Par → Val
par x = parameter (part.par x)

abbrev pub pars : List Par → Val
pars x = parameter (part.pars x)

abbrev pub range : Range → Val
range x = parameter (part.range x)

abbrev pub declared : Declared → Val
declared x = declaration (part.declared x)

abbrev pub declareds : List Declared → Val
declareds x = declaration (part.declareds x)

abbrev pub area : Area → Val
area x = declaration (part.area x)

abbrev pub areas : List Area → Val
areas x = declaration (part.areas x)

abbrev pub groups : List (List Formula) → Val
groups x = declaration (part.groups x)

abbrev pub preset : PresetPart → Val
preset x = declaration (part.preset x)

abbrev pub presets : List PresetPart → Val
presets x = declaration (part.presets x)

abbrev pub datum : ℕ → Formula → Val
datum x y = declaration (part.datum x y)

abbrev pub data_values : List (ℕ × Formula) → Val
data_values x = declaration (part.data_values x)

abbrev pub entry : Entry → Val
entry x = transfer (part.entry x)

abbrev pub entries : List Entry → Val
entries x = transfer (part.entries x)

abbrev pub rest : LoopRest → Val
rest x = transfer (part.rest x)

abbrev pub pending : Option (List Formula) → LoopRest → Val
pending x y = transfer (part.pending x y)

abbrev pub field : (Fields → Fields) → Val
field x = transfer (part.field x)

abbrev pub fields : Fields → Val
fields x = transfer (part.fields x)

abbrev pub deed : Place → Act → Val
deed x y = statement (part.deed x y)

abbrev pub command : Place → Command → Val
command x y = statement (part.command x y)

abbrev pub commands : Commands → Val
commands x = statement (part.commands x)

abbrev pub clause : (Clauses → Clauses) → Val
clause x = statement (part.clause x)

abbrev pub clauses : Clauses → Val
clauses x = statement (part.clauses x)

abbrev pub heading : Place → Header → Val
heading x y = unit (part.heading x y)

abbrev pub routine : RatRoutine → Val
routine x = unit (part.routine x)

abbrev pub routines : List RatRoutine → Val
routines x = unit (part.routines x)

abbrev pub program : RatProgram → Val
program x = unit (part.program x)

abbrev pub range_of : ranges.Range → Range
range_of r = record { first = par_of r.first; last = par_of r.last; step = par_of r.step }

-- the parts of a production stand with the last one first
abbrev pub last_of : List Val → Val
last_of [] = nothing
last_of (v ∷ vs) = v

abbrev pub others : List Val → List Val
others [] = []
others (v ∷ vs) = vs

abbrev pub at : ℕ → List Val → Val
at zero vs = last_of vs
at (suc n) vs = at n (others vs)
