-- What the first lines of a deck say, before what is still to come.
use Rattle.std.specs.Prelude.{◌≡◌, ◌<◌, ⊤, List, [], ◌∷◌, ◌++◌, length, Ok, Err, Option, Some, None}
use Rattle.ground.specs.declared.place.Place.{Place}
use Rattle.ground.specs.declared.fault.Refusal.{Refusal}
use Rattle.ground.specs.declared.fault.Refusal.TheVariants.{Fault as AFault, Memory}
use Rattle.f66_tree.specs.Syntax.{Header, Line, Routine}
use Rattle.card_reader.specs.Reading.{CardLine}
use Rattle.deck_reader.specs.Units.{Units, ended, with_line, with_header, placed, units_of, rest_of}

-- a refusal is the fault of these units, if it is not for want of memory
abbrev pub IsLineRefusal : Units → Refusal → Type 0
IsLineRefusal units Memory = ⊤
IsLineRefusal units (AFault f) = units ≡ Err f

-- lines of a unit before the others
abbrev pub lines_before : List Line → Units → Units
lines_before [] units = units
lines_before (line ∷ lines) units = with_line line (lines_before lines units)

-- units before others
abbrev pub units_before : List Routine → Units → Units
units_before before (Ok units) = Ok (before ++ units)
units_before before (Err f) = Err f

-- what stands before these others: statements of a unit, and an END line
pub record EndsBefore (lines : List CardLine) (statements : List Line) (others : List CardLine) : Type 0 where
  pub shorter : length others < length lines
  pub place : Place
  pub is : rest_of lines ≡ lines_before statements (ended place (units_of others))

-- whether the line that begins a unit says a header, which goes before the statements behind it
abbrev pub Opens : CardLine → Option Header → List CardLine → Type 0
Opens line None rest = units_of (line ∷ rest) ≡ placed line.place (rest_of (line ∷ rest))
Opens line (Some header) rest = units_of (line ∷ rest) ≡ placed line.place (with_header header (rest_of rest))

-- what stands before these others is a unit
pub record IsUnitBefore (lines : List CardLine) (unit : Routine) (others : List CardLine) : Type 0 where
  pub shorter : length others < length lines
  pub is : units_of lines ≡ units_before (unit ∷ []) (units_of others)
