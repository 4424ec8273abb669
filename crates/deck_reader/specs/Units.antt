-- The units that the lines of a deck give, or the first line at fault (X3.9-1966, sections 3.3 and 9).
use Rattle.std.specs.Prelude.{List, [], ◌∷◌, Result, Ok, Err, if◌then◌else◌}
use Rattle.ground.specs.declared.place.Place.{Place}
use Rattle.ground.specs.declared.fault.Fault.{Fault}
use Rattle.f66_tree.specs.Syntax.{Header, MainUnit, Line, Routine}
use Rattle.card_reader.specs.Reading.{CardLine}
use Rattle.stmt_reader.specs.Faults.{Answer, Read, Refused, HeaderAnswer, NoHeader, HeaderRead, HeaderRefused, header_answer, text_answer}
use Rattle.stmt_lines.specs.Answers.{has_label}

-- units, or a fault
abbrev pub Units : Type 0
Units = Result (List Routine) Fault

-- an END line, before units
abbrev pub ended : Place → Units → Units
ended place (Ok units) = Ok (record { header = MainUnit; lines = []; place = place } ∷ units)
ended place (Err f) = Err f

-- the first of these units with a line more, or with a header, or at a place
abbrev pub with_line : Line → Units → Units
with_line line (Ok (unit ∷ units)) = Ok (record { header = unit.header; lines = line ∷ unit.lines; place = unit.place } ∷ units)
with_line line (Ok []) = Ok []
with_line line (Err f) = Err f

abbrev pub with_header : Header → Units → Units
with_header header (Ok (unit ∷ units)) = Ok (record { header = header; lines = unit.lines; place = unit.place } ∷ units)
with_header header (Ok []) = Ok []
with_header header (Err f) = Err f

abbrev pub placed : Place → Units → Units
placed place (Ok (unit ∷ units)) = Ok (record { header = unit.header; lines = unit.lines; place = place } ∷ units)
placed place (Ok []) = Ok []
placed place (Err f) = Err f

-- what a statement's line says, before the units of the lines behind it
abbrev pub stated : CardLine → Answer → Units → Units
stated line (Read act) units = with_line (record { label = line.label; place = line.place; act = act }) units
stated line (Refused kind number) units = Err (record { kind = kind; place = line.place; number = number })

-- what the first line of a unit says: a header, or a statement
abbrev pub headed : CardLine → HeaderAnswer → Units → Units
headed line NoHeader units = stated line (text_answer line.text) units
headed line (HeaderRead header) units = with_header header units
headed line (HeaderRefused kind) units = Err (record { kind = kind; place = line.place; number = 0 })

-- The units of lines, of which the first is the first of a unit, or not. A unit has the place of its first line. Behind the last END line
-- a deck has no lines.
abbrev mutual
  pub units_of : List CardLine → Units
  units_of [] = Ok []
  units_of (line ∷ lines) = placed line.place (if line.last then ended line.place (units_of lines) else headed line (header_answer (has_label line.label) line.text) (rest_of lines))

  pub rest_of : List CardLine → Units
  rest_of [] = Ok []
  rest_of (line ∷ lines) = if line.last then ended line.place (units_of lines) else stated line (text_answer line.text) (rest_of lines)
