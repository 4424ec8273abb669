-- The statements of a deck's lines, unit by unit: of each its label and what it says.
use Rattle.std.specs.Prelude.{◌≡◌, ℕ, List, [], ◌∷◌, Option, Some, None, unwrap_or, if◌then◌else◌}
use Rattle.std.specs.List.{AllByRecursion}
use Rattle.f66_tree.specs.Syntax.{MainUnit, Act, Line, Routine}
use Rattle.card_reader.specs.Reading.{CardLine}
use Rattle.stmt_reader.specs.Lexing.{tokens_of}
use Rattle.stmt_reader.specs.Statements.{statement_of}
use Rattle.deck.specs.ReadableStatements.{IsReadableAct}
use Rattle.deck.specs.Written.{label_if}

abbrev pub Said : Type 0
Said = Option ℕ × Act

abbrev pub said : Line → Said
said line = (line.label, line.act)

-- an END line before other units
abbrev pub end_unit : Option (List (List Said)) → Option (List (List Said))
end_unit None = None
end_unit (Some units) = Some ([] ∷ units)

-- a statement before others of its unit
abbrev pub with_said : Option ℕ → Option Act → Option (List (List Said)) → Option (List (List Said))
with_said label (Some a) (Some (unit ∷ units)) = Some (((label, a) ∷ unit) ∷ units)
with_said label _ _ = None

-- the units of lines, if each line is a statement
abbrev pub units_of : List CardLine → Option (List (List Said))
units_of [] = Some []
units_of (line ∷ lines) = if line.last then end_unit (units_of lines) else with_said line.label (statement_of (tokens_of line.text)) (units_of lines)

-- a statement whose text is read back, and whose label is not zero
pub record IsReadableLine (line : Line) : Type 0 where
  pub act : IsReadableAct line.act
  pub label : label_if (unwrap_or line.label 0) ≡ line.label

-- a main of such statements
pub record IsReadableMain (unit : Routine) : Type 0 where
  pub main : unit.header ≡ MainUnit
  pub lines : AllByRecursion IsReadableLine unit.lines
