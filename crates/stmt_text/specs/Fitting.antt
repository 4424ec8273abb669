-- Statements that fit their cards: twenty of 66 columns for each text (X3.9-1966, section 3.2.4).
use Rattle.std.specs.Prelude.{◌≤◌, length}
use Rattle.std.specs.List.{AllByRecursion}
use Rattle.f66_tree.specs.Syntax.{Line, Routine}
use Rattle.stmt_text.specs.Texts.{header_text, statement_text}

-- the text of a statement has at most 1,320 characters
abbrev pub FitsCards : Line → Type 0
FitsCards line = length (statement_text line.act) ≤ 1320

-- so has the header of a unit, and each of its statements
pub record IsPrintable (u : Routine) : Type 0 where
  pub header : length (header_text u.header) ≤ 1320
  pub lines : AllByRecursion FitsCards u.lines
