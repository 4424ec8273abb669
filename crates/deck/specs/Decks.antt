-- The printed deck of units (X3.9-1966, section 3).
use Rattle.std.specs.Prelude.{ℕ, ◌≤◌, List, [], ◌∷◌, ◌++◌, codes, unwrap_or}
use Rattle.std.specs.List.{All, flat_map}
use Rattle.f66_tree.specs.declared.statement.Stmt.{Stmt}
use Rattle.f66_tree.specs.declared.unit.Unit.{Unit}
use Rattle.f66_tree.specs.Syntax.{Header, MainUnit, Line, Routine}
use Rattle.card_writer.specs.Cards.{cards}
use Rattle.stmt_text.specs.Texts.{header_text, statement_text}

-- the cards of a statement, with its label on the first
abbrev pub statement_cards : Line → List ℕ
statement_cards line = cards (unwrap_or line.label 0) (statement_text line.act)

-- a main has no header
abbrev pub header_cards : Header → List ℕ
header_cards MainUnit = []
header_cards header = cards 0 (header_text header)

-- six blanks and END
abbrev pub end_line : List ℕ
end_line = codes "      END" ++ 10 ∷ []

abbrev pub unit_cards : Routine → List ℕ
unit_cards unit = header_cards unit.header ++ (flat_map statement_cards unit.lines ++ end_line)

abbrev pub deck_of : List Routine → List ℕ
deck_of units = flat_map unit_cards units

-- a label that fits columns 1 to 5
abbrev pub HasCardLabel : Stmt → Type 0
HasCardLabel statement = unwrap_or statement.label 0 ≤ 99999

abbrev pub HasCardLabels : Unit → Type 0
HasCardLabels unit = All HasCardLabel unit.statements.items
