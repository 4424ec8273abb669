-- Units with the numbers of their cards for places, and units but for their places.
use Rattle.std.specs.Prelude.{ℕ, ◌+◌, List, [], ◌∷◌, map}
use Rattle.f66_tree.specs.Syntax.{Header, MainUnit, Line, Routine}
use Rattle.stmt_text.specs.Texts.{header_text, statement_text}
use Rattle.card_reader.specs.Reading.{at}
use Rattle.deck.specs.Written.{breaks}
use Rattle.deck.specs.ReadBack.{Said, said}

-- a unit but for places: its header, and of each statement its label and what it says
abbrev pub unplaced : Routine → Header × List Said
unplaced unit = (unit.header, map said unit.lines)

-- the card behind those of a statement that begins on this card
abbrev pub card_behind : ℕ → Line → ℕ
card_behind n line = n + 1 + breaks 66 (statement_text line.act)

-- statements of a unit, each at its first card
abbrev pub lines_at : ℕ → List Line → List Line
lines_at n [] = []
lines_at n (line ∷ lines) = record { label = line.label; place = at n; act = line.act } ∷ lines_at (card_behind n line) lines

-- the card of the END line behind them
abbrev pub end_behind : ℕ → List Line → ℕ
end_behind n [] = n
end_behind n (line ∷ lines) = end_behind (card_behind n line) lines

-- the card behind those of a header, where there is one
abbrev pub lines_begin : ℕ → Header → ℕ
lines_begin n MainUnit = n
lines_begin n header = n + 1 + breaks 66 (header_text header)

-- units of a deck, each at its first card
abbrev pub units_at : ℕ → List Routine → List Routine
units_at n [] = []
units_at n (unit ∷ units) =
    record { header = unit.header; lines = lines_at (lines_begin n unit.header) unit.lines; place = at n } ∷ units_at (end_behind (lines_begin n unit.header) unit.lines + 1) units
