-- A deck by its statements, each a label and a text, and the lines that it gives when it is read.
use Rattle.std.specs.Prelude.{◌≡◌, ℕ, zero, suc, ◌+◌, ◌≤◌, true, false, ◌==◌, List, [], ◌∷◌, ◌++◌, length, Option, Some, None, codes, map, unwrap_or, if◌then◌else◌}
use Rattle.std.specs.List.{list_all}
use Rattle.f66_tree.specs.Syntax.{Header, MainUnit, Line, Routine}
use Rattle.stmt_text.specs.Texts.{header_text, statement_text}
use Rattle.card_writer.specs.Cards.{cards}
use Rattle.card_reader.specs.Cards.{is_blank, is_printable, is_spread}
use Rattle.card_reader.specs.Reading.{CardLine, at, end_line}

-- a statement: its label, or 0, and its text
pub record Written : Type 0 where
  pub label : ℕ
  pub text : List ℕ

-- a header has no label, and a main has no header
abbrev pub written_header : Header → List Written
written_header MainUnit = []
written_header header = record { label = 0; text = header_text header } ∷ []

abbrev pub written_line : Line → Written
written_line line = record { label = unwrap_or line.label 0; text = statement_text line.act }

abbrev pub written_unit : Routine → List Written
written_unit unit = written_header unit.header ++ map written_line unit.lines

-- the cards of a unit with its END line, before those of the next
abbrev pub cards_of_unit : List Written → List ℕ → List ℕ
cards_of_unit [] k = codes "      END" ++ 10 ∷ k
cards_of_unit (w ∷ ws) k = cards w.label w.text ++ cards_of_unit ws k

abbrev pub cards_of_units : List (List Written) → List ℕ
cards_of_units [] = []
cards_of_units (u ∷ us) = cards_of_unit u (cards_of_units us)

-- how many continuations a text needs, where so many columns are left
abbrev pub breaks : ℕ → List ℕ → ℕ
breaks left [] = 0
breaks (suc left) (c ∷ text) = breaks left text
breaks zero (c ∷ text) = suc (breaks 65 text)

abbrev pub blanks : ℕ → List ℕ
blanks zero = []
blanks (suc n) = 32 ∷ blanks n

-- a text with blanks up to the end of its last card
abbrev pub filled : ℕ → List ℕ → List ℕ
filled left [] = blanks left
filled (suc left) (c ∷ text) = c ∷ filled left text
filled zero (c ∷ text) = c ∷ filled 65 text

-- what stands on the first card, behind what is there already
abbrev pub first_piece : List ℕ → ℕ → List ℕ → List ℕ
first_piece q left [] = q ++ blanks left
first_piece q (suc left) (c ∷ text) = first_piece (q ++ c ∷ []) left text
first_piece q zero (c ∷ text) = q

abbrev pub label_if : ℕ → Option ℕ
label_if l = if l == 0 then None else Some l

-- the statements of a unit from a line on, and what comes behind its END line
abbrev pub unit_lines : ℕ → List Written → (ℕ → List CardLine) → List CardLine
unit_lines n [] k = end_line n ∷ k (n + 1)
unit_lines n (w ∷ ws) k = record { label = label_if w.label; text = filled 66 w.text; place = at n; last = false } ∷ unit_lines (n + 1 + breaks 66 w.text) ws k

abbrev pub deck_lines : ℕ → List (List Written) → List CardLine
deck_lines n [] = []
deck_lines n (u ∷ us) = unit_lines n u (λ (m : ℕ). deck_lines m us)

-- what may be written: a label of five digits, a text of twenty cards that may stand on them, and whose first card is
-- neither blank nor an END line
pub record IsWritable (w : Written) : Type 0 where
  pub label : w.label ≤ 99999
  pub printable : list_all is_printable w.text ≡ true
  pub short : breaks 66 w.text ≤ 19
  pub seen : list_all is_blank (first_piece [] 66 w.text) ≡ false
  pub no_end : is_spread (codes "END") (first_piece [] 66 w.text) ≡ false

abbrev pub statements_of : List (List Written) → ℕ
statements_of [] = 0
statements_of (u ∷ us) = length u + statements_of us
