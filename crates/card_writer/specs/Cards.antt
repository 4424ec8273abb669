-- The cards of a statement (X3.9-1966, sections 3.2.1 to 3.2.4).
use Rattle.std.specs.Prelude.{ℕ, zero, suc, ◌+◌, ◌/◌, ◌%◌, List, [], ◌∷◌, ◌++◌, nat_lt, if◌then◌else◌}

-- a column of a label's field: the digit of its power of ten, or a blank where the label has no digit there
abbrev pub label_column : ℕ → ℕ → ℕ
label_column label power = if nat_lt label power then 32 else 48 + label / power % 10

-- columns 1 to 5, with the label at their right end, and blanks where it is zero
abbrev pub label_field : ℕ → List ℕ
label_field label = label_column label 10000 ∷ label_column label 1000 ∷ label_column label 100 ∷ label_column label 10 ∷ label_column label 1 ∷ []

-- column 6 of a continuation: 1 to 9, then A to J
abbrev pub mark : ℕ → ℕ
mark n = if nat_lt n 10 then 48 + n else 55 + n

-- columns 1 to 6 of a continuation
abbrev pub continuation_front : ℕ → List ℕ
continuation_front n = 32 ∷ 32 ∷ 32 ∷ 32 ∷ 32 ∷ mark n ∷ []

-- The columns that follow, where so many are left up to column 72: a character that has none left stands in column 7 of a
-- continuation, of which this is the number of the next.
abbrev pub columns : ℕ → ℕ → List ℕ → List ℕ
columns left next [] = 10 ∷ []
columns (suc left) next (c ∷ text) = c ∷ columns left next text
columns zero next (c ∷ text) = 10 ∷ (continuation_front next ++ c ∷ columns 65 (suc next) text)

-- the cards of a statement, each with its byte 10
abbrev pub cards : ℕ → List ℕ → List ℕ
cards label text = label_field label ++ 32 ∷ columns 66 1 text
