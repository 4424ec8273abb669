-- The most bytes that the cards of plain units have.
use Rattle.std.specs.Prelude.{ℕ, ◌+◌, ◌*◌, List, [], ◌∷◌, length}
use Rattle.f66_tree.specs.Syntax.{Item, Act, Assign, Invoke, Read, Write, Format, Typed, Line, Routine}
use Rattle.f66_names.specs.Uses.{many}
use Rattle.plain_decks.specs.Few.{entries_of, dummies_of}

-- of a statement 60, and 15 more for each operand in a list, or 8 for each name that it declares; and of a FORMAT those of twenty cards
abbrev pub act_bytes : Act → ℕ
act_bytes (Assign x (Item f es)) = 60 + 15 * many es
act_bytes (Invoke x es) = 60 + 15 * many es
act_bytes (Read u l es) = 60 + 15 * entries_of es
act_bytes (Write u l es) = 60 + 15 * entries_of es
act_bytes (Format fs) = 1454
act_bytes (Typed t ds) = 60 + 8 * length ds
act_bytes a = 60

abbrev pub lines_bytes : List Line → ℕ
lines_bytes [] = 0
lines_bytes (s ∷ lines) = act_bytes s.act + lines_bytes lines

-- a header, the statements, and the END line
abbrev pub unit_bytes : Routine → ℕ
unit_bytes u = 60 + 15 * dummies_of u.header + lines_bytes u.lines + 10

abbrev pub most_bytes : List Routine → ℕ
most_bytes [] = 0
most_bytes (u ∷ us) = unit_bytes u + most_bytes us
