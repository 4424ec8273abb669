-- The turns of a READ or WRITE: what comes for each item, and at the end (X3.9-1966, section 7.2.3.4).
use Rattle.std.specs.Prelude.{ℕ, ◌+◌, Bool, true, false, List, [], ◌∷◌, ◌++◌, replicate, length, drop, ℤ, Result, Ok, Err, Option, Some, None, nat_le, if◌then◌else◌}
use Rattle.ground.specs.declared.trap.Trap.{Trap}
use Rattle.ground.specs.declared.trap.Trap.TheVariants.{FormatMismatch, LongRecord}
use Rattle.ground.specs.declared.value.Kind.{Kind}
use Rattle.ground.specs.declared.value.Kind.TheVariants.{Integer, Logical}
use Rattle.f66_tree.specs.declared.editing.EditKind.{EditKind}
use Rattle.f66_tree.specs.declared.editing.EditKind.TheVariants.{Whole, Truth, Letter}
use Rattle.f66_tree.specs.declared.editing.Way.{Way}
use Rattle.f66_tree.specs.declared.editing.Way.TheVariants.{Reading, Writing}
use Rattle.f66_tree.specs.declared.editing.Turn.{Turn}
use Rattle.f66_tree.specs.declared.editing.Turn.TheVariants.{Ready, RecordDone}
use Rattle.f66_tree.specs.declared.editing.Mark.{Mark}
use Rattle.f66_tree.specs.declared.editing.Mark.TheVariants.{Between, Due, Complete, Over}
use Rattle.f66_tree.specs.Fields.{Step, Takes, Blanks, Chars, Slash, Fields, steps, again, has_item}
use Rattle.f66_tree.specs.Fielded.{whole_text, truth_text, letter_text, field, whole_of, truth_of, letter_of}

infixl 10 ◌>>=◌
abbrev pub ◌>>=◌ : {A B E : Type 0} → Result A E → (A → Result B E) → Result B E
(Ok x) >>= f = f x
(Err e) >>= f = Err e

-- A statement in the middle of its list. When writing, line is the record in hand; when reading, what of
-- the record in hand is not read yet.
pub record Hand : Type 0 where
  pub way : Way
  pub rest : List Step
  pub cycle : List Step
  pub line : List ℕ
  pub mark : Mark

abbrev pub started : Way → Fields → Hand
started way fs = record { way = way; rest = steps fs; cycle = steps (again fs); line = []; mark = Between }

-- a text at the end of a record, which has at most 132 characters
abbrev pub extended : List ℕ → List ℕ → Result (List ℕ) Trap
extended line text = if nat_le (length line + length text) 132 then Ok (line ++ text) else Err LongRecord

-- blanks are written, or characters are skipped
abbrev pub blanked : Way → ℕ → List ℕ → Result (List ℕ) Trap
blanked Writing n line = extended line (replicate n 32)
blanked Reading n line = Ok (drop n line)

abbrev pub lettered : Way → List ℕ → List ℕ → Result (List ℕ) Trap
lettered Writing text line = extended line text
lettered Reading text line = Err FormatMismatch

-- I and A1 take an integer, L takes a truth value
abbrev pub suits : Kind → EditKind → Bool
suits Integer Whole = true
suits Integer Truth = false
suits Integer Letter = true
suits Logical Whole = false
suits Logical Truth = true
suits Logical Letter = false

abbrev pub hand_at : Way → List Step → List Step → List ℕ → Mark → Hand
hand_at way rest cycle line mark = record { way = way; rest = rest; cycle = cycle; line = line; mark = mark }

-- the next turn for an item of this kind, with the record in hand
abbrev pub find : Way → List Step → Kind → List Step → List ℕ → Result (Turn × Hand) Trap
find way cycle k [] line = if has_item cycle then Ok (RecordDone, hand_at way cycle cycle line Complete) else Err FormatMismatch
find way cycle k (Takes j w ∷ rest) line = if suits k j then Ok (Ready j, hand_at way rest cycle line (Due j w)) else Err FormatMismatch
find way cycle k (Blanks n ∷ rest) line = blanked way n line >>= λ line1. find way cycle k rest line1
find way cycle k (Chars text ∷ rest) line = lettered way text line >>= λ line1. find way cycle k rest line1
find way cycle k (Slash ∷ rest) line = Ok (RecordDone, hand_at way rest cycle line Complete)

-- the record in hand: an empty one after a complete one
abbrev pub line_in_hand : Way → Mark → List ℕ → List ℕ
line_in_hand Writing Complete line = []
line_in_hand _ _ line = line

abbrev pub next_turn : Hand → Kind → Result (Turn × Hand) Trap
next_turn h k = find h.way h.cycle k h.rest (line_in_hand h.way h.mark h.line)

-- the end of the statement: the last record is complete, and no edit is left
abbrev pub ended_turn : Way → List Step → List ℕ → Option Turn × Hand
ended_turn Writing cycle line = (Some RecordDone, hand_at Writing [] cycle line Over)
ended_turn Reading cycle line = (None, hand_at Reading [] cycle line Over)

-- the next turn where no item is left
abbrev pub end_turn : Way → List Step → List Step → List ℕ → Result (Option Turn × Hand) Trap
end_turn way cycle [] line = Ok (ended_turn way cycle line)
end_turn way cycle (Takes j w ∷ rest) line = Ok (ended_turn way cycle line)
end_turn way cycle (Blanks n ∷ rest) line = blanked way n line >>= λ line1. end_turn way cycle rest line1
end_turn way cycle (Chars text ∷ rest) line = lettered way text line >>= λ line1. end_turn way cycle rest line1
end_turn way cycle (Slash ∷ rest) line = Ok (Some RecordDone, hand_at way rest cycle line Complete)

abbrev pub is_over : Mark → Bool
is_over Over = true
is_over _ = false

abbrev pub last_turn : Hand → Result (Option Turn × Hand) Trap
last_turn h = if is_over h.mark then Ok (None, h) else end_turn h.way h.cycle h.rest (line_in_hand h.way h.mark h.line)

-- the next record of a READ
abbrev pub with_record : Hand → List ℕ → Hand
with_record h bytes = record h { line = bytes; mark = Between }

abbrev pub width_of : Mark → ℕ
width_of (Due k w) = w
width_of _ = 0

-- a text stands in the record in hand
abbrev pub put_text : Hand → List ℕ → Result Hand Trap
put_text h text = extended h.line text >>= λ line. Ok (record h { line = line; mark = Between })

abbrev pub put_whole : Hand → ℤ → Result Hand Trap
put_whole h n = put_text h (whole_text (width_of h.mark) n)

abbrev pub put_truth : Hand → Bool → Result Hand Trap
put_truth h b = put_text h (truth_text (width_of h.mark) b)

abbrev pub with_letter : ℤ → List ℕ → Result (List ℕ) Trap
with_letter n line = letter_text n >>= λ text. extended line text

abbrev pub put_letter : Hand → ℤ → Result Hand Trap
put_letter h n = with_letter n h.line >>= λ line. Ok (record h { line = line; mark = Between })

-- behind the field
abbrev pub past : Hand → Hand
past h = record h { line = drop (width_of h.mark) h.line; mark = Between }

abbrev pub take_whole : Hand → Result (ℤ × Hand) Trap
take_whole h = whole_of (field (width_of h.mark) h.line) >>= λ n. Ok (n, past h)

abbrev pub take_truth : Hand → Result (Bool × Hand) Trap
take_truth h = truth_of (field (width_of h.mark) h.line) >>= λ b. Ok (b, past h)

abbrev pub take_letter : Hand → Result (ℤ × Hand) Trap
take_letter h = letter_of (field 1 h.line) >>= λ n. Ok (n, past h)
