-- What was read so far, with what is still to come.
use Rattle.std.specs.Prelude.{◌≡◌, ℕ, zero, suc, false, List, [], ◌∷◌, ◌++◌, map, Option, Some, None}
use Rattle.ground.specs.declared.fault.Fault.{Fault}
use Rattle.ground.specs.declared.fault.Refusal.{Refusal}
use Rattle.ground.specs.declared.fault.Refusal.TheVariants as refusals
use Rattle.card_reader.specs.declared.counts.Counts.{Counts}
use Rattle.card_reader.specs.declared.reader.Line.{Line}
use Rattle.card_reader.specs.declared.reader.Draft.{Draft}
use Rattle.card_reader.specs.Reading.{CardLine, Reading, at, bad_card, over_limit, read_cards}

abbrev pub card_line_of : Line → CardLine
card_line_of l = record { label = l.label; text = l.text; place = l.place; last = l.last }

abbrev pub card_lines_of : List Line → List CardLine
card_lines_of all = map card_line_of all

-- that a refusal is the fault, if it is not for want of memory
abbrev pub Refuses : Option Fault → Refusal → Type 0
Refuses fault refusals.Memory = Unit {0}
Refuses fault (refusals.Fault f) = fault ≡ Some f

-- a statement that may still have continuations, as many as are left
pub record Begun : Type 0 where
  pub label : Option ℕ
  pub text : List ℕ
  pub number : ℕ
  pub left : ℕ

abbrev pub begun_of : Draft → Begun
begun_of d = record { label = d.label; text = d.text.items; number = d.number; left = d.left }

abbrev pub begun_if : Option Draft → Option Begun
begun_if None = None
begun_if (Some d) = Some (begun_of d)

abbrev pub left_of : Option Begun → ℕ
left_of None = 0
left_of (Some d) = d.left

-- the statement, with the text of the continuations that follow
abbrev pub whole_line : Begun → List ℕ → CardLine
whole_line d front = record { label = d.label; text = d.text ++ front; place = at d.number; last = false }

abbrev pub behind : Option Begun → Reading → List CardLine
behind None r = r.lines
behind (Some d) r = whole_line d r.front ∷ r.lines

-- the statements and the fault of a deck
pub record Told : Type 0 where
  pub lines : List CardLine
  pub fault : Option Fault

abbrev pub told_with : List CardLine → Option Begun → Reading → Told
told_with lines d r = record { lines = lines ++ behind d r; fault = r.fault }

-- those that were read, and what the cards from a line on give
abbrev pub told : List CardLine → Option Begun → Counts → ℕ → List (List ℕ) → Told
told lines d c n cards = told_with lines d (read_cards (left_of d) c n cards)

-- behind a comment
abbrev pub ended : Option Begun → Option Begun
ended None = None
ended (Some d) = Some (record { label = d.label; text = d.text; number = d.number; left = 0 })

-- behind a continuation, if one may come
abbrev pub continued : Option Begun → List ℕ → Option Begun
continued None piece = None
continued (Some d) piece = elim (d.left) [ zero ↦ None | suc left ↦ Some (record { label = d.label; text = d.text ++ piece; number = d.number; left = left }) ]

abbrev pub finished : Option Begun → List CardLine
finished None = []
finished (Some d) = record { label = d.label; text = d.text; place = at d.number; last = false } ∷ []

-- that a refusal is BadCard at this card, which is right where no continuation may come
abbrev pub IsLateCard : Option Begun → ℕ → Refusal → Type 0
IsLateCard next n refusals.Memory = Unit {0}
IsLateCard next n (refusals.Fault f) = (next ≡ None) × (f ≡ bad_card n)

-- the fault at a card by which a limit is passed
abbrev pub limit_fault : ℕ → Option ℕ → Option Fault
limit_fault n None = None
limit_fault n (Some l) = Some (over_limit n l)
