-- The statements that the cards of a deck give, up to the first card that breaks a rule (X3.9-1966, sections 3.1 to 3.4).
use Rattle.std.specs.Prelude.{ℕ, zero, suc, ◌+◌, Bool, true, false, ◌==◌, ◌||◌, List, [], ◌∷◌, ◌++◌, length, map, Option, Some, None, nat_lt, if◌then◌else◌}
use Rattle.ground.specs.declared.place.Place.{Place}
use Rattle.ground.specs.declared.fault.Fault.{Fault}
use Rattle.ground.specs.declared.fault.FaultKind.TheVariants.{BadCard}
use Rattle.ground.specs.Faults.{fault_at, limit_at}
use Rattle.ports.specs.Records.{input_records}
use Rattle.card_reader.specs.declared.cards.CardKind.{CardKind}
use Rattle.card_reader.specs.declared.cards.CardKind.TheVariants.{Wrong, Comment, Continuation, Ending, Initial}
use Rattle.card_reader.specs.declared.counts.Counts.{Counts}
use Rattle.card_reader.specs.Cards.{card, kind_of, piece_of}

-- a statement, or an END line
pub record CardLine : Type 0 where
  pub label : Option ℕ
  pub text : List ℕ
  pub place : Place
  pub last : Bool

-- what cards give: the text of the continuations that come first, the statements, and the fault where there is one
pub record Reading : Type 0 where
  pub front : List ℕ
  pub lines : List CardLine
  pub fault : Option Fault

abbrev pub at : ℕ → Place
at n = record { file = 0; line = n }

abbrev pub bad_card : ℕ → Fault
bad_card n = fault_at (at n) BadCard

abbrev pub over_limit : ℕ → ℕ → Fault
over_limit n limit = limit_at (at n) limit

abbrev pub stops : Fault → Reading
stops f = record { front = []; lines = []; fault = Some f }

-- a continuation, and what follows
abbrev pub goes_on : List ℕ → Reading → Reading
goes_on piece r = record { front = piece ++ r.front; lines = r.lines; fault = r.fault }

-- an initial card with its label, and what follows
abbrev pub begins : ℕ → Option ℕ → List ℕ → Reading → Reading
begins n label piece r = record { front = []; lines = record { label = label; text = piece ++ r.front; place = at n; last = false } ∷ r.lines; fault = r.fault }

abbrev pub end_line : ℕ → CardLine
end_line n = record { label = None; text = []; place = at n; last = true }

abbrev pub ends : ℕ → Reading → Reading
ends n r = record { front = []; lines = end_line n ∷ r.lines; fault = r.fault }

-- what was counted before the first card, and behind an initial card and an END line
abbrev pub no_counts : Counts
no_counts = record { unfinished = false; units = 0; statements = 0 }

abbrev pub units_begun : Counts → ℕ
units_begun c = if c.unfinished then c.units else c.units + 1

abbrev pub after_initial : Counts → Counts
after_initial c = record { unfinished = true; units = units_begun c; statements = c.statements + 1 }

abbrev pub after_end : Counts → Counts
after_end c = record { unfinished = false; units = units_begun c; statements = c.statements }

-- the number of the limit that is passed: of units, or of statements
abbrev pub passed : Counts → Option ℕ
passed c = if nat_lt 600 c.units then Some 5 else (if nat_lt 2000000 c.statements then Some 12 else None)

abbrev pub unless_passed : ℕ → Option ℕ → Reading → Reading
unless_passed n (Some limit) r = stops (over_limit n limit)
unless_passed n None r = r

-- What a card of this kind and the cards behind it give, where so many continuations may come here. What those behind it
-- give goes by how many may come there, 19 behind an initial card, and by what was counted.
abbrev pub taken : CardKind → List ℕ → ℕ → Counts → ℕ → (ℕ → Counts → Reading) → Reading
taken Wrong piece left c n rest = stops (bad_card n)
taken Comment piece left c n rest = rest 0 c
taken Continuation piece zero c n rest = stops (bad_card n)
taken Continuation piece (suc left) c n rest = goes_on piece (rest left c)
taken Ending piece left c n rest = unless_passed n (passed (after_end c)) (ends n (rest 0 (after_end c)))
taken (Initial label) piece left c n rest = unless_passed n (passed (after_initial c)) (begins n label piece (rest 19 (after_initial c)))

-- The statements of cards from this line on, where so many continuations may come first. A deck ends with an END line.
abbrev pub read_cards : ℕ → Counts → ℕ → List (List ℕ) → Reading
read_cards left c n [] = record { front = []; lines = []; fault = if c.unfinished || c.units == 0 then Some (bad_card n) else None }
read_cards left c n (columns ∷ cards) = taken (kind_of columns) (piece_of columns) left c n (λ (more : ℕ) (next : Counts). read_cards more next (n + 1) cards)

-- the statements of a deck
abbrev pub read_deck_cards : List ℕ → Reading
read_deck_cards bytes = if nat_lt 134217728 (length bytes) then stops (over_limit 0 1) else read_cards 0 no_counts 1 (map card (input_records bytes))
