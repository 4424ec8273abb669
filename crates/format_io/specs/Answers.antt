-- What calls answer, and what they leave.
use Rattle.std.specs.Prelude.{◌≡◌, ℕ, ◌<◌, List, length, Result, Ok, Err, Option, Some, None}
use Rattle.ground.specs.declared.trap.Trap.{Trap}
use Rattle.f66_tree.specs.declared.editing.Turn.{Turn}
use Rattle.ground.specs.declared.value.Kind.{Kind}
use Rattle.f66_tree.specs.declared.editing.Way.{Way}
use Rattle.f66_tree.specs.declared.editing.Way.TheVariants.{Reading, Writing}
use Rattle.f66_tree.specs.declared.editing.EditKind.{EditKind}
use Rattle.f66_tree.specs.declared.editing.Mark.{Mark}
use Rattle.f66_tree.specs.declared.editing.Mark.TheVariants.{Between, Due}
use Rattle.f66_tree.specs.Fields.{Fields}
use Rattle.f66_tree.specs.Turns.{Hand, find, end_turn, ended_turn, line_in_hand}
use Rattle.format_io.specs.Places.{Stand, hand_of}

-- a call did to the record in hand what the definition says
abbrev pub Writes : Result (Unit {0}) Trap → List ℕ → Result (List ℕ) Trap → Type 0
Writes (Ok u) new said = said ≡ Ok new
Writes (Err e) new said = said ≡ Err e

-- the record in hand
abbrev pub line_in : Way → List ℕ → List ℕ → List ℕ
line_in Writing output input = output
line_in Reading output input = input

-- the edit that waits
abbrev pub due_of : Mark → Option EditKind
due_of (Due k w) = Some k
due_of _ = None

-- a turn as the definition has it, and the hand after it
abbrev pub Answers : {A : Type 0} → Fields → Result A Trap → Stand → Result (A × Hand) Trap → Type 0
Answers fs (Ok t) new said = said ≡ Ok (t, hand_of fs new)
Answers fs (Err e) new said = said ≡ Err e

-- ready to go on: an empty record after a complete one
abbrev pub opened : Hand → Hand
opened h = record h { line = line_in_hand h.way h.mark h.line; mark = Between }

abbrev pub seeks : Hand → Kind → Result (Turn × Hand) Trap
seeks h k = find h.way h.cycle k h.rest h.line

-- one step of the walk: a turn, or further on towards the same one
abbrev pub StepsTo : Result (Option Turn) Trap → Hand → Hand → Kind → Type 0
StepsTo (Err e) old new k = seeks old k ≡ Err e
StepsTo (Ok (Some t)) old new k = seeks old k ≡ Ok (t, new)
StepsTo (Ok None) old new k = (seeks old k ≡ seeks new k) × (length new.rest < length old.rest)

abbrev pub ends : Hand → Result (Option Turn × Hand) Trap
ends h = end_turn h.way h.cycle h.rest h.line

-- one step where no item is left: an answer, or further on towards the same one
abbrev pub EndsTo : Result (Option (Option Turn)) Trap → Hand → Hand → Type 0
EndsTo (Err e) old new = ends old ≡ Err e
EndsTo (Ok (Some t)) old new = ends old ≡ Ok (t, new)
EndsTo (Ok None) old new = (ends old ≡ ends new) × (length new.rest < length old.rest)

-- what a put leaves
abbrev pub Puts : Fields → Result (Unit {0}) Trap → Stand → Result Hand Trap → Type 0
Puts fs (Ok u) new said = said ≡ Ok (hand_of fs new)
Puts fs (Err e) new said = said ≡ Err e

abbrev pub ClosesTo : Option Turn → Hand → Hand → Type 0
ClosesTo t old new = ended_turn old.way old.cycle old.line ≡ (t, new)
