-- What is answered for a line of a deck: its statement, its header, or its fault.
use Rattle.std.specs.Prelude.{◌≡◌, ⊤, ℕ, Bool, true, false, List, Option, Some, None, if◌then◌else◌}
use Rattle.ground.specs.declared.place.Place.{Place}
use Rattle.ground.specs.declared.fault.FaultKind.{FaultKind}
use Rattle.ground.specs.declared.fault.FaultKind.TheVariants.{Limit}
use Rattle.ground.specs.declared.fault.Refusal.{Refusal}
use Rattle.ground.specs.declared.fault.Refusal.TheVariants.{Fault as AFault, Memory}
use Rattle.f66_tree.specs.Syntax.{Act, Header, Line}
use Rattle.card_reader.specs.Reading.{CardLine}
use Rattle.stmt_reader.specs.declared.token.Token.{Token}
use Rattle.stmt_reader.specs.Faults.{Answer, Read, Refused, HeaderAnswer, NoHeader, HeaderRead, HeaderRefused, answer_of, is_too_deep, text_answer}
use Rattle.stmt_reader.specs.Statements.{statement_of}

-- what tokens say, or their fault
abbrev pub tokens_answer : List Token → Answer
tokens_answer tokens = if is_too_deep 0 tokens then Refused Limit 3 else answer_of tokens (statement_of tokens)

-- the statement that a line's text says, with the line's label and place
pub record IsRead (line : CardLine) (s : Line) : Type 0 where
  pub act : text_answer line.text ≡ Read s.act
  pub label : s.label ≡ line.label
  pub place : s.place ≡ line.place

-- a refusal is the fault of an answer, at this place, if it is not for want of memory
abbrev pub IsRefusal : Answer → Place → Refusal → Type 0
IsRefusal answer place Memory = ⊤
IsRefusal answer place (AFault f) = (answer ≡ Refused f.kind f.number) × (f.place ≡ place)

-- a statement, unless it has a fault
abbrev pub answered : Option FaultKind → Act → Answer
answered None a = Read a
answered (Some f) a = Refused f 0

abbrev pub has_label : Option ℕ → Bool
has_label None = false
has_label (Some label) = true

abbrev pub header_read : Option Header → HeaderAnswer
header_read None = NoHeader
header_read (Some h) = HeaderRead h

-- a header, unless it has a fault
abbrev pub header_answered : Option FaultKind → Header → HeaderAnswer
header_answered None h = HeaderRead h
header_answered (Some f) h = HeaderRefused f

abbrev pub IsHeaderRefusal : HeaderAnswer → Place → Refusal → Type 0
IsHeaderRefusal answer place Memory = ⊤
IsHeaderRefusal answer place (AFault f) = (answer ≡ HeaderRefused f.kind) × (f.place ≡ place) × (f.number ≡ 0)
