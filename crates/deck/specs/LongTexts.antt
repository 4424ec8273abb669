-- Where a text first passes the 1,320 characters of twenty cards (X3.9-1966, section 3.2.4), which is limit 9.
use Rattle.std.specs.Prelude.{◌≡◌, ℕ, List, [], ◌∷◌, length, nat_lt, Option, Some, None, if◌then◌else◌}
use Rattle.ground.specs.declared.fault.Fault.{Fault}
use Rattle.ground.specs.declared.fault.Refusal.{Refusal}
use Rattle.ground.specs.declared.fault.Refusal.TheVariants as refusals
use Rattle.ground.specs.declared.place.Place.{Place}
use Rattle.ground.specs.Faults.{limit_at}
use Rattle.f66_tree.specs.Syntax.{Header, Line, Routine}
use Rattle.stmt_text.specs.Texts.{header_text, statement_text}

abbrev pub limit_nine : Place → Option Fault
limit_nine place = Some (limit_at place 9)

-- the fault of a text that is too long
abbrev pub fault_of_text : Place → List ℕ → Option Fault
fault_of_text place text = if nat_lt 1320 (length text) then limit_nine place else None

abbrev pub fault_of_line : Line → Option Fault
fault_of_line line = fault_of_text line.place (statement_text line.act)

-- a header stands at its unit's place
abbrev pub fault_of_header : Place → Header → Option Fault
fault_of_header place header = fault_of_text place (header_text header)

-- the first of two
abbrev pub or_else : Option Fault → Option Fault → Option Fault
or_else (Some fault) later = Some fault
or_else None later = later

abbrev pub first_fault : {A : Type 0} → (A → Option Fault) → List A → Option Fault
first_fault fault [] = None
first_fault fault (a ∷ all) = or_else (fault a) (first_fault fault all)

abbrev pub fault_of_unit : Routine → Option Fault
fault_of_unit unit = or_else (fault_of_header unit.place unit.header) (first_fault fault_of_line unit.lines)

abbrev pub fault_of_deck : List Routine → Option Fault
fault_of_deck units = first_fault fault_of_unit units

-- that a refusal is this fault, if it is not for want of memory
abbrev pub Refuses : Option Fault → Refusal → Type 0
Refuses fault refusals.Memory = Unit {0}
Refuses fault (refusals.Fault f) = fault ≡ Some f
