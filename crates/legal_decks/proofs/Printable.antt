-- Where no text of a deck is too long, each unit fits its cards.
use Rattle.std.proofs.Common.{◌≡◌, List, [], ◌∷◌, None}
use Rattle.std.specs.List.{All, AllByRecursion}
use Rattle.std.proofs.lemmas.List.Elements.{All-nil, All-cons}
use Rattle.f66_tree.specs.Syntax.{Line, Routine}
use Rattle.stmt_text.specs.Fitting.{FitsCards, IsPrintable}
use Rattle.stmt_text.specs.Texts.{header_text, statement_text}
use Rattle.deck.specs.LongTexts.{fault_of_line, fault_of_header, first_fault, fault_of_unit, fault_of_deck}
use Rattle.deck_laws.proofs.CardBytes.{text_short}
use Rattle.deck_laws.proofs.WritableLines.{none_both}

lines_fit : (lines : List Line) → first_fault fault_of_line lines ≡ None → AllByRecursion FitsCards lines
lines_fit [] is = tt
lines_fit (line ∷ lines) is = let parts = none_both (fault_of_line line) (first_fault fault_of_line lines) is in (text_short line.place (statement_text line.act) parts.0, lines_fit lines parts.1)

unit_fits : (unit : Routine) → fault_of_unit unit ≡ None → IsPrintable unit
unit_fits unit is =
    let parts = none_both (fault_of_header unit.place unit.header) (first_fault fault_of_line unit.lines) is in
    record { header = text_short unit.place (header_text unit.header) parts.0; lines = lines_fit unit.lines parts.1 }

pub all_printable : (units : List Routine) → fault_of_deck units ≡ None → All IsPrintable units
all_printable [] is = All-nil IsPrintable
all_printable (unit ∷ units) is =
    let parts = none_both (fault_of_unit unit) (fault_of_deck units) is in
    All-cons IsPrintable unit units (unit_fits unit parts.0) (all_printable units parts.1)
