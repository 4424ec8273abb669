-- A text becomes few units, and few statements in all of them together.
use Rattle.std.proofs.Common.{◌≡◌, ◌≤◌, ℕ, ◌+◌, ◌*◌, arith, List, [], ◌∷◌, length, length-append, map, sym, subst}
use Rattle.std.proofs.lemmas.List.{length-map}
use Rattle.ground.specs.declared.place.Place.{Place}
use Rattle.f66_tree.specs.Syntax.{Text, Header, MainUnit, SubUnit, FuncUnit, DataUnit, Line, Routine}
use Rattle.rat_tree.specs.Syntax.{RatRoutine}
use Rattle.rat_lower.specs.Code.{unit_code}
use Rattle.rat_room.proofs.Lines.{lines_in, unit_length}
use Rattle.rat_room.proofs.LineWeights.{lines_of_units}
use Rattle.rat_room.proofs.TextLines.{text_lines}
use Rattle.deck.specs.Written.{statements_of, written_header, written_line, written_unit}
use Rattle.deck_room.specs.Printed.{printed, ArePrinted, PrintedAreFew}

pub header_one : (h : Header) → length (written_header h) ≤ 1
header_one MainUnit = omega arith
header_one (SubUnit x ds) = omega arith
header_one (FuncUnit w x ds) = omega arith
header_one DataUnit = omega arith

pub one_unit : (made : ℕ → ℕ) (spare : Text) (last : Place) (u : RatRoutine) → length (written_unit (printed made spare last u)) ≤ lines_in u.body + 3
one_unit made spare last u =
    let code : List Line = unit_code made spare u.header u.place last u.body in
    omega (arith, length-append (written_header u.header) (map written_line code), length-map code written_line, header_one u.header, unit_length made spare u.header u.place last u.body)

-- what a unit has by its definition it has
pub of_printed : (Good : RatRoutine → Routine → Type 0) → ((made : ℕ → ℕ) (spare : Text) (last : Place) (u : RatRoutine) → Good u (printed made spare last u)) →
    (last : Place) (u : RatRoutine) (unit : Routine) → ((made : ℕ → ℕ) × (spare : Text) × (unit ≡ printed made spare last u)) → Good u unit
of_printed Good good last u unit h = subst (λ r. Good u r) (sym h.2) (good h.0 h.1 last u)

few_statements : (last : Place) (us : List RatRoutine) (units : List Routine) → ArePrinted last us units → statements_of (map written_unit units) ≤ lines_of_units us + 3 * length units
few_statements last [] [] h = omega arith
few_statements last [] (unit ∷ units) h = absurd h
few_statements last (u ∷ us) [] h = absurd h
few_statements last (u ∷ us) (unit ∷ units) h =
    omega (arith, of_printed (λ u r. length (written_unit r) ≤ lines_in u.body + 3) one_unit last u unit h.0, few_statements last us units h.1)

pub same_many : (last : Place) (us : List RatRoutine) (units : List Routine) → ArePrinted last us units → length units ≡ length us
same_many last [] [] h = omega arith
same_many last [] (unit ∷ units) h = absurd h
same_many last (u ∷ us) [] h = absurd h
same_many last (u ∷ us) (unit ∷ units) h = omega (arith, same_many last us units h.1)

pub printed_are_few : PrintedAreFew
printed_are_few ts tree last units accepted made = omega (arith, few_statements last tree.routines units made, text_lines ts tree accepted)
