-- No text of a unit that fits its cards is too long.
use Rattle.std.proofs.Common.{◌≡◌, ℕ, ◌≤◌, false, List, [], ◌∷◌, length, Option, None, refl, ap, ◌∙◌}
use Rattle.std.specs.Prelude.{nat_lt}
use Rattle.std.specs.List.{AllByRecursion}
use Rattle.std.proofs.lemmas.Bool.{le-ltb}
use Rattle.ground.specs.declared.fault.Fault.{Fault}
use Rattle.ground.specs.declared.place.Place.{Place}
use Rattle.f66_tree.specs.Syntax.{Line, Routine}
use Rattle.stmt_text.specs.Fitting.{FitsCards, IsPrintable}
use Rattle.stmt_text.specs.Texts.{header_text, statement_text}
use Rattle.deck.specs.LongTexts.{or_else, fault_of_text, fault_of_line, fault_of_header, first_fault, fault_of_unit, fault_of_deck}

text_passes : (place : Place) (text : List ℕ) → length text ≤ 1320 → fault_of_text place text ≡ None
text_passes place text short = let no : nat_lt 1320 (length text) ≡ false = le-ltb 1320 (length text) short in rw no refl

both_pass : (a b : Option Fault) → a ≡ None → b ≡ None → or_else a b ≡ None
both_pass a b first second = ap (λ (o : Option Fault). or_else o b) first ∙ second

lines_pass : (lines : List Line) → AllByRecursion FitsCards lines → first_fault fault_of_line lines ≡ None
lines_pass [] fit = refl
lines_pass (line ∷ lines) fit = both_pass (fault_of_line line) (first_fault fault_of_line lines) (text_passes line.place (statement_text line.act) fit.0) (lines_pass lines fit.1)

pub units_pass : (units : List Routine) → AllByRecursion IsPrintable units → fault_of_deck units ≡ None
units_pass [] fit = refl
units_pass (unit ∷ units) fit =
    both_pass (fault_of_unit unit) (first_fault fault_of_unit units)
    (both_pass (fault_of_header unit.place unit.header) (first_fault fault_of_line unit.lines) (text_passes unit.place (header_text unit.header) fit.0.header) (lines_pass unit.lines fit.0.lines)) (units_pass units fit.1)
