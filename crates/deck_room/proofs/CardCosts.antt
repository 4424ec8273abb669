-- The cards of a statement that is read back, and whose names have six characters at most, cost no more than what it says.
use Rattle.std.proofs.Common.{◌≡◌, ℕ, zero, suc, ◌+◌, ◌/◌, ◌%◌, ◌≤◌, Bool, true, false, List, [], ◌∷◌, ◌++◌, length, length-append, Option, Some, None, refl, arith}
use Rattle.std.specs.Prelude.{◌==◌, ◌||◌, nat_lt, codes, decimal, unsigned_abs, unwrap_or, if◌then◌else◌}
use Rattle.std.specs.Fmt.{digits, digits_onto, digit_glyph}
use Rattle.std.specs.List.{flat_map, list_any, AllByRecursion}
use Rattle.std.proofs.lemmas.Bool.{ltb-false}
use Rattle.ground.specs.declared.place.Place.{Place}
use Rattle.f66_tree.specs.declared.declaration.TypeWord.{TypeWord}
use Rattle.f66_tree.specs.declared.declaration.TypeWord.TheVariants.{Integer, Logical, Other}
use Rattle.f66_tree.specs.declared.expression.Operator.{Operator}
use Rattle.f66_tree.specs.declared.expression.Operator.TheVariants.{Add, Sub, Mul, Div, Power, Lt, Le, Eq, Ne, Ge, Gt, And, Or}
use Rattle.f66_tree.specs.Syntax.{Text, Formula, Int, Truth, Letter, Ref, Group, Pair, Par, Declared, Header, MainUnit, SubUnit, FuncUnit, DataUnit, Area, Act, Goto, When, Line, Routine}
use Rattle.stmt_text.specs.Texts.{operator_text, truth_text, formula_text, type_text, commas, declared_text, areas_text, statement_text, header_text}
use Rattle.stmt_text.proofs.TextLengths.{length-decimal}
use Rattle.card_writer.specs.Cards.{cards}
use Rattle.stmt_reader.specs.Faults.{too_long, formula_has, declared_has, area_has, act_has}
use Rattle.deck.specs.Decks.{statement_cards, header_cards, end_line, unit_cards, deck_of}
use Rattle.deck.specs.LongTexts.{fault_of_line, fault_of_header, first_fault, fault_of_unit, fault_of_deck}
use Rattle.deck.specs.ReadableStatements.{IsReadableDeclared, IsReadableArea, AreSome, IsReadableBranch, assignment, jump, computed, sign, bare_call, call, read, write, continuation, stop, stop_number, return, IsReadableAct, branch, conditional, loop, format, typed, dimension, common, equivalence, preset}
use Rattle.deck_laws.specs.Fitting.{HasShortNames, IsFittingLine, IsFittingUnit}
use Rattle.deck_laws.specs.Headers.{IsReadableHeader}
use Rattle.deck_laws.proofs.CardBytes.{cards_low, cards_few, text_short}
use Rattle.deck_laws.proofs.WritableLines.{none_both}
use Rattle.rat_room.proofs.Weights.{total}
use Rattle.deck_room.proofs.Costs.{test_cost, when_cost, declared_worth, area_worth, act_cost, line_cost, header_cost, unit_cost}

-- ---- names and numbers ----

parts : (a b : Bool) → (a || b) ≡ false → (a ≡ false) × (b ≡ false)
parts true b is = absurd cc
parts false b is = (refl, is)

name_low : (x : Text) → nat_lt 6 (length x) ≡ false → length x ≤ 6
name_low x short = ltb-false 6 (length x) short

octal_onto : (k : ℕ) (n : ℕ) (text : List ℕ) → length (digits_onto k 8 false n text) ≤ k + length text
octal_onto zero n text = omega arith
octal_onto (suc k) n text = by (n / 8 == 0) (octal_onto k (n / 8) (digit_glyph false (n % 8) ∷ text))
  where
    front : List ℕ
    front = digit_glyph false (n % 8) ∷ text

    by : (v : Bool) → length (digits_onto k 8 false (n / 8) front) ≤ k + suc (length text) → length (if v then front else digits_onto k 8 false (n / 8) front) ≤ suc k + length text
    by true h = omega arith
    by false h = omega (arith, h)

octal_low : (n : ℕ) → length (digits 8 false n) ≤ 64
unfolding digits
octal_low n = omega (arith, octal_onto 64 n [])

-- ---- the test of a case ----

operator_low : (op : Operator) (k : List ℕ) → length (operator_text op ++ k) ≤ 5 + length k
operator_low Add k = omega arith
operator_low Sub k = omega arith
operator_low Mul k = omega arith
operator_low Div k = omega arith
operator_low Power k = omega arith
operator_low Lt k = omega arith
operator_low Le k = omega arith
operator_low Eq k = omega arith
operator_low Ne k = omega arith
operator_low Ge k = omega arith
operator_low Gt k = omega arith
operator_low And k = omega arith
operator_low Or k = omega arith

truth_low : (b : Bool) (k : List ℕ) → length (truth_text b ++ k) ≤ 64 + length k
truth_low true k = omega arith
truth_low false k = omega arith

-- what stands behind a case expression
abbrev behind : ℕ → List ℕ
behind l = 41 ∷ 41 ∷ (codes "GO TO " ++ decimal l ++ [])

test_low : (label : ℕ) (op : Operator) (x : Text) (e : Formula) (l : ℕ) → nat_lt 6 (length x) ≡ false → length (formula_text e (behind l)) ≤ 64 + length (behind l) →
    length (cards label (statement_text (When (Pair op (Ref x) (Group e)) (Goto l)))) ≤ 960
test_low label op x e l short low =
    let inside : List ℕ = 40 ∷ formula_text e (behind l) in
    omega (
      arith,
      cards_low label (statement_text (When (Pair op (Ref x) (Group e)) (Goto l))),
      length-append x (operator_text op ++ inside),
      operator_low op inside,
      name_low x short,
      low,
      length-decimal l [],
    )

test_cards : (label : ℕ) (e : Formula) (l : ℕ) → formula_has too_long e ≡ false → length (statement_text (When e (Goto l))) ≤ 1320 → length (cards label (statement_text (When e (Goto l)))) ≤ test_cost e
test_cards label (Pair op (Ref x) (Group (Int z))) l short few =
    test_low label op x (Int z) l (parts (nat_lt 6 (length x)) (formula_has too_long (Int z)) short).0 (length-decimal (unsigned_abs z) (behind l))
test_cards label (Pair op (Ref x) (Group (Truth b))) l short few = test_low label op x (Truth b) l (parts (nat_lt 6 (length x)) false short).0 (truth_low b (behind l))
test_cards label (Pair op (Ref x) (Group (Letter c))) l short few = test_low label op x (Letter c) l (parts (nat_lt 6 (length x)) false short).0 (omega arith)
test_cards label (Pair op (Ref x) (Group (Ref y))) l short few =
    let both = parts (nat_lt 6 (length x)) (nat_lt 6 (length y)) short in
    test_low label op x (Ref y) l both.0 (omega (arith, length-append y (behind l), name_low y both.1))
test_cards label (Pair op (Ref x) (Group e)) l short few = cards_few label (statement_text (When (Pair op (Ref x) (Group e)) (Goto l))) few
test_cards label (Pair op (Ref x) e) l short few = cards_few label (statement_text (When (Pair op (Ref x) e) (Goto l))) few
test_cards label e l short few = cards_few label (statement_text (When e (Goto l))) few

when_cards : (label : ℕ) (e : Formula) (a : Act) → formula_has too_long e ≡ false → length (statement_text (When e a)) ≤ 1320 → length (cards label (statement_text (When e a))) ≤ when_cost e a
when_cards label e (Goto l) short few = test_cards label e l short few
when_cards label e a short few = cards_few label (statement_text (When e a)) few

-- ---- names that are declared ----

-- a word, and a name or more
declared_cards : (label : ℕ) (front : List ℕ) (x : Text) (ps : List Par) (ds : List Declared) → length front ≤ 10 → nat_lt 6 (length x) ≡ false →
    length (front ++ commas declared_text (record { name = x; sizes = ps } ∷ ds) []) ≤ 1320 →
    length (cards label (front ++ commas declared_text (record { name = x; sizes = ps } ∷ ds) [])) ≤ 460 + total declared_worth (record { name = x; sizes = ps } ∷ ds)
declared_cards label front x [] [] word short few = omega (arith, cards_low label (front ++ (x ++ [])), length-append front (x ++ []), length-append x [], word, name_low x short)
declared_cards label front x [] (d ∷ ds) word short few = omega (arith, cards_few label (front ++ commas declared_text (record { name = x; sizes = [] } ∷ d ∷ ds) []) few)
declared_cards label front x (p ∷ ps) ds word short few = omega (arith, cards_few label (front ++ commas declared_text (record { name = x; sizes = p ∷ ps } ∷ ds) []) few)

type_low : (t : TypeWord) → length (type_text t) ≤ 10
type_low Integer = omega arith
type_low Logical = omega arith
type_low Other = omega arith

some_worth : (ds : List Declared) → AreSome IsReadableDeclared ds → 500 ≤ total declared_worth ds
some_worth [] none = absurd none
some_worth (d ∷ ds) some = omega arith

common_cards : (label : ℕ) (areas : List Area) → AreSome IsReadableArea areas → list_any (area_has too_long) areas ≡ false → length (codes "COMMON " ++ areas_text areas []) ≤ 1320 →
    length (cards label (codes "COMMON " ++ areas_text areas [])) ≤ 460 + total area_worth areas
common_cards label [] none short few = absurd none
common_cards label (a ∷ []) fine short few = one a.name a.list fine.0.1 (parts (area_has too_long a) false short).0 few
  where
    one : (x : Option Text) (ds : List Declared) → AreSome IsReadableDeclared ds → area_has too_long (record { name = x; list = ds }) ≡ false →
        length (codes "COMMON " ++ areas_text (record { name = x; list = ds } ∷ []) []) ≤ 1320 →
        length (cards label (codes "COMMON " ++ areas_text (record { name = x; list = ds } ∷ []) [])) ≤ 460 + total area_worth (record { name = x; list = ds } ∷ [])
    one None [] none short few = absurd none
    one None (d ∷ ds) some short few =
        omega (arith, declared_cards label (codes "COMMON //") d.name d.sizes ds (omega arith) (parts (nat_lt 6 (length d.name)) _ (parts (declared_has too_long d) _ short).0).0 few)
    one (Some x) ds some short few = omega (arith, cards_few label (codes "COMMON " ++ areas_text (record { name = Some x; list = ds } ∷ []) []) few, some_worth ds some)
common_cards label (a ∷ b ∷ areas) fine short few = omega (arith, cards_few label (codes "COMMON " ++ areas_text (a ∷ b ∷ areas) []) few, some_worth a.list fine.0.1, some_worth b.list fine.1.0.1)

-- ---- statements ----

branch_cards : (label : ℕ) (a : Act) → IsReadableBranch a → act_has too_long a ≡ false → length (statement_text a) ≤ 1320 → length (cards label (statement_text a)) ≤ act_cost a
branch_cards label a (assignment x e place left right) short few = cards_few label (statement_text a) few
branch_cards label a (jump l low) short few = omega (arith, cards_low label (codes "GO TO " ++ decimal l ++ []), length-decimal l [])
branch_cards label a (computed l ls x low all name) short few = cards_few label (statement_text a) few
branch_cards label a (sign e l m n fine below zero_label above) short few = cards_few label (statement_text a) few
branch_cards label a (bare_call x name) short few = omega (arith, cards_low label (codes "CALL " ++ x ++ []), length-append x [], name_low x (parts (nat_lt 6 (length x)) false short).0)
branch_cards label a (call x e es name first others) short few = cards_few label (statement_text a) few
branch_cards label a (read u l es ru low all) short few = cards_few label (statement_text a) few
branch_cards label a (write u l es ru low all) short few = cards_few label (statement_text a) few
branch_cards label a continuation short few = omega (arith, cards_low label (codes "CONTINUE" ++ []))
branch_cards label a stop short few = omega (arith, cards_low label (codes "STOP" ++ []))
branch_cards label a (stop_number n low) short few = omega (arith, cards_low label (codes "STOP " ++ digits 8 false n ++ []), length-append (digits 8 false n) [], octal_low n)
branch_cards label a return short few = omega (arith, cards_low label (codes "RETURN" ++ []))

act_cards : (label : ℕ) (a : Act) → IsReadableAct a → HasShortNames a → length (statement_text a) ≤ 1320 → length (cards label (statement_text a)) ≤ act_cost a
act_cards label a (branch b fine) short few = branch_cards label b fine short few
act_cards label a (conditional e b fine inner) short few = when_cards label e b (parts (formula_has too_long e) (act_has too_long b) short).0 few
act_cards label a (loop l x first last step low name ra rb rc) short few = cards_few label (statement_text a) few
act_cards label a (format fs all) short few = cards_few label (statement_text a) few
act_cards label a (typed t d ds first others) short few =
    declared_cards label (type_text t) d.name d.sizes ds (type_low t) (parts (nat_lt 6 (length d.name)) _ (parts (declared_has too_long d) _ short).0).0 few
act_cards label a (dimension d ds first others) short few =
    declared_cards label (codes "DIMENSION ") d.name d.sizes ds (omega arith) (parts (nat_lt 6 (length d.name)) _ (parts (declared_has too_long d) _ short).0).0 few
act_cards label a (common areas fine) short few = common_cards label areas fine short few
act_cards label a (equivalence groups fine) short few = cards_few label (statement_text a) few
act_cards label a (preset all fine) short few = cards_few label (statement_text a) few

-- ---- units ----

lines_cards : (lines : List Line) → AllByRecursion IsFittingLine lines → first_fault fault_of_line lines ≡ None → length (flat_map statement_cards lines) ≤ total line_cost lines
lines_cards [] fit none = omega arith
lines_cards (line ∷ lines) fit none =
    let both = none_both (fault_of_line line) (first_fault fault_of_line lines) none in
    omega (
      arith,
      length-append (statement_cards line) (flat_map statement_cards lines),
      act_cards (unwrap_or line.label 0) line.act fit.0.readable.act fit.0.names (text_short line.place (statement_text line.act) both.0),
      lines_cards lines fit.1 both.1,
    )

header_costs : (place : Place) (h : Header) → IsReadableHeader h → fault_of_header place h ≡ None → length (header_cards h) ≤ header_cost h
header_costs place MainUnit fine none = omega arith
header_costs place (SubUnit x []) fine none = omega (arith, cards_low 0 (codes "SUBROUTINE " ++ x ++ []), length-append x [], fine.0.1)
header_costs place (SubUnit x (d ∷ ds)) fine none = cards_few 0 (header_text (SubUnit x (d ∷ ds))) (text_short place (header_text (SubUnit x (d ∷ ds))) none)
header_costs place (FuncUnit w x ds) fine none = cards_few 0 (header_text (FuncUnit w x ds)) (text_short place (header_text (FuncUnit w x ds)) none)
header_costs place DataUnit fine none = omega (arith, cards_low 0 (codes "BLOCK DATA" ++ []))

unit_cards_cost : (unit : Routine) → IsFittingUnit unit → fault_of_unit unit ≡ None → length (unit_cards unit) ≤ unit_cost unit
unit_cards_cost unit fit none =
    let both = none_both (fault_of_header unit.place unit.header) (first_fault fault_of_line unit.lines) none in
    let body : List ℕ = flat_map statement_cards unit.lines in
    omega (
      arith,
      length-append (header_cards unit.header) (body ++ end_line),
      length-append body end_line,
      header_costs unit.place unit.header fit.header both.0,
      lines_cards unit.lines fit.lines both.1,
    )

pub deck_costs : (units : List Routine) → AllByRecursion IsFittingUnit units → fault_of_deck units ≡ None → length (deck_of units) ≤ total unit_cost units
deck_costs [] fit none = omega arith
deck_costs (unit ∷ units) fit none =
    let both = none_both (fault_of_unit unit) (first_fault fault_of_unit units) none in
    omega (arith, length-append (unit_cards unit) (deck_of units), unit_cards_cost unit fit.0 both.0, deck_costs units fit.1 both.1)
