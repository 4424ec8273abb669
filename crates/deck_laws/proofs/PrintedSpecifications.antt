-- The texts of sound COMMON, EQUIVALENCE and DATA have the characters of cards alone.
use Rattle.std.proofs.Common.{◌≡◌, ℕ, ◌≤◌, Bool, true, false, cond, List, [], ◌∷◌, ◌++◌, length, Option, Some, None, refl}
use Rattle.std.specs.Prelude.{nat_le, nat_lt, ◌==◌, decimal}
use Rattle.std.specs.List.{list_all, AllByRecursion}
use Rattle.std.proofs.lemmas.Bool.{and_parts, and_from}
use Rattle.f66_tree.specs.Syntax.{Text, Formula, Int, Truth, Letter, Plus, Minus, Declared, Area, PresetPart}
use Rattle.f66_names.specs.Shapes as shapes
use Rattle.unit_rules.specs.Forms.{has_all, is_datum, is_value, is_part}
use Rattle.stmt_text.specs.Texts.{formula_text, commas, more_commas, declared_text, area_text, areas_text, group_text, value_text, preset_text}
use Rattle.card_reader.specs.Cards.{is_printable}
use Rattle.deck.specs.Readable.{is_readable_datum}
use Rattle.deck.specs.ReadableStatements.{IsReadableDeclared, AreSome, IsReadablePlace, IsReadableBlock, IsReadableArea, IsReadableGroup, IsReadableValue, IsReadablePart}
use Rattle.deck_laws.proofs.PrintedParts.{ArePrintable, before, name_printable, number_printable, formula_printable, declared_printable}

-- lists by their members
module _ {A : Type 0} (text : A → List ℕ → List ℕ) (Good : A → Type 0) (member : (a : A) (k : List ℕ) → Good a → ArePrintable k → ArePrintable (text a k)) where
  more_printable : (all : List A) (k : List ℕ) → AllByRecursion Good all → ArePrintable k → ArePrintable (more_commas text all k)
  more_printable [] k good rest = rest
  more_printable (a ∷ all) k good rest = member a (more_commas text all k) good.0 (more_printable all k good.1 rest)

  some_printable : (all : List A) (k : List ℕ) → AreSome Good all → ArePrintable k → ArePrintable (commas text all k)
  some_printable [] k good rest = absurd good
  some_printable (a ∷ all) k good rest = member a (more_commas text all k) good.0 (more_printable all k good.1 rest)

-- ---- COMMON ----

area_printable : (name : Option Text) (list : List Declared) (k : List ℕ) → IsReadableBlock name → AreSome IsReadableDeclared list → ArePrintable k → ArePrintable (area_text (record { name = name; list = list }) k)
area_printable None list k block fine rest = some_printable declared_text IsReadableDeclared declared_printable list k fine rest
area_printable (Some x) list k block fine rest = name_printable x (47 ∷ commas declared_text list k) block (some_printable declared_text IsReadableDeclared declared_printable list k fine rest)

all_printable : (areas : List Area) → AllByRecursion IsReadableArea areas → ArePrintable (areas_text areas [])
all_printable [] fine = refl
all_printable (a ∷ all) fine = area_printable a.name a.list (areas_text all []) fine.0.0 fine.0.1 (all_printable all fine.1)

pub areas_printable : (areas : List Area) → AreSome IsReadableArea areas → ArePrintable (areas_text areas [])
areas_printable [] fine = absurd fine
areas_printable (a ∷ all) fine = all_printable (a ∷ all) fine

-- ---- EQUIVALENCE ----

place_printable : (e : Formula) (k : List ℕ) → IsReadablePlace e → ArePrintable k → ArePrintable (formula_text e k)
place_printable e k fine rest = formula_printable e k fine.1.readable rest

group_printable : (es : List Formula) (k : List ℕ) → IsReadableGroup es → ArePrintable k → ArePrintable (group_text es k)
group_printable [] k fine rest = absurd fine
group_printable (e ∷ []) k fine rest = absurd fine.1
group_printable (e ∷ d ∷ es) k fine rest = some_printable formula_text IsReadablePlace place_printable (e ∷ d ∷ es) (41 ∷ k) fine rest

pub groups_printable : (groups : List (List Formula)) → AreSome IsReadableGroup groups → ArePrintable (commas group_text groups [])
groups_printable groups fine = some_printable group_text IsReadableGroup group_printable groups [] fine refl

-- ---- DATA ----

datum_printable : (e : Formula) (k : List ℕ) → is_readable_datum e ≡ true → is_datum e ≡ true → ArePrintable k → ArePrintable (formula_text e k)
datum_printable (Int z) k fine is rest = formula_printable (Int z) k fine rest
datum_printable (Plus (Int z)) k fine is rest = formula_printable (Int z) k fine rest
datum_printable (Minus (Int z)) k fine is rest = formula_printable (Int z) k fine rest
datum_printable (Truth b) k fine is rest = formula_printable (Truth b) k refl rest
datum_printable (Letter c) k fine is rest = and_from (is_printable c) (list_all is_printable k) is rest
datum_printable _ k fine is rest = absurd cc

value_by : (n : ℕ) (e : Formula) (one : Bool) (k : List ℕ) → n ≤ 2147483647 → is_readable_datum e ≡ true → is_datum e ≡ true → ArePrintable k → ArePrintable (cond one (formula_text e k) (decimal n ++ 42 ∷ formula_text e k))
value_by n e true k low fine is rest = datum_printable e k fine is rest
value_by n e false k low fine is rest = before (decimal n) (42 ∷ formula_text e k) (number_printable n low) (datum_printable e k fine is rest)

-- a value that is read back, and whose Hollerith text is of cards
abbrev IsSoundValue : ℕ × Formula → Type 0
IsSoundValue v = IsReadableValue v × (is_datum v.1 ≡ true)

value_printable : (v : ℕ × Formula) (k : List ℕ) → IsSoundValue v → ArePrintable k → ArePrintable (value_text v k)
value_printable v k fine rest = value_by v.0 v.1 (v.0 == 1) k fine.0.0 fine.0.1 fine.1 rest

all_sound : (vs : List (ℕ × Formula)) → AllByRecursion IsReadableValue vs → list_all is_value vs ≡ true → AllByRecursion IsSoundValue vs
all_sound [] fine is = tt
all_sound (v ∷ vs) fine is =
    let both = and_parts (is_value v) (list_all is_value vs) is in
    ((fine.0, (and_parts (nat_le v.0 2147483647) (is_datum v.1) both.0).1), all_sound vs fine.1 both.1)

some_sound : (vs : List (ℕ × Formula)) → AreSome IsReadableValue vs → has_all is_value vs ≡ true → AreSome IsSoundValue vs
some_sound [] fine is = absurd fine
some_sound (v ∷ vs) fine is = all_sound (v ∷ vs) fine (and_parts (nat_lt 0 (length (v ∷ vs))) (list_all is_value (v ∷ vs)) is).1

abbrev IsSoundPart : PresetPart → Type 0
IsSoundPart p = IsReadablePart p × (is_part p ≡ true)

part_printable : (p : PresetPart) (k : List ℕ) → IsSoundPart p → ArePrintable k → ArePrintable (preset_text p k)
part_printable p k fine rest =
    let both = and_parts (has_all shapes.is_place p.places) (has_all is_value p.values) fine.1 in
    some_printable formula_text IsReadablePlace place_printable p.places (47 ∷ commas value_text p.values (47 ∷ k)) fine.0.0 (some_printable value_text IsSoundValue value_printable p.values (47 ∷ k) (some_sound p.values fine.0.1 both.1) rest)

parts_sound : (ps : List PresetPart) → AllByRecursion IsReadablePart ps → list_all is_part ps ≡ true → AllByRecursion IsSoundPart ps
parts_sound [] fine is = tt
parts_sound (p ∷ ps) fine is = let both = and_parts (is_part p) (list_all is_part ps) is in ((fine.0, both.0), parts_sound ps fine.1 both.1)

pub presets_printable : (parts : List PresetPart) → AreSome IsReadablePart parts → has_all is_part parts ≡ true → ArePrintable (commas preset_text parts [])
presets_printable [] fine is = absurd fine
presets_printable (p ∷ ps) fine is =
    some_printable preset_text IsSoundPart part_printable (p ∷ ps) [] (parts_sound (p ∷ ps) fine (and_parts (nat_lt 0 (length (p ∷ ps))) (list_all is_part (p ∷ ps)) is).1) refl
