-- COMMON, EQUIVALENCE and DATA of a sound unit can be read back.
use Rattle.std.proofs.Common.{◌≡◌, ℕ, Bool, true, List, [], ◌∷◌, length, Option, Some, None, refl}
use Rattle.std.specs.Prelude.{nat_le, nat_lt}
use Rattle.std.specs.List.{list_all, AllByRecursion}
use Rattle.std.proofs.lemmas.Bool.{leb-true, and_parts}
use Rattle.f66_tree.specs.Syntax.{Text, Formula, Int, Truth, Letter, Plus, Minus, Declared, Area, PresetPart}
use Rattle.f66_names.specs.Shapes as shapes
use Rattle.unit_rules.specs.Forms.{has_all, is_block_name, is_area, is_group, is_datum, is_value, is_part}
use Rattle.deck.specs.Readable.{is_readable_datum}
use Rattle.deck.specs.ReadableStatements.{IsReadableDeclared, AreSome, IsReadablePlace, IsReadableBlock, IsReadableArea, IsReadableGroup, IsReadableValue, IsReadablePart}
use Rattle.deck_laws.proofs.SoundExpressions.{name_same, constant_range}
use Rattle.deck_laws.proofs.SoundParts.{place_is, place_readable, names_readable}

module _ {A : Type 0} (test : A → Bool) (Good : A → Type 0) (gives : (a : A) → test a ≡ true → Good a) where
  all_good : (all : List A) → list_all test all ≡ true → AllByRecursion Good all
  all_good [] is = tt
  all_good (a ∷ all) is = let both = and_parts (test a) (list_all test all) is in (gives a both.0, all_good all both.1)

  some_good : (all : List A) → has_all test all ≡ true → AreSome Good all
  some_good [] is = absurd cc
  some_good (a ∷ all) is = all_good (a ∷ all) (and_parts (nat_lt 0 (length (a ∷ all))) (list_all test (a ∷ all)) is).1

-- ---- COMMON ----

block_readable : (name : Option Text) → is_block_name name ≡ true → IsReadableBlock name
block_readable None is = tt
block_readable (Some x) is = name_same x is

listed_readable : (ds : List Declared) → shapes.are_declared ds ≡ true → AreSome IsReadableDeclared ds
listed_readable [] is = absurd cc
listed_readable (d ∷ ds) is = names_readable (d ∷ ds) is

area_readable : (a : Area) → is_area a ≡ true → IsReadableArea a
area_readable a is = let both = and_parts (is_block_name a.name) (shapes.are_declared a.list) is in (block_readable a.name both.0, listed_readable a.list both.1)

pub areas_readable : (areas : List Area) → has_all is_area areas ≡ true → AreSome IsReadableArea areas
areas_readable areas is = some_good is_area IsReadableArea area_readable areas is

-- ---- EQUIVALENCE ----

target_readable : (e : Formula) → shapes.is_place e ≡ true → IsReadablePlace e
target_readable e is = (place_is e is, place_readable e is)

group_readable : (es : List Formula) → is_group es ≡ true → IsReadableGroup es
group_readable [] is = absurd cc
group_readable (e ∷ []) is = absurd cc
group_readable (e ∷ d ∷ es) is = all_good shapes.is_place IsReadablePlace target_readable (e ∷ d ∷ es) (and_parts (nat_lt 1 (length (e ∷ d ∷ es))) (list_all shapes.is_place (e ∷ d ∷ es)) is).1

pub groups_readable : (groups : List (List Formula)) → has_all is_group groups ≡ true → AreSome IsReadableGroup groups
groups_readable groups is = some_good is_group IsReadableGroup group_readable groups is

-- ---- DATA ----

datum_readable : (e : Formula) → is_datum e ≡ true → is_readable_datum e ≡ true
datum_readable (Int z) is = constant_range z is
datum_readable (Plus (Int z)) is = constant_range z is
datum_readable (Minus (Int z)) is = constant_range z is
datum_readable (Truth b) is = refl
datum_readable (Letter c) is = refl
datum_readable _ is = absurd cc

value_readable : (v : ℕ × Formula) → is_value v ≡ true → IsReadableValue v
value_readable v is = let both = and_parts (nat_le v.0 2147483647) (is_datum v.1) is in (leb-true v.0 2147483647 both.0, datum_readable v.1 both.1)

part_readable : (p : PresetPart) → is_part p ≡ true → IsReadablePart p
part_readable p is =
    let both = and_parts (has_all shapes.is_place p.places) (has_all is_value p.values) is in
    (some_good shapes.is_place IsReadablePlace target_readable p.places both.0, some_good is_value IsReadableValue value_readable p.values both.1)

pub parts_readable : (parts : List PresetPart) → has_all is_part parts ≡ true → AreSome IsReadablePart parts
parts_readable parts is = some_good is_part IsReadablePart part_readable parts is
