-- Which trees are those of statements of the grammar, CALL, COMMON, EQUIVALENCE and DATA among them (X3.9-1966, sections 5.1.1.6,
-- 7.1.2.4, 7.2.1.3, 7.2.1.4 and 7.2.2).
use Rattle.std.specs.Prelude.{ℕ, Bool, true, false, ◌&&◌, nat_lt, nat_le, List, length, Option, Some, None}
use Rattle.std.specs.List.{list_all}
use Rattle.f66_tree.specs.Built.{is_constant}
use Rattle.f66_tree.specs.Syntax.{Text, Formula, Int, Truth, Letter, Plus, Minus, Formulas, NoFormula, AndFormula, Area, PresetPart, Act, When, Invoke, Common, Equivalence, Preset}
use Rattle.f66_names.specs.Shapes.{is_name, is_place, is_printed, are_declared, stands, has_shape}

-- an argument of a CALL: an expression, or a Hollerith text of one character that a card may have
abbrev pub is_passed_form : Formula → Bool
is_passed_form (Letter c) = is_printed c
is_passed_form e = stands 0 e

abbrev pub are_passed_forms : Formulas → Bool
are_passed_forms NoFormula = true
are_passed_forms (AndFormula e es) = is_passed_form e && are_passed_forms es

-- the list has an element or more, and each of them passes
abbrev pub has_all : {X : Type 0} → (X → Bool) → List X → Bool
has_all test xs = nat_lt 0 (length xs) && list_all test xs

-- the name of a block, where it has one
abbrev pub is_block_name : Option Text → Bool
is_block_name None = true
is_block_name (Some x) = is_name x

abbrev pub is_area : Area → Bool
is_area a = is_block_name a.name && are_declared a.list

-- a group has two members or more
abbrev pub is_group : List Formula → Bool
is_group es = nat_lt 1 (length es) && list_all is_place es

abbrev pub is_signed : Formula → Bool
is_signed (Int z) = is_constant z
is_signed _ = false

-- an integer with a sign or none, a truth value, or a Hollerith text of one character
abbrev pub is_datum : Formula → Bool
is_datum (Int z) = is_constant z
is_datum (Plus e) = is_signed e
is_datum (Minus e) = is_signed e
is_datum (Truth b) = true
is_datum (Letter c) = is_printed c
is_datum _ = false

-- a value with its count
abbrev pub is_value : ℕ × Formula → Bool
is_value v = nat_le v.0 2147483647 && is_datum v.1

abbrev pub is_part : PresetPart → Bool
is_part p = has_all is_place p.places && has_all is_value p.values

abbrev pub has_form : Act → Bool
has_form (Invoke x es) = is_name x && are_passed_forms es
has_form (When e a) = has_shape (When e a) && has_form a
has_form (Common areas) = has_all is_area areas
has_form (Equivalence groups) = has_all is_group groups
has_form (Preset parts) = has_all is_part parts
has_form a = has_shape a
