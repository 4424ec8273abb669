-- Which expressions have a text that is read back: numbers in range, names that are names, no Hollerith text.
use Rattle.std.specs.Prelude.{ℤ, pos, negsuc, Bool, true, false, nat_le, ◌&&◌}
use Rattle.std.specs.List.{list_all}
use Rattle.f66_tree.specs.Syntax.{Par, Constant, Named, Declared, Formula, Int, Truth, Letter, Ref, Item, Group, Plus, Minus, Not, Pair, Formulas, NoFormula, AndFormula}
use Rattle.stmt_reader.specs.Levels.{is_name}

abbrev pub in_range : ℤ → Bool
in_range (pos n) = nat_le n 2147483647
in_range (negsuc n) = false

abbrev mutual
  pub is_readable : Formula → Bool
  is_readable (Int z) = in_range z
  is_readable (Truth b) = true
  is_readable (Letter c) = false
  is_readable (Ref x) = is_name x
  is_readable (Item x es) = is_name x && are_some_readable es
  is_readable (Group a) = is_readable a
  is_readable (Plus a) = is_readable a
  is_readable (Minus a) = is_readable a
  is_readable (Not a) = is_readable a
  is_readable (Pair op a b) = is_readable a && is_readable b

  pub are_readable : Formulas → Bool
  are_readable NoFormula = true
  are_readable (AndFormula e es) = is_readable e && are_readable es

  -- one expression or more
  pub are_some_readable : Formulas → Bool
  are_some_readable NoFormula = false
  are_some_readable (AndFormula e es) = is_readable e && are_readable es

abbrev pub is_readable_par : Par → Bool
is_readable_par (Constant z) = in_range z
is_readable_par (Named x) = is_name x

-- an argument of a CALL may be a Hollerith text of one character
abbrev pub is_readable_argument : Formula → Bool
is_readable_argument (Letter c) = true
is_readable_argument e = is_readable e

-- a number without a sign
abbrev pub is_readable_number : Formula → Bool
is_readable_number (Int z) = in_range z
is_readable_number _ = false

-- a constant of DATA: a number with a sign or none, a truth value, or a Hollerith text of one character
abbrev pub is_readable_datum : Formula → Bool
is_readable_datum (Int z) = in_range z
is_readable_datum (Plus e) = is_readable_number e
is_readable_datum (Minus e) = is_readable_number e
is_readable_datum (Truth b) = true
is_readable_datum (Letter c) = true
is_readable_datum _ = false

-- a name with dimensions
abbrev pub is_readable_declared : Declared → Bool
is_readable_declared d = is_name d.name && list_all is_readable_par d.sizes
