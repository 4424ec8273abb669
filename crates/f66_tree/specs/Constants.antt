-- Integer constants (X3.9-1966, section 5.1.1.1).
use Rattle.std.specs.Prelude.{ℤ, pos, negsuc, neg_ℤ, nat_le, Option, Some, None, if◌then◌else◌}
use Rattle.ground.specs.Arithmetic.{greatest}
use Rattle.f66_tree.specs.Syntax.{Formula, Int, Plus, Minus}

abbrev pub constant_in_range : ℤ → Option ℤ
constant_in_range (pos n) = if nat_le n greatest then Some (pos n) else None
constant_in_range (negsuc n) = None

-- the value of a constant with no sign
abbrev pub unsigned_value : Formula → Option ℤ
unsigned_value (Int z) = constant_in_range z
unsigned_value _ = None

abbrev pub opposite_value : Option ℤ → Option ℤ
opposite_value None = None
opposite_value (Some z) = Some (neg_ℤ z)

-- the value of a constant with one sign or none
abbrev pub constant_value : Formula → Option ℤ
constant_value (Int z) = constant_in_range z
constant_value (Plus a) = unsigned_value a
constant_value (Minus a) = opposite_value (unsigned_value a)
constant_value _ = None
