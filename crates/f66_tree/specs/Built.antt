-- The parts of statements as far as the profile builds them: constants in range, operators of integers, bounds.
use Rattle.std.specs.Prelude.{ℤ, pos, int_le, Bool, true, false, ◌&&◌, List, [], ◌∷◌}
use Rattle.f66_tree.specs.declared.expression.Operator.{Operator}
use Rattle.f66_tree.specs.declared.expression.Operator.TheVariants.{Add, Sub, Mul, Div, Power}
use Rattle.f66_tree.specs.Syntax.{Par, Constant, Named}

abbrev pub is_constant : ℤ → Bool
is_constant z = int_le (pos 0) z && int_le z (pos 2147483647)

abbrev pub is_arithmetic : Operator → Bool
is_arithmetic Add = true
is_arithmetic Sub = true
is_arithmetic Mul = true
is_arithmetic Div = true
is_arithmetic Power = true
is_arithmetic _ = false

abbrev pub is_par : Par → Bool
is_par (Constant z) = is_constant z
is_par (Named x) = true

-- names without dimensions
abbrev pub is_scalar : List Par → Bool
is_scalar [] = true
is_scalar (n ∷ ns) = false
