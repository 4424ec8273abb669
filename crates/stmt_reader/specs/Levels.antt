-- The levels of expressions (X3.9-1966, section 6): what stands at a level may stand at each lower one.
--   0  expression = conjunction {.OR. conjunction}
--   1  conjunction = negation {.AND. negation}
--   2  negation = [.NOT.] relation
--   3  relation = sum [.LT. sum], and so with the other five
--   4  sum = [+ | -] term {(+ | -) term}
--   5  term = factor {(* | /) factor}
--   6  factor = prime [** prime]
--   7  prime = number | .TRUE. | .FALSE. | name [(expression {, expression})] | (expression)
use Rattle.std.specs.Prelude.{ℕ, ℤ, pos, negsuc, Bool, true, false, nat_le, ◌&&◌, ◌||◌, [], ◌∷◌}
use Rattle.std.specs.List.{list_all}
use Rattle.f66_tree.specs.declared.expression.Operator.{Operator}
use Rattle.f66_tree.specs.declared.expression.Operator.TheVariants.{Add, Sub, Mul, Div, Power, And, Or}
use Rattle.f66_tree.specs.Syntax.{Text, Formula, Int, Truth, Letter, Ref, Item, Group, Plus, Minus, Not, Pair, Formulas, NoFormula, AndFormula}

abbrev pub is_capital : ℕ → Bool
is_capital c = nat_le 65 c && nat_le c 90

abbrev pub is_digit : ℕ → Bool
is_digit c = nat_le 48 c && nat_le c 57

-- a capital, and capitals and digits behind it
abbrev pub is_name : Text → Bool
is_name [] = false
is_name (c ∷ cs) = is_capital c && list_all (λ d. is_capital d || is_digit d) cs

-- a number without a sign, whatever its size
abbrev pub is_number : ℤ → Bool
is_number (pos n) = true
is_number (negsuc n) = false

-- the level of what an operator makes, of what stands on its left, and of what stands on its right
abbrev pub level : Operator → ℕ
level Or = 0
level And = 1
level Add = 4
level Sub = 4
level Mul = 5
level Div = 5
level Power = 6
level _ = 3

abbrev pub left_level : Operator → ℕ
left_level Or = 0
left_level And = 1
left_level Add = 4
left_level Sub = 4
left_level Mul = 5
left_level Div = 5
left_level Power = 7
left_level _ = 4

abbrev pub right_level : Operator → ℕ
right_level Or = 1
right_level And = 2
right_level Add = 5
right_level Sub = 5
right_level Mul = 6
right_level Div = 6
right_level Power = 7
right_level _ = 4

-- the tree of a text of the grammar at this level
abbrev mutual
  pub stands : ℕ → Formula → Bool
  stands n (Int z) = is_number z
  stands n (Truth b) = true
  stands n (Letter c) = false
  stands n (Ref x) = is_name x
  stands n (Item x es) = is_name x && are_arguments es
  stands n (Group a) = stands 0 a
  stands n (Plus a) = nat_le n 4 && stands 5 a
  stands n (Minus a) = nat_le n 4 && stands 5 a
  stands n (Not a) = nat_le n 2 && stands 3 a
  stands n (Pair op a b) = nat_le n (level op) && (stands (left_level op) a && stands (right_level op) b)

  pub stand_all : Formulas → Bool
  stand_all NoFormula = true
  stand_all (AndFormula e es) = stands 0 e && stand_all es

  -- one expression or more
  pub are_arguments : Formulas → Bool
  are_arguments NoFormula = false
  are_arguments (AndFormula e es) = stands 0 e && stand_all es
