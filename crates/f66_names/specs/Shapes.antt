-- Which trees are those of statements of the grammar (X3.9-1966, sections 3.5, 5.1, 6 and 7).
use Rattle.std.specs.Prelude.{ℕ, Bool, true, false, not, nat_le, ◌&&◌, ◌||◌, List, [], ◌∷◌, Option, Some, None}
use Rattle.std.specs.List.{list_all}
use Rattle.f66_tree.specs.declared.expression.Operator.{Operator}
use Rattle.f66_tree.specs.declared.expression.Operator.TheVariants.{Add, Sub, Mul, Div, Power, And, Or}
use Rattle.f66_tree.specs.Fields.{Step, Chars, Fields, NoField, Single, Group}
use Rattle.f66_tree.specs.Syntax.{Text, Formula, Int, Truth, Letter, Ref, Item, Plus, Minus, Not, Pair, Formulas, NoFormula, AndFormula, Par, Constant, Named, Declared, Entry, One, Many, Entries, NoEntry, AndEntry, Act, Assign, Computed, Sign, When, Loop, Stop, Read, Write, Format, Typed, Dimension}
use Rattle.f66_tree.specs.Units.{is_note}
use Rattle.f66_tree.specs.Built.{is_constant}
use Rattle.f66_tree.specs.Syntax as f66

abbrev pub is_capital : ℕ → Bool
is_capital c = nat_le 65 c && nat_le c 90

abbrev pub is_digit : ℕ → Bool
is_digit c = nat_le 48 c && nat_le c 57

-- a capital, and capitals and digits behind it
abbrev pub is_name : Text → Bool
is_name [] = false
is_name (c ∷ cs) = is_capital c && list_all (λ d. is_capital d || is_digit d) cs

-- The levels of the grammar of expressions: what stands at a level may stand at each lower one.
--   0  expression = conjunction {.OR. conjunction}
--   1  conjunction = negation {.AND. negation}
--   2  negation = [.NOT.] relation
--   3  relation = sum [.LT. sum], and so with the other five
--   4  sum = [+ | -] term {(+ | -) term}
--   5  term = factor {(* | /) factor}
--   6  factor = prime [** prime]
--   7  prime = number | .TRUE. | .FALSE. | name [(expression {, expression})] | (expression)

-- the level of what an operator makes, of what stands on its left, and of what stands on its right
abbrev pub level : Operator → ℕ
level Or = 0
level And = 1
level Add = 4
level Sub = 4
level Mul = 5
level Div = 5
level Power = 6
level _ = 3

abbrev pub left_level : Operator → ℕ
left_level Or = 0
left_level And = 1
left_level Add = 4
left_level Sub = 4
left_level Mul = 5
left_level Div = 5
left_level Power = 7
left_level _ = 4

abbrev pub right_level : Operator → ℕ
right_level Or = 1
right_level And = 2
right_level Add = 5
right_level Sub = 5
right_level Mul = 6
right_level Div = 6
right_level Power = 7
right_level _ = 4

-- a text of the grammar at this level
abbrev mutual
  pub stands : ℕ → Formula → Bool
  stands n (Int z) = is_constant z
  stands n (Truth b) = true
  stands n (Letter c) = false
  stands n (Ref x) = is_name x
  stands n (Item x es) = is_name x && are_arguments es
  stands n (f66.Group a) = stands 0 a
  stands n (Plus a) = nat_le n 4 && stands 5 a
  stands n (Minus a) = nat_le n 4 && stands 5 a
  stands n (Not a) = nat_le n 2 && stands 3 a
  stands n (Pair op a b) = nat_le n (level op) && (stands (left_level op) a && stands (right_level op) b)

  pub stand_all : Formulas → Bool
  stand_all NoFormula = true
  stand_all (AndFormula e es) = stands 0 e && stand_all es

  -- one expression or more
  pub are_arguments : Formulas → Bool
  are_arguments NoFormula = false
  are_arguments (AndFormula e es) = stands 0 e && stand_all es

-- a variable, or a name with arguments or subscripts
abbrev pub is_named : Formula → Bool
is_named (Ref x) = true
is_named (Item x es) = true
is_named _ = false

abbrev pub is_place : Formula → Bool
is_place e = is_named e && stands 7 e

-- a constant or a name
abbrev pub is_parameter : Par → Bool
is_parameter (Constant z) = is_constant z
is_parameter (Named x) = is_name x

-- an item, or an implied DO over one item or more
abbrev mutual
  pub is_item : Entry → Bool
  is_item (One e) = is_place e
  is_item (Many es x a b c) = are_some_items es && (is_name x && (is_parameter a && (is_parameter b && is_parameter c)))

  pub are_items : Entries → Bool
  are_items NoEntry = true
  are_items (AndEntry e es) = is_item e && are_items es

  pub are_some_items : Entries → Bool
  are_some_items NoEntry = false
  are_some_items (AndEntry e es) = is_item e && are_items es

-- characters that a card may have
abbrev pub is_printed : ℕ → Bool
is_printed c = nat_le 32 c && nat_le c 126

abbrev pub is_printed_step : Step → Bool
is_printed_step (Chars text) = list_all is_printed text
is_printed_step _ = true

-- the texts of a format have such characters alone
abbrev pub are_printed : Fields → Bool
are_printed NoField = true
are_printed (Single n s fs) = is_printed_step s && are_printed fs
are_printed (Group n inside fs) = are_printed inside && are_printed fs

abbrev pub is_declared : Declared → Bool
is_declared d = is_name d.name && list_all is_parameter d.sizes

-- one name or more
abbrev pub are_declared : List Declared → Bool
are_declared [] = false
are_declared (d ∷ ds) = list_all is_declared (d ∷ ds)

-- an executable statement that is neither DO nor a logical IF (section 7.1.2.3)
abbrev pub is_branch : Act → Bool
is_branch (When e a) = false
is_branch (Loop l x a b c) = false
is_branch a = not (is_note a)

-- five octal digits (section 7.1.2.7)
abbrev pub is_stop : Option ℕ → Bool
is_stop None = true
is_stop (Some n) = nat_le n 32767

-- a statement of the grammar
abbrev pub has_shape : Act → Bool
has_shape (Assign x e) = is_place x && stands 0 e
has_shape (Computed ls x) = is_name x
has_shape (Sign e l m k) = stands 0 e
has_shape (When e a) = stands 0 e && (is_branch a && has_shape a)
has_shape (Loop l x a b c) = is_name x && (is_parameter a && (is_parameter b && is_parameter c))
has_shape (Stop n) = is_stop n
has_shape (Read u l es) = is_parameter u && are_items es
has_shape (Write u l es) = is_parameter u && are_items es
has_shape (Format fs) = are_printed fs
has_shape (Typed t ds) = are_declared ds
has_shape (Dimension ds) = are_declared ds
has_shape _ = true
