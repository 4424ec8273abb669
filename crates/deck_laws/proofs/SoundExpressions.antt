-- Expressions of a sound unit can be read back: they are those of the grammar of expressions.
use Rattle.std.proofs.Common.{◌≡◌, ℕ, pos, negsuc, ℤ, true, [], ◌∷◌, refl, subst}
use Rattle.std.specs.Prelude.{nat_le, ◌&&◌}
use Rattle.std.proofs.lemmas.Bool.{and_parts, and_from}
use Rattle.f66_tree.specs.declared.expression.Operator.{Operator}
use Rattle.f66_tree.specs.declared.expression.Operator.TheVariants.{Add, Sub, Mul, Div, Power, Lt, Le, Eq, Ne, Ge, Gt, And, Or}
use Rattle.f66_tree.specs.Built.{is_constant}
use Rattle.f66_tree.specs.Syntax.{Text, Formula, Int, Truth, Letter, Ref, Item, Group, Plus, Minus, Not, Pair, Formulas, NoFormula, AndFormula}
use Rattle.f66_names.specs.Shapes as shapes
use Rattle.stmt_reader.specs.Levels.{is_number, is_name, level, left_level, right_level, stands, stand_all, are_arguments}
use Rattle.deck.specs.Readable.{in_range, is_readable, are_readable, are_some_readable}
use Rattle.deck.specs.ReadableStatements.{IsReadable}

-- ---- names and numbers ----

pub name_same : (x : Text) → shapes.is_name x ≡ true → is_name x ≡ true
name_same [] is = absurd cc
name_same (c ∷ cs) is = is

pub constant_number : (z : ℤ) → is_constant z ≡ true → is_number z ≡ true
constant_number (pos n) is = refl
constant_number (negsuc n) is = absurd cc

pub constant_range : (z : ℤ) → is_constant z ≡ true → in_range z ≡ true
constant_range (pos n) is = (and_parts (nat_le 0 n) (nat_le n 2147483647) is).1
constant_range (negsuc n) is = absurd cc

-- ---- expressions ----

level_same : (op : Operator) → shapes.level op ≡ level op
level_same Add = refl
level_same Sub = refl
level_same Mul = refl
level_same Div = refl
level_same Power = refl
level_same Lt = refl
level_same Le = refl
level_same Eq = refl
level_same Ne = refl
level_same Ge = refl
level_same Gt = refl
level_same And = refl
level_same Or = refl

left_same : (op : Operator) → shapes.left_level op ≡ left_level op
left_same Add = refl
left_same Sub = refl
left_same Mul = refl
left_same Div = refl
left_same Power = refl
left_same Lt = refl
left_same Le = refl
left_same Eq = refl
left_same Ne = refl
left_same Ge = refl
left_same Gt = refl
left_same And = refl
left_same Or = refl

right_same : (op : Operator) → shapes.right_level op ≡ right_level op
right_same Add = refl
right_same Sub = refl
right_same Mul = refl
right_same Div = refl
right_same Power = refl
right_same Lt = refl
right_same Le = refl
right_same Eq = refl
right_same Ne = refl
right_same Ge = refl
right_same Gt = refl
right_same And = refl
right_same Or = refl

mutual
  pub formula_stands : (e : Formula) (n : ℕ) → shapes.stands n e ≡ true → stands n e ≡ true
  formula_stands (Int z) n is = constant_number z is
  formula_stands (Truth b) n is = refl
  formula_stands (Letter c) n is = absurd cc
  formula_stands (Ref x) n is = name_same x is
  formula_stands (Item x es) n is =
      let both = and_parts (shapes.is_name x) (shapes.are_arguments es) is in
      and_from (is_name x) (are_arguments es) (name_same x both.0) (arguments_stand es both.1)
  formula_stands (Group a) n is = formula_stands a 0 is
  formula_stands (Plus a) n is = let both = and_parts (nat_le n 4) (shapes.stands 5 a) is in and_from (nat_le n 4) (stands 5 a) both.0 (formula_stands a 5 both.1)
  formula_stands (Minus a) n is = let both = and_parts (nat_le n 4) (shapes.stands 5 a) is in and_from (nat_le n 4) (stands 5 a) both.0 (formula_stands a 5 both.1)
  formula_stands (Not a) n is = let both = and_parts (nat_le n 2) (shapes.stands 3 a) is in and_from (nat_le n 2) (stands 3 a) both.0 (formula_stands a 3 both.1)
  formula_stands (Pair op a b) n is =
      let both = and_parts (nat_le n (shapes.level op)) (shapes.stands (shapes.left_level op) a && shapes.stands (shapes.right_level op) b) is in
      let sides = and_parts (shapes.stands (shapes.left_level op) a) (shapes.stands (shapes.right_level op) b) both.1 in
      and_from (nat_le n (level op)) (stands (left_level op) a && stands (right_level op) b) (subst (λ (l : ℕ). nat_le n l ≡ true) (level_same op) both.0)
      (and_from (stands (left_level op) a) (stands (right_level op) b) (formula_stands a (left_level op) (subst (λ (l : ℕ). shapes.stands l a ≡ true) (left_same op) sides.0))
      (formula_stands b (right_level op) (subst (λ (l : ℕ). shapes.stands l b ≡ true) (right_same op) sides.1)))

  all_stand : (es : Formulas) → shapes.stand_all es ≡ true → stand_all es ≡ true
  all_stand NoFormula is = refl
  all_stand (AndFormula e es) is = let both = and_parts (shapes.stands 0 e) (shapes.stand_all es) is in and_from (stands 0 e) (stand_all es) (formula_stands e 0 both.0) (all_stand es both.1)

  arguments_stand : (es : Formulas) → shapes.are_arguments es ≡ true → are_arguments es ≡ true
  arguments_stand NoFormula is = absurd cc
  arguments_stand (AndFormula e es) is = let both = and_parts (shapes.stands 0 e) (shapes.stand_all es) is in and_from (stands 0 e) (stand_all es) (formula_stands e 0 both.0) (all_stand es both.1)

mutual
  pub formula_readable : (e : Formula) (n : ℕ) → shapes.stands n e ≡ true → is_readable e ≡ true
  formula_readable (Int z) n is = constant_range z is
  formula_readable (Truth b) n is = refl
  formula_readable (Letter c) n is = absurd cc
  formula_readable (Ref x) n is = name_same x is
  formula_readable (Item x es) n is =
      let both = and_parts (shapes.is_name x) (shapes.are_arguments es) is in
      and_from (is_name x) (are_some_readable es) (name_same x both.0) (some_readable es both.1)
  formula_readable (Group a) n is = formula_readable a 0 is
  formula_readable (Plus a) n is = formula_readable a 5 (and_parts (nat_le n 4) (shapes.stands 5 a) is).1
  formula_readable (Minus a) n is = formula_readable a 5 (and_parts (nat_le n 4) (shapes.stands 5 a) is).1
  formula_readable (Not a) n is = formula_readable a 3 (and_parts (nat_le n 2) (shapes.stands 3 a) is).1
  formula_readable (Pair op a b) n is =
      let both = and_parts (nat_le n (shapes.level op)) (shapes.stands (shapes.left_level op) a && shapes.stands (shapes.right_level op) b) is in
      let sides = and_parts (shapes.stands (shapes.left_level op) a) (shapes.stands (shapes.right_level op) b) both.1 in
      and_from (is_readable a) (is_readable b) (formula_readable a (shapes.left_level op) sides.0) (formula_readable b (shapes.right_level op) sides.1)

  all_readable : (es : Formulas) → shapes.stand_all es ≡ true → are_readable es ≡ true
  all_readable NoFormula is = refl
  all_readable (AndFormula e es) is = let both = and_parts (shapes.stands 0 e) (shapes.stand_all es) is in and_from (is_readable e) (are_readable es) (formula_readable e 0 both.0) (all_readable es both.1)

  some_readable : (es : Formulas) → shapes.are_arguments es ≡ true → are_some_readable es ≡ true
  some_readable NoFormula is = absurd cc
  some_readable (AndFormula e es) is = let both = and_parts (shapes.stands 0 e) (shapes.stand_all es) is in and_from (is_readable e) (are_readable es) (formula_readable e 0 both.0) (all_readable es both.1)

pub readable : (e : Formula) → shapes.stands 0 e ≡ true → IsReadable e
readable e is = record { stands = formula_stands e 0 is; readable = formula_readable e 0 is }
