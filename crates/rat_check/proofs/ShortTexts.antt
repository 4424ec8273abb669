-- How many characters the texts of expressions have.
use Rattle.std.proofs.Common.{◌≡◌, ℕ, ℤ, ◌+◌, ◌-◌, ◌≤◌, true, List, [], ◌∷◌, ◌++◌, length, Option, Some, None, ap, arith}
use Rattle.std.specs.Prelude.{IfSome, SomeIff, is_some, unsigned_abs}
use Rattle.std.proofs.lemmas.List.{length-append}
use Rattle.f66_tree.specs.declared.expression.Expr.{Expr}
use Rattle.f66_tree.specs.declared.expression.Expr.TheVariants as n
use Rattle.f66_tree.specs.declared.expression.Operator.{Operator}
use Rattle.f66_tree.specs.declared.expression.Operator.TheVariants.{Add, Sub, Mul, Div, Power, Lt, Le, Eq, Ne, Ge, Gt, And, Or}
use Rattle.f66_tree.specs.Syntax.{Text, Formula, Item, Group, Pair, Formulas, NoFormula, AndFormula, Assign}
use Rattle.f66_tree.specs.Views.{formula_of}
use Rattle.stmt_text.specs.Characters.{closing, equals}
use Rattle.stmt_text.specs.Texts.{operator_text, formula_text, formulas_text, more_formulas_text, statement_text}
use Rattle.stmt_text.proofs.TextLengths.{length-formula_text, length-decimal}
use Rattle.rat_check.specs.LongTexts.{texts_size}

operator_size : (op : Operator) → length (operator_text op) ≤ 5
operator_size Add = omega arith
operator_size Sub = omega arith
operator_size Mul = omega arith
operator_size Div = omega arith
operator_size Power = omega arith
operator_size Lt = omega arith
operator_size Le = omega arith
operator_size Eq = omega arith
operator_size Ne = omega arith
operator_size Ge = omega arith
operator_size Gt = omega arith
operator_size And = omega arith
operator_size Or = omega arith

pub pair_size : (op : Operator) (a b : Formula) → length (formula_text (Pair op a b) []) ≤ length (formula_text a []) + length (formula_text b []) + 5
pair_size op a b = omega (arith, length-formula_text a (operator_text op ++ formula_text b []), length-append (operator_text op) (formula_text b []), operator_size op)

pub group_size : (a : Formula) → length (formula_text (Group a) []) ≡ length (formula_text a []) + 2
group_size a = omega (arith, length-formula_text a (closing ∷ []))

more_size : (es : Formulas) (k : List ℕ) → length (more_formulas_text es k) ≡ texts_size es + length k
more_size NoFormula k = omega arith
more_size (AndFormula e es) k = omega (arith, length-formula_text e (more_formulas_text es k), more_size es k)

list_size : (es : Formulas) (k : List ℕ) → length (formulas_text es k) ≤ texts_size es + length k
list_size NoFormula k = omega arith
list_size (AndFormula e es) k = omega (arith, length-formula_text e (more_formulas_text es k), more_size es k)

pub item_size : (x : Text) (es : Formulas) → length (formula_text (Item x es) []) ≤ length x + texts_size es + 2
item_size x es = omega (arith, length-append x (40 ∷ formulas_text es (closing ∷ [])), list_size es (closing ∷ []))

assigned_size : (x e : Formula) → length (statement_text (Assign x e)) ≡ length (formula_text x []) + length (formula_text e []) + 1
assigned_size x e = omega (arith, length-formula_text x (equals ∷ formula_text e []))

-- ---- what is left of a room ----

-- what is left behind one text is left behind another that takes no more of its room
pub left_more : (o : Option ℕ) (a b x y : ℕ) → IfSome o (λ left. a + left ≤ x) → b + x ≤ a + y → IfSome o (λ left. b + left ≤ y)
left_more None a b x y h more = tt
left_more (Some left) a b x y h more = omega (arith, h, more)

pub number_left : (o : Option ℕ) (e : Expr) (z : ℤ) (room : ℕ) → e ≡ n.Int z → SomeIff o (64 ≤ room) (room - 64) → IfSome o (λ left. length (formula_text (formula_of e) []) + left ≤ room)
number_left None e z room is h = tt
number_left (Some left) e z room is h = omega (arith, ap (λ a. length (formula_text (formula_of a) [])) is, length-decimal (unsigned_abs z) [], h.0, h.1)

pub short : (o : Option ℕ) (x e : Formula) (room : ℕ) → is_some o ≡ true → IfSome o (λ left. length (formula_text e []) + left ≤ room) → length (formula_text x []) + room ≤ 1319 → length (statement_text (Assign x e)) ≤ 1320
short None x e room some h place = cc
short (Some left) x e room some h place = omega (arith, assigned_size x e, h, place)
