-- What stands at a level stands at each lower one.
use Rattle.std.proofs.Common.{◌≡◌, ℕ, suc, ◌≤◌, Bool, true, refl, arith}
use Rattle.std.specs.Prelude.{nat_le, ◌&&◌}
use Rattle.std.proofs.lemmas.Bool.{leb-true, le-leb, and_from, and_parts}
use Rattle.f66_tree.specs.declared.expression.Operator.{Operator}
use Rattle.f66_tree.specs.declared.expression.Operator.TheVariants.{Add, Sub, Mul, Div, Power, Lt, Le, Eq, Ne, Ge, Gt, And, Or}
use Rattle.f66_tree.specs.Syntax.{Formula, Int, Truth, Letter, Ref, Item, Group, Plus, Minus, Not, Pair}
use Rattle.stmt_reader.specs.Levels.{level, left_level, right_level, stands}

pub right_is : (op : Operator) → right_level op ≡ suc (level op)
right_is Add = refl
right_is Sub = refl
right_is Mul = refl
right_is Div = refl
right_is Power = refl
right_is Lt = refl
right_is Le = refl
right_is Eq = refl
right_is Ne = refl
right_is Ge = refl
right_is Gt = refl
right_is And = refl
right_is Or = refl

pub left_above : (op : Operator) → level op ≤ left_level op
left_above Add = omega arith
left_above Sub = omega arith
left_above Mul = omega arith
left_above Div = omega arith
left_above Power = omega arith
left_above Lt = omega arith
left_above Le = omega arith
left_above Eq = omega arith
left_above Ne = omega arith
left_above Ge = omega arith
left_above Gt = omega arith
left_above And = omega arith
left_above Or = omega arith

pub left_below : (op : Operator) → left_level op ≤ 7
left_below Add = omega arith
left_below Sub = omega arith
left_below Mul = omega arith
left_below Div = omega arith
left_below Power = omega arith
left_below Lt = omega arith
left_below Le = omega arith
left_below Eq = omega arith
left_below Ne = omega arith
left_below Ge = omega arith
left_below Gt = omega arith
left_below And = omega arith
left_below Or = omega arith

lower : (m n k : ℕ) (b : Bool) → n ≤ m → (nat_le m k && b) ≡ true → (nat_le n k && b) ≡ true
lower m n k b h is =
    let p = and_parts (nat_le m k) b is in
    and_from (nat_le n k) b (le-leb n k (omega (arith, leb-true m k p.0, h))) p.1

pub stands_lower : (m n : ℕ) (e : Formula) → n ≤ m → stands m e ≡ true → stands n e ≡ true
stands_lower m n (Int z) h is = is
stands_lower m n (Truth b) h is = refl
stands_lower m n (Letter c) h is = is
stands_lower m n (Ref x) h is = is
stands_lower m n (Item x es) h is = is
stands_lower m n (Group a) h is = is
stands_lower m n (Plus a) h is = lower m n 4 (stands 5 a) h is
stands_lower m n (Minus a) h is = lower m n 4 (stands 5 a) h is
stands_lower m n (Not a) h is = lower m n 2 (stands 3 a) h is
stands_lower m n (Pair op a b) h is = lower m n (level op) (stands (left_level op) a && stands (right_level op) b) h is

-- what is known of an operator's formula
pub joined_level : (n : ℕ) (op : Operator) (a b : Formula) → stands n (Pair op a b) ≡ true → n ≤ level op
joined_level n op a b is = leb-true n (level op) (and_parts (nat_le n (level op)) (stands (left_level op) a && stands (right_level op) b) is).0

pub joined_left : (n : ℕ) (op : Operator) (a b : Formula) → stands n (Pair op a b) ≡ true → stands (left_level op) a ≡ true
joined_left n op a b is = (and_parts (stands (left_level op) a) (stands (right_level op) b) (and_parts (nat_le n (level op)) (stands (left_level op) a && stands (right_level op) b) is).1).0

pub joined_right : (n : ℕ) (op : Operator) (a b : Formula) → stands n (Pair op a b) ≡ true → stands (right_level op) b ≡ true
joined_right n op a b is = (and_parts (stands (left_level op) a) (stands (right_level op) b) (and_parts (nat_le n (level op)) (stands (left_level op) a && stands (right_level op) b) is).1).1

pub within_level : (n k : ℕ) (b : Bool) → (nat_le n k && b) ≡ true → n ≤ k
within_level n k b is = leb-true n k (and_parts (nat_le n k) b is).0

pub within_part : (n k : ℕ) (b : Bool) → (nat_le n k && b) ≡ true → b ≡ true
within_part n k b is = (and_parts (nat_le n k) b is).1
