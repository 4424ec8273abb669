-- What tokens give of the tree of an EFL program: its numbers are in their range, its texts have characters of cards, and its names are
-- capitals and digits.
use Rattle.std.specs.Prelude.{◌≡◌, ℕ, ℤ, true, List, [], ◌∷◌, ◌++◌, flat_map, Option, Some, None}
use Rattle.std.specs.List.{list_all, slice_get}
use Rattle.f66_tree.specs.Built.{is_constant}
use Rattle.f66_names.specs.Shapes.{is_name, is_printed}
use Rattle.efl_tree.specs.Syntax.{Text, EflExpr, Int, Truth, At, Call, Group, Plus, Minus, Not, Up, Down, Pair, Assign, EflExprs, NoExpr, AndExpr, EflPlace, Path, EflSteps, NoStep, Member, Overlay, WriteItem, Value, Chars, ReadItem, Take, EflKind, Act, If, IfElse, While, For, Do, Switch, Return, Write, Read, EflProcedure, EflProgram}
use Rattle.efl_tree.specs.Syntax as efl
use Rattle.efl_scope.specs.Marks.{Located, program_variables}
use Rattle.efl_scope.specs.Parts.{Form, States, Until, Chooses, Part, program_parts}
use Rattle.efl_plain.specs.Written.{is_case}

-- ---- numbers ----

abbrev mutual
  pub numbers_of : EflExpr → List ℤ
  numbers_of (Int z) = z ∷ []
  numbers_of (Truth b) = []
  numbers_of (At p) = numbers_at p
  numbers_of (Call x es) = numbers_of_all es
  numbers_of (Group a) = numbers_of a
  numbers_of (Plus a) = numbers_of a
  numbers_of (Minus a) = numbers_of a
  numbers_of (Not a) = numbers_of a
  numbers_of (Up p) = numbers_at p
  numbers_of (Down p) = numbers_at p
  numbers_of (Pair o a b) = numbers_of a ++ numbers_of b
  numbers_of (Assign o p a) = numbers_at p ++ numbers_of a

  pub numbers_of_all : EflExprs → List ℤ
  numbers_of_all NoExpr = []
  numbers_of_all (AndExpr e es) = numbers_of e ++ numbers_of_all es

  pub numbers_at : EflPlace → List ℤ
  numbers_at (Path x es steps) = numbers_of_all es ++ numbers_behind steps

  pub numbers_behind : EflSteps → List ℤ
  numbers_behind NoStep = []
  numbers_behind (Member x es steps) = numbers_of_all es ++ numbers_behind steps
  numbers_behind (Overlay x steps) = numbers_behind steps

abbrev pub numbers_if : Option EflExpr → List ℤ
numbers_if None = []
numbers_if (Some e) = numbers_of e

abbrev pub numbers_written : WriteItem → List ℤ
numbers_written (Value e f) = numbers_of e
numbers_written (efl.WriteItem.Skip n) = []
numbers_written (Chars x) = []

abbrev pub numbers_read : ReadItem → List ℤ
numbers_read (Take p f) = numbers_at p
numbers_read (efl.ReadItem.Skip n) = []

-- of a statement without those in it
abbrev pub numbers_by : EflKind → List ℤ
numbers_by (Act e) = numbers_of e
numbers_by (If e s) = numbers_of e
numbers_by (IfElse e s t) = numbers_of e
numbers_by (While e s) = numbers_of e
numbers_by (For a e b s) = numbers_if a ++ (numbers_if e ++ numbers_if b)
numbers_by (Do x a b c s) = numbers_of a ++ (numbers_of b ++ numbers_if c)
numbers_by (Switch e cs) = numbers_of e
numbers_by (Return e) = numbers_if e
numbers_by (Write e is') = numbers_if e ++ flat_map numbers_written is'
numbers_by (Read e is') = numbers_if e ++ flat_map numbers_read is'
numbers_by _ = []

abbrev pub numbers_in : Form → List ℤ
numbers_in (States ls k) = numbers_by k
numbers_in (Until e) = numbers_of e
numbers_in _ = []

-- the constants of a clause
abbrev pub constants_in : Form → List ℤ
constants_in (Chooses zs fallback before seen) = zs
constants_in _ = []

-- ---- texts ----

abbrev pub text_written : WriteItem → List Text
text_written (Chars x) = x ∷ []
text_written _ = []

abbrev pub texts_in : Form → List Text
texts_in (States ls (Write e is')) = flat_map text_written is'
texts_in _ = []

-- ---- programs ----

pub record IsWrittenTree (p : EflProgram) : Type 0 where
  pub numbers : (i j : ℕ) (v : Part) (z : ℤ) → slice_get (program_parts p) i ≡ Some v → slice_get (numbers_in v.form) j ≡ Some z → is_constant z ≡ true
  pub constants : (i j : ℕ) (v : Part) (z : ℤ) → slice_get (program_parts p) i ≡ Some v → slice_get (constants_in v.form) j ≡ Some z → is_case z ≡ true
  pub texts : (i j : ℕ) (v : Part) (t : Text) → slice_get (program_parts p) i ≡ Some v → slice_get (texts_in v.form) j ≡ Some t → list_all is_printed t ≡ true
  pub variables : (v : ℕ) (x : Located) → slice_get (program_variables p) v ≡ Some x → is_name x.variable.name ≡ true
  pub procedures : (n : ℕ) (u : EflProcedure) (q : Text) → slice_get p.procedures n ≡ Some u → u.name ≡ Some q → is_name q ≡ true
