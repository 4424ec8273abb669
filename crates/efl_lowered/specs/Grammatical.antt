-- What the grammar of EFL gives of a program beyond its tree, as far as its lowering rests on it.
use Rattle.std.specs.Prelude.{◌≡◌, ℕ, ℤ, true, List, [], ◌∷◌, ◌++◌, flat_map, slice_get, Option, Some, None}
use Rattle.efl_tree.specs.declared.expression.EflOperator.{EflOperator}
use Rattle.efl_tree.specs.Syntax.{Text, EflExpr, Int, Truth, At, Call, Group, Plus, Minus, Not, Up, Down, Pair, Assign, EflExprs, NoExpr, AndExpr, EflPlace, Path, EflSteps, NoStep, Member, Overlay, WriteItem, Value, Chars, ReadItem, Take, EflKind, Act, If, IfElse, While, For, Do, Switch, Return, Write, Read, EflProcedure, EflProgram}
use Rattle.efl_tree.specs.Syntax as efl
use Rattle.efl_scope.specs.Parts.{Form, States, Until, Chooses, Part, program_parts}
use Rattle.efl_types.specs.Types.{operand, outcome}

-- ---- assignments with an operator ----

-- the operators of a part's assignments, as `+=`
abbrev mutual
  pub operators_of : EflExpr → List EflOperator
  operators_of (Int z) = []
  operators_of (Truth b) = []
  operators_of (At p) = operators_at p
  operators_of (Call x es) = operators_of_all es
  operators_of (Group a) = operators_of a
  operators_of (Plus a) = operators_of a
  operators_of (Minus a) = operators_of a
  operators_of (Not a) = operators_of a
  operators_of (Up p) = operators_at p
  operators_of (Down p) = operators_at p
  operators_of (Pair o a b) = operators_of a ++ operators_of b
  operators_of (Assign None p a) = operators_at p ++ operators_of a
  operators_of (Assign (Some o) p a) = o ∷ (operators_at p ++ operators_of a)

  pub operators_of_all : EflExprs → List EflOperator
  operators_of_all NoExpr = []
  operators_of_all (AndExpr e es) = operators_of e ++ operators_of_all es

  pub operators_at : EflPlace → List EflOperator
  operators_at (Path x es steps) = operators_of_all es ++ operators_behind steps

  pub operators_behind : EflSteps → List EflOperator
  operators_behind NoStep = []
  operators_behind (Member x es steps) = operators_of_all es ++ operators_behind steps
  operators_behind (Overlay x steps) = operators_behind steps

abbrev pub operators_if : Option EflExpr → List EflOperator
operators_if None = []
operators_if (Some e) = operators_of e

abbrev pub operators_written : WriteItem → List EflOperator
operators_written (Value e f) = operators_of e
operators_written (efl.WriteItem.Skip n) = []
operators_written (Chars x) = []

-- of a statement without those in it
abbrev pub operators_by : EflKind → List EflOperator
operators_by (Act e) = operators_of e
operators_by (If e s) = operators_of e
operators_by (IfElse e s t) = operators_of e
operators_by (While e s) = operators_of e
operators_by (For a e b s) = operators_if a ++ (operators_if e ++ operators_if b)
operators_by (Do x a b c s) = operators_of a ++ (operators_of b ++ operators_if c)
operators_by (Switch e cs) = operators_of e
operators_by (Return e) = operators_if e
operators_by (Write e is') = operators_if e ++ flat_map operators_written is'
operators_by (Read e is') = operators_if e
operators_by _ = []

abbrev pub operators_in : Form → List EflOperator
operators_in (States ls k) = operators_by k
operators_in (Until e) = operators_of e
operators_in _ = []

-- the constants of a default, which has none in the source
abbrev pub default_constants : Form → List ℤ
default_constants (Chooses zs true before seen) = zs
default_constants _ = []

-- ---- programs ----

-- a main has neither formals nor a type, no assignment has a relation's operator, and a default has no constants
pub record IsGrammatical (p : EflProgram) : Type 0 where
  pub main : (n : ℕ) (u : EflProcedure) → slice_get p.procedures n ≡ Some u → u.name ≡ None → (u.formals ≡ []) × (u.result ≡ None)
  pub operators : (i j : ℕ) (v : Part) (o : EflOperator) → slice_get (program_parts p) i ≡ Some v → slice_get (operators_in v.form) j ≡ Some o → operand o ≡ outcome o
  pub defaults : (i : ℕ) (v : Part) → slice_get (program_parts p) i ≡ Some v → default_constants v.form ≡ []
