-- How large expressions and statements are, for the ends of recursions.
use Rattle.std.proofs.Common.{◌≡◌, ℕ, ◌+◌, ◌*◌, List, [], ◌∷◌, refl}
use Rattle.ground.specs.declared.place.Place.{Place}
use Rattle.f66_tree.specs.Syntax.{Text}
use Rattle.efl_program.specs.Typed.{Expr, Int, Truth, At, Call, Known, Group, Plus, Minus, Not, Up, Down, Pair, Assign, Exprs, NoExpr, AndExpr, Stmt, Empty, Block, Act, If, IfElse, While, For, Repeat, RepeatUntil, Do, Switch, Break, Next, Return, Goto, Write, Read, Labelled, Stmts, NoStmt, AndStmt, Clauses, NoClause, AndClause}
use Rattle.efl_typed_tree.specs.Views.{labelled}

abbrev mutual
  pub size_of : Expr → ℕ
  size_of (Int z) = 1
  size_of (Truth b) = 1
  size_of (At x) = 1
  size_of (Call v k es) = size_of_all es + 2
  size_of (Known g es) = size_of_all es + 2
  size_of (Group a) = size_of a + 1
  size_of (Plus a) = size_of a + 1
  size_of (Minus a) = size_of a + 1
  size_of (Not a) = size_of a + 1
  size_of (Up x) = 1
  size_of (Down x) = 1
  size_of (Pair op a b) = size_of a + size_of b + 2
  size_of (Assign op x e) = size_of e + 2

  pub size_of_all : Exprs → ℕ
  size_of_all NoExpr = 0
  size_of_all (AndExpr e es) = size_of e + size_of_all es

abbrev mutual
  pub size_of_stmt : Stmt → ℕ
  size_of_stmt (Empty p) = 1
  size_of_stmt (Block p ss) = size_of_stmts ss + 1
  size_of_stmt (Act p a) = 1
  size_of_stmt (If p e s) = size_of_stmt s + 1
  size_of_stmt (IfElse p e s t) = size_of_stmt s + size_of_stmt t + 1
  size_of_stmt (While p e s) = size_of_stmt s + 2
  size_of_stmt (For p a e b s) = size_of_stmt s + 2
  size_of_stmt (Repeat p s) = size_of_stmt s + 2
  size_of_stmt (RepeatUntil p s e q) = size_of_stmt s + 2
  size_of_stmt (Do p v a b d s) = size_of_stmt s + 2
  size_of_stmt (Switch p e cs) = 2 * size_of_clauses cs + 2
  size_of_stmt (Break p n o) = 1
  size_of_stmt (Next p n o) = 1
  size_of_stmt (Return p e) = 1
  size_of_stmt (Goto p l) = 1
  size_of_stmt (Write p e items) = 1
  size_of_stmt (Read p e items) = 1
  size_of_stmt (Labelled l p s) = size_of_stmt s

  pub size_of_stmts : Stmts → ℕ
  size_of_stmts NoStmt = 0
  size_of_stmts (AndStmt s ss) = size_of_stmt s + size_of_stmts ss

  pub size_of_clauses : Clauses → ℕ
  size_of_clauses NoClause = 0
  size_of_clauses (AndClause es fallback ss p cs) = size_of_stmts ss + size_of_clauses cs + 1

pub labelled_size : (ls : List Text) (p : Place) (s : Stmt) → size_of_stmt (labelled ls p s) ≡ size_of_stmt s
labelled_size [] p s = refl
labelled_size (l ∷ ls) p s = labelled_size ls p s
