-- How large typed trees of EFL are, in tokens that they have at least.
use Rattle.std.specs.Prelude.{ℕ, ◌+◌, ℤ, Bool, true, false, List, [], ◌∷◌, length, Option, Some, None}
use Rattle.efl_program.specs.Typed.{Expr, Int, Truth, At, Call, Known, Group, Plus, Minus, Not, Up, Down, Pair, Assign, Exprs, NoExpr, AndExpr, Action, Evaluate, Invoke, WriteItem, Value, Skip, Chars, ReadItem, Take, Pass, Stmt, Empty, Block, Act, If, IfElse, While, For, Repeat, RepeatUntil, Do, Switch, Break, Next, Return, Goto, Write, Read, Labelled, Stmts, NoStmt, AndStmt, Clauses, NoClause, AndClause}

-- a site counts one, whatever its subscripts are
abbrev mutual
  pub size : Expr → ℕ
  size (Int z) = 1
  size (Truth b) = 1
  size (At x) = 1
  size (Call v k es) = 1 + sizes es
  size (Known g es) = 1 + sizes es
  size (Group a) = 1 + size a
  size (Plus a) = 1 + size a
  size (Minus a) = 1 + size a
  size (Not a) = 1 + size a
  size (Up x) = 2
  size (Down x) = 2
  size (Pair op a b) = 1 + (size a + size b)
  size (Assign o x e) = 2 + size e

  pub sizes : Exprs → ℕ
  sizes NoExpr = 0
  sizes (AndExpr e es) = size e + sizes es

abbrev pub size_if : Option Expr → ℕ
size_if None = 0
size_if (Some e) = size e

abbrev pub act_size : Action → ℕ
act_size (Evaluate e) = size e
act_size (Invoke v es) = 1 + sizes es

abbrev pub act_size_if : Option Action → ℕ
act_size_if None = 0
act_size_if (Some a) = act_size a

abbrev pub items_size : List WriteItem → ℕ
items_size [] = 0
items_size (Value e d ∷ items) = 1 + (size e + items_size items)
items_size (Skip n ∷ items) = items_size items
items_size (Chars t ∷ items) = items_size items

abbrev pub taken_size : List ReadItem → ℕ
taken_size [] = 0
taken_size (Take x d ∷ items) = 1 + taken_size items
taken_size (Pass n ∷ items) = taken_size items

-- a clause that has constants and is the default too, as none of a text does, counts twice
abbrev pub clause_size : List ℤ → Bool → ℕ → ℕ
clause_size [] fallback n = n
clause_size (z ∷ zs) true n = n + n
clause_size (z ∷ zs) false n = n

abbrev mutual
  pub stmt_size : Stmt → ℕ
  stmt_size (Empty p) = 0
  stmt_size (Block p ss) = stmts_size ss
  stmt_size (Act p a) = act_size a
  stmt_size (If p e s) = 1 + (size e + stmt_size s)
  stmt_size (IfElse p e s t) = 2 + (size e + (stmt_size s + stmt_size t))
  stmt_size (While p e s) = 1 + (size e + stmt_size s)
  stmt_size (For p a e b s) = 1 + (act_size_if a + (size_if e + (act_size_if b + stmt_size s)))
  stmt_size (Repeat p s) = 1 + stmt_size s
  stmt_size (RepeatUntil p s e q) = 1 + (stmt_size s + size e)
  stmt_size (Do p v a z d s) = 2 + (size a + (size z + (size_if d + stmt_size s)))
  stmt_size (Switch p e cs) = 1 + (size e + clauses_size cs)
  stmt_size (Break p n o) = 1
  stmt_size (Next p n o) = 1
  stmt_size (Return p e) = 1 + size_if e
  stmt_size (Goto p l) = 1
  stmt_size (Write p u items) = 3 + (size_if u + items_size items)
  stmt_size (Read p u items) = 3 + (size_if u + taken_size items)
  stmt_size (Labelled l p s) = 1 + stmt_size s

  pub stmts_size : Stmts → ℕ
  stmts_size NoStmt = 0
  stmts_size (AndStmt s ss) = stmt_size s + stmts_size ss

  pub clauses_size : Clauses → ℕ
  clauses_size NoClause = 0
  clauses_size (AndClause zs fallback ss p cs) = 1 + (length zs + (clause_size zs fallback (stmts_size ss) + clauses_size cs))
