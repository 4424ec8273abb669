-- The temporaries of a statement are no more than its size.
use Rattle.std.proofs.Common.{◌≤◌, ℕ, ◌+◌, arith, ℤ, Bool, true, false, List, [], ◌∷◌, Option, Some, None}
use Rattle.efl_program.specs.Typed.{Expr, Int, Truth, At, Call, Known, Group, Plus, Minus, Not, Up, Down, Pair, Assign, Exprs, NoExpr, AndExpr, Action, Evaluate, Invoke, WriteItem, Value, Skip, Chars, ReadItem, Take, Pass, Stmt, Empty, Block, Act, If, IfElse, While, For, Repeat, RepeatUntil, Do, Switch, Break, Next, Return, Goto, Write, Read, Labelled, Stmts, NoStmt, AndStmt, Clauses, NoClause, AndClause}
use Rattle.efl_routes.specs.Expressions.{made, made_in, made_for}
use Rattle.efl_routes.specs.Statements.{made_if_any}
use Rattle.efl_lowered.specs.Needs.{of_act, of_any, of_items, of_taken, needs, all_need, clauses_need}
use Rattle.efl_limits.specs.Sizes.{size, sizes, size_if, act_size, act_size_if, items_size, taken_size, clause_size, stmt_size, stmts_size, clauses_size}

mutual
  made_few : (e : Expr) → made e ≤ size e
  made_few (Int z) = omega arith
  made_few (Truth b) = omega arith
  made_few (At x) = omega arith
  made_few (Call v k es) = omega (arith, for_few es)
  made_few (Known g es) = omega (arith, in_few es)
  made_few (Group a) = omega (arith, made_few a)
  made_few (Plus a) = omega (arith, made_few a)
  made_few (Minus a) = omega (arith, made_few a)
  made_few (Not a) = omega (arith, made_few a)
  made_few (Up x) = omega arith
  made_few (Down x) = omega arith
  made_few (Pair op a b) = omega (arith, made_few a, made_few b)
  made_few (Assign None x e) = omega (arith, made_few e)
  made_few (Assign (Some op) x e) = omega (arith, made_few e)

  in_few : (es : Exprs) → made_in es ≤ sizes es
  in_few NoExpr = omega arith
  in_few (AndExpr e es) = omega (arith, made_few e, in_few es)

  for_few : (es : Exprs) → made_for es ≤ sizes es
  for_few NoExpr = omega arith
  for_few (AndExpr (At x) es) = omega (arith, for_few es)
  for_few (AndExpr e es) = omega (arith, made_few e, for_few es)

if_few : (o : Option Expr) → made_if_any o ≤ size_if o
if_few None = omega arith
if_few (Some e) = made_few e

act_few : (a : Action) (n : ℕ) → of_act a n ≤ n + act_size a
act_few (Evaluate e) n = omega (arith, made_few e)
act_few (Invoke v es) n = omega (arith, for_few es)

any_few : (o : Option Action) (n : ℕ) → of_any o n ≤ n + act_size_if o
any_few None n = omega arith
any_few (Some a) n = act_few a n

items_few : (items : List WriteItem) (n : ℕ) → of_items items n ≤ n + items_size items
items_few [] n = omega arith
items_few (Value e d ∷ items) n = omega (arith, made_few e, items_few items (n + (made e + 1)))
items_few (Skip i ∷ items) n = items_few items n
items_few (Chars t ∷ items) n = items_few items n

taken_few : (items : List ReadItem) (n : ℕ) → of_taken items n ≤ n + taken_size items
taken_few [] n = omega arith
taken_few (Take x d ∷ items) n = omega (arith, taken_few items (n + 1))
taken_few (Pass i ∷ items) n = taken_few items n

pub clause_counts : (zs : List ℤ) (fallback : Bool) (n : ℕ) → n ≤ clause_size zs fallback n
clause_counts [] fallback n = omega arith
clause_counts (z ∷ zs) true n = omega arith
clause_counts (z ∷ zs) false n = omega arith

mutual
  stmt_few : (s : Stmt) (n : ℕ) → needs s n ≤ n + stmt_size s
  stmt_few (Empty p) n = omega arith
  stmt_few (Block p ss) n = stmts_few ss n
  stmt_few (Act p a) n = act_few a n
  stmt_few (If p e s) n = omega (arith, made_few e, stmt_few s n)
  stmt_few (IfElse p e s t) n = omega (arith, made_few e, stmt_few s n, stmt_few t n)
  stmt_few (While p e s) n = omega (arith, made_few e, stmt_few s n)
  stmt_few (For p a e b s) n = omega (arith, any_few a n, if_few e, any_few b n, stmt_few s n)
  stmt_few (Repeat p s) n = omega (arith, stmt_few s n)
  stmt_few (RepeatUntil p s e q) n = omega (arith, made_few e, stmt_few s n)
  stmt_few (Do p v a z d s) n = omega (arith, made_few a, made_few z, if_few d, stmt_few s (n + made z + made_if_any d))
  stmt_few (Switch p e cs) n = omega (arith, made_few e, clauses_few cs (n + made e))
  stmt_few (Break p i o) n = omega arith
  stmt_few (Next p i o) n = omega arith
  stmt_few (Return p e) n = omega (arith, if_few e)
  stmt_few (Goto p l) n = omega arith
  stmt_few (Write p u items) n = omega (arith, if_few u, items_few items (n + made_if_any u))
  stmt_few (Read p u items) n = omega (arith, if_few u, taken_few items (n + made_if_any u))
  stmt_few (Labelled l p s) n = omega (arith, stmt_few s n)

  pub stmts_few : (ss : Stmts) (n : ℕ) → all_need ss n ≤ n + stmts_size ss
  stmts_few NoStmt n = omega arith
  stmts_few (AndStmt s ss) n = omega (arith, stmt_few s n, stmts_few ss n)

  clauses_few : (cs : Clauses) (n : ℕ) → clauses_need cs n ≤ n + clauses_size cs
  clauses_few NoClause n = omega arith
  clauses_few (AndClause zs fallback ss p cs) n = omega (arith, stmts_few ss n, clauses_few cs n, clause_counts zs fallback (stmts_size ss))
