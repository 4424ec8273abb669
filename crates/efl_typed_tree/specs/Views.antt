-- The typed trees in memory, as plain data.
use Rattle.std.specs.Prelude.{List, [], ◌∷◌, Option, None, Some, map, option_map}
use Rattle.ground.specs.declared.place.Place.{Place}
use Rattle.f66_tree.specs.Syntax.{Text}
use Rattle.f66_tree.specs.Evaluation as f66
use Rattle.efl_typed_tree.specs.declared.expression.Scalar as scalars
use Rattle.efl_typed_tree.specs.declared.expression.Intrinsic as intrinsics
use Rattle.efl_typed_tree.specs.declared.expression.Intrinsic.TheVariants as g
use Rattle.efl_typed_tree.specs.declared.expression.TypedOp as ops
use Rattle.efl_typed_tree.specs.declared.expression.TypedOp.TheVariants as o
use Rattle.efl_typed_tree.specs.declared.expression.TypedExpr as e
use Rattle.efl_typed_tree.specs.declared.statement.TypedAction as actions
use Rattle.efl_typed_tree.specs.declared.statement.TypedAction.TheVariants as a
use Rattle.efl_typed_tree.specs.declared.statement.TypedEdit as edits
use Rattle.efl_typed_tree.specs.declared.statement.TypedEdit.TheVariants as d
use Rattle.efl_typed_tree.specs.declared.statement.TypedWriteItem as write_items
use Rattle.efl_typed_tree.specs.declared.statement.TypedWriteItem.TheVariants as w
use Rattle.efl_typed_tree.specs.declared.statement.TypedReadItem as read_items
use Rattle.efl_typed_tree.specs.declared.statement.TypedReadItem.TheVariants as r
use Rattle.efl_typed_tree.specs.declared.statement.TypedStmt as stmts
use Rattle.efl_typed_tree.specs.declared.statement.TypedClause as clauses
use Rattle.efl_typed_tree.specs.declared.statement.TypedKind as kinds
use Rattle.efl_typed_tree.specs.declared.statement.TypedKind.TheBlock as k
use Rattle.efl_program.specs.Typed.{Scalar, Op, Plain, AndThen, OrElse, Expr, Int, Truth, At, Call, Known, Group, Plus, Minus, Not, Up, Down, Pair, Assign, Exprs, NoExpr, AndExpr, Site, Variable, Action, Evaluate, Invoke, Edit, AsInteger, AsLogical, AsCharacter, WriteItem, Value, Chars, ReadItem, Take, Pass, Stmt, Empty, Block, Act, If, IfElse, While, For, Repeat, RepeatUntil, Do, Switch, Break, Next, Return, Goto, Write, Read, Labelled, Stmts, NoStmt, AndStmt, Clauses, NoClause, AndClause}
use Rattle.efl_program.specs.Typed as typed

abbrev pub site_of : scalars.Scalar → Site
site_of x = Variable x.variable (Scalar x.kind) NoExpr

abbrev pub intrinsic_of : intrinsics.Intrinsic → f66.Intrinsic
intrinsic_of g.Iabs = f66.Iabs
intrinsic_of g.Mod = f66.Mod
intrinsic_of g.Isign = f66.Isign
intrinsic_of g.Idim = f66.Idim
intrinsic_of g.Max0 = f66.Max0
intrinsic_of g.Min0 = f66.Min0

abbrev pub op_of : ops.TypedOp → Op
op_of (o.Plain p) = Plain p
op_of o.AndThen = AndThen
op_of o.OrElse = OrElse

abbrev mutual
  pub expr_of : e.TypedExpr → Expr
  expr_of (e.Int z) = Int z
  expr_of (e.Truth b) = Truth b
  expr_of (e.At x) = At (site_of x)
  expr_of (e.Call' v t n all) = Call v t (row_exprs all)
  expr_of (e.Known' f n all) = Known (intrinsic_of f) (row_exprs all)
  expr_of (e.Group' p x) = Group (expr_of x)
  expr_of (e.Plus' p x) = Plus (expr_of x)
  expr_of (e.Minus' p x) = Minus (expr_of x)
  expr_of (e.Not' p x) = Not (expr_of x)
  expr_of (e.Up x) = Up (site_of x)
  expr_of (e.Down x) = Down (site_of x)
  expr_of (e.Pair' op p x q y) = Pair (op_of op) (expr_of x) (expr_of y)
  expr_of (e.Assign' op x p y) = Assign (option_map op_of op) (site_of x) (expr_of y)

  pub row_exprs : {m : _} → e.Row_of-TypedExpr m → Exprs
  row_exprs e.end_of-TypedExpr = NoExpr
  row_exprs (e.more_of-TypedExpr x rest) = AndExpr (expr_of x) (row_exprs rest)

abbrev pub exprs_of : List e.TypedExpr → Exprs
exprs_of [] = NoExpr
exprs_of (x ∷ all) = AndExpr (expr_of x) (exprs_of all)

abbrev pub action_of : actions.TypedAction → Action
action_of (a.Evaluate x) = Evaluate (expr_of x)
action_of (a.Invoke v all) = Invoke v (exprs_of all.items)

abbrev pub edit_of : edits.TypedEdit → Edit
edit_of (d.Whole n) = AsInteger n
edit_of (d.Truth n) = AsLogical n
edit_of d.Letter = AsCharacter

abbrev pub write_item_of : write_items.TypedWriteItem → WriteItem
write_item_of (w.Value x f) = Value (expr_of x) (edit_of f)
write_item_of (w.Skip n) = typed.Skip n
write_item_of (w.Chars x) = Chars x

abbrev pub write_items_of : List write_items.TypedWriteItem → List WriteItem
write_items_of all = map write_item_of all

abbrev pub read_item_of : read_items.TypedReadItem → ReadItem
read_item_of (r.Take x f) = Take (site_of x) (edit_of f)
read_item_of (r.Skip n) = Pass n

abbrev pub read_items_of : List read_items.TypedReadItem → List ReadItem
read_items_of all = map read_item_of all

-- the first label is the outermost
abbrev pub labelled : List Text → Place → Stmt → Stmt
labelled [] p s = s
labelled (l ∷ ls) p s = Labelled l p (labelled ls p s)

abbrev pub repeated : Place → Stmt → Option (e.TypedExpr × Place) → Stmt
repeated p s None = Repeat p s
repeated p s (Some u) = RepeatUntil p s (expr_of u.0) u.1

abbrev mutual
  -- what a statement at this place is
  pub kind_of : Place → kinds.TypedKind → Stmt
  kind_of p k.Empty = Empty p
  kind_of p (k.Block' n all) = Block p (row_stmts all)
  kind_of p (k.Act x) = Act p (action_of x)
  kind_of p (k.If' x q ls at s other) = either_of p (expr_of x) (labelled ls.items at (kind_of at s)) other
  kind_of p (k.While' x q ls at s) = While p (expr_of x) (labelled ls.items at (kind_of at s))
  kind_of p (k.For' x y z q ls at s) = For p (option_map action_of x) (option_map expr_of y) (option_map action_of z) (labelled ls.items at (kind_of at s))
  kind_of p (k.Repeat' q ls at s u) = repeated p (labelled ls.items at (kind_of at s)) u
  kind_of p (k.Do' v x q ls at s) = Do p v (expr_of x.first) (expr_of x.last) (option_map expr_of x.step) (labelled ls.items at (kind_of at s))
  kind_of p (k.Switch' x n all) = Switch p (expr_of x) (row_clauses all)
  kind_of p (k.Break n u) = Break p n u
  kind_of p (k.Next n u) = Next p n u
  kind_of p (k.Return x) = Return p (option_map expr_of x)
  kind_of p (k.Goto x) = Goto p x
  kind_of p (k.Write x all) = Write p (option_map expr_of x) (write_items_of all.items)
  kind_of p (k.Read x all) = Read p (option_map expr_of x) (read_items_of all.items)

  pub either_of : Place → Expr → Stmt → k.Held-TypedKind-If-2 → Stmt
  either_of p x s k.None' = If p x s
  either_of p x s (k.Some' q ls at t) = IfElse p x s (labelled ls.items at (kind_of at t))

  pub row_stmts : {m : _} → k.Row_of-TypedStmt m → Stmts
  row_stmts k.end_of-TypedStmt = NoStmt
  row_stmts (k.more_of-TypedStmt ls p s rest) = AndStmt (labelled ls.items p (kind_of p s)) (row_stmts rest)

  pub row_clauses : {m : _} → k.Row_of-TypedClause m → Clauses
  row_clauses k.end_of-TypedClause = NoClause
  row_clauses (k.more_of-TypedClause c rest) = clause_then c (row_clauses rest)

  -- a clause, and those that follow it
  pub clause_then : clauses.TypedClause → Clauses → Clauses
  clause_then (clauses.TypedClause' tests fallback n body p) rest = AndClause tests.items fallback (row_stmts body) p rest

abbrev pub stmt_of : stmts.TypedStmt → Stmt
stmt_of s = labelled s.labels.items s.place (kind_of s.place s.kind)

abbrev pub stmts_of : List stmts.TypedStmt → Stmts
stmts_of [] = NoStmt
stmts_of (s ∷ all) = AndStmt (stmt_of s) (stmts_of all)

abbrev pub clauses_of : List clauses.TypedClause → Clauses
clauses_of [] = NoClause
clauses_of (c ∷ all) = clause_then c (clauses_of all)
