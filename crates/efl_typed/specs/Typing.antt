-- The typed tree of an accepted program: each name is the number of what it means, with its sort.
use Rattle.std.specs.Prelude.{ℕ, ◌+◌, pos, Bool, true, false, List, [], ◌∷◌, map, codes, unsigned_abs, Option, Some, None, option_map, unwrap_or, if◌then◌else◌}
use Rattle.std.specs.List.{slice_get}
use Rattle.std.specs.Str.{bytes_eq}
use Rattle.ground.specs.declared.place.Place.{Place}
use Rattle.ground.specs.declared.value.Kind.{Kind}
use Rattle.ground.specs.declared.value.Kind.TheVariants.{Integer}
use Rattle.f66_tree.specs.declared.expression.Operator.TheVariants as operators
use Rattle.f66_tree.specs.Evaluation.{Intrinsic, Iabs, Mod, Isign, Max0, Min0}
use Rattle.efl_tree.specs.declared.declaration.EflBound.{EflBound}
use Rattle.efl_tree.specs.declared.expression.EflOperator.{EflOperator}
use Rattle.efl_tree.specs.declared.expression.EflOperator.TheVariants as efl_operators
use Rattle.efl_tree.specs.declared.statement.EflEdit.{EflEdit}
use Rattle.efl_tree.specs.declared.statement.EflEdit.TheVariants as edits
use Rattle.efl_tree.specs.Syntax.{Text, EflExpr, EflExprs, EflPlace, Path, EflSteps, EflStmt, Statement, EflKind, EflStmts, EflCases, NoCase, AndCase, EflProcedure, EflProgram}
use Rattle.efl_tree.specs.Syntax as efl
use Rattle.efl_scope.specs.DataTypes as types
use Rattle.efl_scope.specs.DataTypes.{DataType, Structured, NoType, Members, NoMember, AndMember, low_of}
use Rattle.efl_scope.specs.Scopes.{Variable, meaning, implied_of, shape_named, structured, behind_all, outer}
use Rattle.efl_scope.specs.Parts.{Around, into, in_loop, in_list, opened, among, around_unit}
use Rattle.efl_scope.specs.Marks.{Located, program_variables, meant_by, number_of}
use Rattle.efl_types.specs.Signatures.{Names, Result, Gives, signatures, result_of, many}
use Rattle.efl_types.specs.Types.{subscripted, member_type, named_type, is_target_call}
use Rattle.efl_types.specs.Whole.{called_by}
use Rattle.efl_scope.specs.Uses.{Applied}
use Rattle.efl_tree.specs.declared.statement.LoopKind.TheVariants as loops
use Rattle.efl_program.specs.Typed.{TypedBound, Sort, Scalar, Shape, Array, Sorts, NoSort, AndSort, Op, Plain, AndThen, OrElse, Expr, Int, Truth, At, Call, Known, Group, Plus, Minus, Not, Up, Down, Pair, Assign, Exprs, NoExpr, AndExpr, Site, Variable as Whole, Member, Overlay, Action, Evaluate, Invoke, Edit, AsInteger, AsLogical, AsCharacter, WriteItem, Value, Skip, Chars, ReadItem, Take, Pass, Stmt, Empty, Block, Act, If, IfElse, While, For, Repeat, RepeatUntil, Do, Switch, Break, Next, Return, Goto, Write, Read, Labelled, Stmts, NoStmt, AndStmt, Clauses, NoClause, AndClause}

-- ---- sorts ----

abbrev pub typed_bound : EflBound → TypedBound
typed_bound b = record { low = low_of b; high = b.high }

-- what has no type is not met
abbrev mutual
  pub sort_of : DataType → Sort
  sort_of (types.Scalar k) = Scalar k
  sort_of (Structured ms) = Shape (sorts_of ms)
  sort_of (types.Array bs t) = Array (map typed_bound bs) (sort_of t)
  sort_of NoType = Scalar Integer

  pub sorts_of : Members → Sorts
  sorts_of NoMember = NoSort
  sorts_of (AndMember x t ms) = AndSort (sort_of t) (sorts_of ms)

abbrev pub index_in : Text → Members → ℕ
index_in x NoMember = 0
index_in x (AndMember y t ms) = if bytes_eq x y then 0 else index_in x ms + 1

abbrev pub member_index : Text → DataType → ℕ
member_index x (Structured ms) = index_in x ms
member_index x t = 0

-- ---- names ----

-- what is known where a part stands: the procedures, all variables, the names, and what is around
pub record Context : Type 0 where
  pub procedures : List EflProcedure
  pub variables : List Located
  pub names : Names
  pub around : Around

abbrev pub within : Context → Around → Context
within c a = record c { names = record c.names { blocks = a.blocks }; around = a }

abbrev pub variable_named : Context → Text → Variable
variable_named c x = meant_by c.names.implied x (meaning c.names.blocks x)

abbrev pub numbered : Context → Text → ℕ
numbered c x = number_of c.variables c.around.unit (variable_named c x)

-- the procedure that a name before parentheses calls
abbrev pub called : Context → Text → Option ℕ
called c x = called_by c.procedures c.names (Applied x)

-- ---- expressions ----

abbrev pub op_of : EflOperator → Op
op_of efl_operators.Add = Plain operators.Add
op_of efl_operators.Sub = Plain operators.Sub
op_of efl_operators.Mul = Plain operators.Mul
op_of efl_operators.Div = Plain operators.Div
op_of efl_operators.Power = Plain operators.Power
op_of efl_operators.Lt = Plain operators.Lt
op_of efl_operators.Le = Plain operators.Le
op_of efl_operators.Eq = Plain operators.Eq
op_of efl_operators.Ne = Plain operators.Ne
op_of efl_operators.Ge = Plain operators.Ge
op_of efl_operators.Gt = Plain operators.Gt
op_of efl_operators.And = Plain operators.And
op_of efl_operators.Or = Plain operators.Or
op_of efl_operators.AndThen = AndThen
op_of efl_operators.OrElse = OrElse

-- FORTRAN's functions for EFL's
abbrev pub intrinsic : Text → Intrinsic
intrinsic x =
    if bytes_eq x (codes "ABS") then Iabs else
    if bytes_eq x (codes "SIGN") then Isign else
    if bytes_eq x (codes "MIN") then Min0 else
    if bytes_eq x (codes "MAX") then Max0 else Mod

abbrev pub given_kind : Result → Kind
given_kind (Gives k) = k
given_kind r = Integer

-- the type of a procedure's value
abbrev pub value_kind : List EflProcedure → ℕ → Kind
value_kind us n = unwrap_or (option_map (λ u. given_kind (result_of u.result)) (slice_get us n)) Integer

-- what calls no procedure calls an intrinsic function
abbrev pub call_of : Context → Text → Option ℕ → Exprs → Expr
call_of c x (Some n) es = Call n (value_kind c.procedures n) es
call_of c x None es = Known (intrinsic x) es

abbrev mutual
  pub expr_of : Context → EflExpr → Expr
  expr_of c (efl.Int z) = Int z
  expr_of c (efl.Truth b) = Truth b
  expr_of c (efl.At p) = value_at c (is_target_call c.names p) p
  expr_of c (efl.Call x es) = call_of c x (called c x) (exprs_of c es)
  expr_of c (efl.Group a) = Group (expr_of c a)
  expr_of c (efl.Plus a) = Plus (expr_of c a)
  expr_of c (efl.Minus a) = Minus (expr_of c a)
  expr_of c (efl.Not a) = Not (expr_of c a)
  expr_of c (efl.Up p) = Up (site_of c p)
  expr_of c (efl.Down p) = Down (site_of c p)
  expr_of c (efl.Pair o a b) = Pair (op_of o) (expr_of c a) (expr_of c b)
  expr_of c (efl.Assign o p a) = Assign (option_map op_of o) (site_of c p) (expr_of c a)

  pub exprs_of : Context → EflExprs → Exprs
  exprs_of c efl.NoExpr = NoExpr
  exprs_of c (efl.AndExpr e es) = AndExpr (expr_of c e) (exprs_of c es)

  -- a call, or what stands at a place
  pub value_at : Context → Bool → EflPlace → Expr
  value_at c true (Path x es steps) = call_of c x (called c x) (exprs_of c es)
  value_at c false (Path x es steps) = At (site_behind c (Whole (numbered c x) (sort_of (variable_named c x).kind) (exprs_of c es)) (named_type c.names x es) steps)

  pub site_of : Context → EflPlace → Site
  site_of c (Path x es steps) = site_behind c (Whole (numbered c x) (sort_of (variable_named c x).kind) (exprs_of c es)) (named_type c.names x es) steps

  -- on from a site of this type
  pub site_behind : Context → Site → DataType → EflSteps → Site
  site_behind c s t efl.NoStep = s
  site_behind c s t (efl.Member x es steps) =
      site_behind c (Member s (member_index x t) (sort_of (member_type x t)) (exprs_of c es)) (subscripted (member_type x t) (many es)) steps
  site_behind c s t (efl.Overlay x steps) =
      site_behind c (Overlay s (sort_of (structured (shape_named c.names.blocks x)))) (structured (shape_named c.names.blocks x)) steps

-- ---- statements ----

-- a call that is a statement; an accepted one calls a procedure
abbrev pub invoke : Option ℕ → Exprs → Action
invoke (Some n) es = Invoke n es
invoke None es = Evaluate (Int (pos 0))

abbrev pub action_of : Context → EflExpr → Action
action_of c (efl.Call x es) = invoke (called c x) (exprs_of c es)
action_of c e = Evaluate (expr_of c e)

abbrev pub edit_of : EflEdit → Edit
edit_of (edits.Whole w) = AsInteger (unsigned_abs w)
edit_of (edits.Truth w) = AsLogical (unsigned_abs w)
edit_of edits.Letter = AsCharacter

abbrev pub written : Context → efl.WriteItem → WriteItem
written c (efl.Value e f) = Value (expr_of c e) (edit_of f)
written c (efl.WriteItem.Skip n) = Skip (unsigned_abs n)
written c (efl.Chars x) = Chars x

abbrev pub taken : Context → efl.ReadItem → ReadItem
taken c (efl.Take p f) = Take (site_of c p) (edit_of f)
taken c (efl.ReadItem.Skip n) = Pass (unsigned_abs n)

-- the first label is the outermost
abbrev pub labelled : List Text → Place → Stmt → Stmt
labelled [] p s = s
labelled (l ∷ ls) p s = Labelled l p (labelled ls p s)

abbrev mutual
  pub stmt_of : Context → EflStmt → Stmt
  stmt_of c (Statement ls p k) = labelled ls p (kind_of c p k)

  pub kind_of : Context → Place → EflKind → Stmt
  kind_of c p efl.Empty = Empty p
  kind_of c p (efl.Block ds ss) = Block p (stmts_from 0 (within c (in_list ss (opened ds c.around))) ss)
  kind_of c p (efl.Act e) = Act p (action_of c e)
  kind_of c p (efl.If e s) = If p (expr_of c e) (stmt_of c s)
  kind_of c p (efl.IfElse e s t) = IfElse p (expr_of c e) (stmt_of (within c (into 0 c.around)) s) (stmt_of (within c (into 1 c.around)) t)
  kind_of c p (efl.While e s) = While p (expr_of c e) (stmt_of (within c (in_loop loops.While c.around)) s)
  kind_of c p (efl.For a e b s) = For p (option_map (action_of c) a) (option_map (expr_of c) e) (option_map (action_of c) b) (stmt_of (within c (in_loop loops.For c.around)) s)
  kind_of c p (efl.Repeat s) = Repeat p (stmt_of (within c (in_loop loops.Repeat c.around)) s)
  kind_of c p (efl.RepeatUntil s e q) = RepeatUntil p (stmt_of (within c (in_loop loops.Repeat c.around)) s) (expr_of c e) q
  kind_of c p (efl.Do x a b d s) = Do p (numbered c x) (expr_of c a) (expr_of c b) (option_map (expr_of c) d) (stmt_of (within c (in_loop loops.Do c.around)) s)
  kind_of c p (efl.Switch e cs) = Switch p (expr_of c e) (clauses_from 0 (within c (in_loop loops.Switch c.around)) cs)
  kind_of c p (efl.Break n o) = Break p n o
  kind_of c p (efl.Next n o) = Next p n o
  kind_of c p (efl.Return e) = Return p (option_map (expr_of c) e)
  kind_of c p (efl.Goto l) = Goto p l
  kind_of c p (efl.Write e is') = Write p (option_map (expr_of c) e) (map (written c) is')
  kind_of c p (efl.Read e is') = Read p (option_map (expr_of c) e) (map (taken c) is')

  pub stmts_from : ℕ → Context → EflStmts → Stmts
  stmts_from n c efl.NoStmt = NoStmt
  stmts_from n c (efl.AndStmt s ss) = AndStmt (stmt_of (within c (into n c.around)) s) (stmts_from (n + 1) c ss)

  pub clauses_from : ℕ → Context → EflCases → Clauses
  clauses_from n c NoCase = NoClause
  clauses_from n c (AndCase zs fallback ss p cs) = AndClause zs fallback (stmts_from 0 (within c (in_list ss (into n c.around))) ss) p (clauses_from (n + 1) c cs)

-- ---- procedures ----

abbrev pub base_names : List EflProcedure → EflProcedure → Names
base_names us u = record { blocks = []; implied = implied_of u; units = signatures us; result = result_of u.result }

abbrev pub context_in : List EflProcedure → List Located → Names → Around → Context
context_in us xs n a = record { procedures = us; variables = xs; names = record n { blocks = a.blocks }; around = a }

-- where the body of the procedure with this number begins
abbrev pub body_around : ℕ → EflProcedure → Around
body_around n u = among (behind_all (outer u) u.declarations) (around_unit n u)

abbrev pub context_of : EflProgram → ℕ → EflProcedure → Context
context_of p n u = context_in p.procedures (program_variables p) (base_names p.procedures u) (body_around n u)

abbrev pub body_if : EflProgram → ℕ → Option EflProcedure → Stmts
body_if p n None = NoStmt
body_if p n (Some u) = stmts_from 0 (context_of p n u) u.body

-- the statements of each procedure
abbrev pub bodies_of : EflProgram → ℕ → Stmts
bodies_of p n = body_if p n (slice_get p.procedures n)
