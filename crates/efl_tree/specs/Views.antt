-- The trees in memory, as plain data.
use Rattle.std.specs.Prelude.{List, [], ◌∷◌, Option, None, Some, map}
use Rattle.ground.specs.declared.place.Place.{Place}
use Rattle.efl_tree.specs.declared.expression.EflExpr as exprs
use Rattle.efl_tree.specs.declared.expression.EflExpr.TheBlock as e
use Rattle.efl_tree.specs.declared.expression.EflPlace as places
use Rattle.efl_tree.specs.declared.expression.EflStep as steps
use Rattle.efl_tree.specs.declared.declaration.EflVar as vars
use Rattle.efl_tree.specs.declared.declaration.EflType as types
use Rattle.efl_tree.specs.declared.declaration.EflType.TheBlock as t
use Rattle.efl_tree.specs.declared.declaration.EflGroup as groups
use Rattle.efl_tree.specs.declared.declaration.EflPreset as presets
use Rattle.efl_tree.specs.declared.declaration.EflDecl as decls
use Rattle.efl_tree.specs.declared.declaration.EflDeclKind as decl_kinds
use Rattle.efl_tree.specs.declared.declaration.EflDeclKind.TheVariants as d
use Rattle.efl_tree.specs.declared.statement.WriteItem as write_items
use Rattle.efl_tree.specs.declared.statement.WriteItem.TheVariants as w
use Rattle.efl_tree.specs.declared.statement.ReadItem as read_items
use Rattle.efl_tree.specs.declared.statement.ReadItem.TheVariants as r
use Rattle.efl_tree.specs.declared.statement.EflStmt as stmts
use Rattle.efl_tree.specs.declared.statement.EflCase as cases
use Rattle.efl_tree.specs.declared.statement.EflKind as kinds
use Rattle.efl_tree.specs.declared.statement.EflKind.TheBlock as k
use Rattle.efl_tree.specs.declared.procedure.EflProcedure as procedures
use Rattle.efl_tree.specs.declared.procedure.EflProgram as programs
use Rattle.efl_tree.specs.Syntax.{Text, EflExpr, Int, Truth, At, Call, Group, Plus, Minus, Not, Up, Down, Pair, Assign, EflExprs, NoExpr, AndExpr, EflPlace, Path, EflSteps, NoStep, Member, Overlay, EflVar, EflType, Integer, Logical, Real, Complex, Named, Shape, EflGroups, NoGroup, AndGroup, EflPreset, EflDeclKind, Implicit, Initial, Variables, Area, Structure, EflDecl, WriteItem, Value, Chars, ReadItem, Take, EflStmt, Statement, EflKind, Empty, Block, Act, If, IfElse, While, For, Repeat, RepeatUntil, Do, Switch, Break, Next, Return, Goto, Write, Read, EflStmts, NoStmt, AndStmt, EflCases, NoCase, AndCase, EflProcedure, EflProgram}
use Rattle.efl_tree.specs.Syntax as efl

abbrev mutual
  pub expr_of : exprs.EflExpr → EflExpr
  expr_of (e.Int z) = Int z
  expr_of (e.Truth b) = Truth b
  expr_of (e.At' x n all m path) = At (Path x (row_exprs all) (row_steps path))
  expr_of (e.Call' x n all) = Call x (row_exprs all)
  expr_of (e.Group' p a) = Group (expr_of a)
  expr_of (e.Plus' p a) = Plus (expr_of a)
  expr_of (e.Minus' p a) = Minus (expr_of a)
  expr_of (e.Not' p a) = Not (expr_of a)
  expr_of (e.Up' x n all m path) = Up (Path x (row_exprs all) (row_steps path))
  expr_of (e.Down' x n all m path) = Down (Path x (row_exprs all) (row_steps path))
  expr_of (e.Pair' o p a q b) = Pair o (expr_of a) (expr_of b)
  expr_of (e.Assign' o x n all m path p a) = Assign o (Path x (row_exprs all) (row_steps path)) (expr_of a)

  pub row_exprs : {m : _} → e.Row_of-EflExpr m → EflExprs
  row_exprs e.end_of-EflExpr = NoExpr
  row_exprs (e.more_of-EflExpr a rest) = AndExpr (expr_of a) (row_exprs rest)

  -- a step, and those that follow it
  pub step_then : steps.EflStep → EflSteps → EflSteps
  step_then (e.Member' x n all) rest = Member x (row_exprs all) rest
  step_then (e.Overlay x) rest = Overlay x rest

  pub row_steps : {m : _} → e.Row_of-EflStep m → EflSteps
  row_steps e.end_of-EflStep = NoStep
  row_steps (e.more_of-EflStep a rest) = step_then a (row_steps rest)

abbrev pub exprs_of : List exprs.EflExpr → EflExprs
exprs_of [] = NoExpr
exprs_of (a ∷ all) = AndExpr (expr_of a) (exprs_of all)

abbrev pub steps_of : List steps.EflStep → EflSteps
steps_of [] = NoStep
steps_of (a ∷ all) = step_then a (steps_of all)

abbrev pub place_of : places.EflPlace → EflPlace
place_of p = Path p.first (exprs_of p.subscripts.items) (steps_of p.steps.items)

abbrev pub expr_if_any : Option exprs.EflExpr → Option EflExpr
expr_if_any None = None
expr_if_any (Some a) = Some (expr_of a)

abbrev pub var_of : vars.EflVar → EflVar
var_of v = record { name = v.name; bounds = v.bounds.items }

abbrev pub vars_of : List vars.EflVar → List EflVar
vars_of all = map var_of all

abbrev mutual
  pub type_of : types.EflType → EflType
  type_of t.Integer = Integer
  type_of t.Logical = Logical
  type_of (t.Real b) = Real b
  type_of (t.Complex b) = Complex b
  type_of (t.Named x) = Named x
  type_of (t.Shape' x n all) = Shape x (row_groups all)

  pub row_groups : {m : _} → t.Row_of-EflGroup m → EflGroups
  row_groups t.end_of-EflGroup = NoGroup
  row_groups (t.more_of-EflGroup a vs p rest) = AndGroup (type_of a) (vars_of vs.items) p (row_groups rest)

-- a group, and those that follow it
abbrev pub group_then : groups.EflGroup → EflGroups → EflGroups
group_then g rest = AndGroup (type_of g.kind) (vars_of g.variables.items) g.place rest

abbrev pub groups_of : List groups.EflGroup → EflGroups
groups_of [] = NoGroup
groups_of (g ∷ all) = group_then g (groups_of all)

abbrev pub preset_of : presets.EflPreset → EflPreset
preset_of p = record { place = place_of p.place; values = p.values.items; listed = p.listed }

abbrev pub decl_kind_of : decl_kinds.EflDeclKind → EflDeclKind
decl_kind_of (d.Implicit all a) = Implicit all.items (type_of a)
decl_kind_of (d.Initial all) = Initial (map preset_of all.items)
decl_kind_of (d.Variables x a vs) = Variables x (type_of a) (vars_of vs.items)
decl_kind_of (d.Area x all) = Area x (groups_of all.items)
decl_kind_of (d.Structure x all) = Structure x (groups_of all.items)

abbrev pub decl_of : decls.EflDecl → EflDecl
decl_of a = record { kind = decl_kind_of a.kind; place = a.place }

abbrev pub decls_of : List decls.EflDecl → List EflDecl
decls_of all = map decl_of all

abbrev pub write_item_of : write_items.WriteItem → WriteItem
write_item_of (w.Value a f) = Value (expr_of a) f
write_item_of (w.Skip n) = efl.Skip n
write_item_of (w.Chars x) = Chars x

abbrev pub read_item_of : read_items.ReadItem → ReadItem
read_item_of (r.Take p f) = Take (place_of p) f
read_item_of (r.Skip n) = efl.Skip n

abbrev pub repeated : EflStmt → Option (exprs.EflExpr × Place) → EflKind
repeated s None = Repeat s
repeated s (Some u) = RepeatUntil s (expr_of u.0) u.1

abbrev mutual
  pub kind_of : kinds.EflKind → EflKind
  kind_of k.Empty = Empty
  kind_of (k.Block' ds n all) = Block (decls_of ds.items) (row_stmts all)
  kind_of (k.Act a) = Act (expr_of a)
  kind_of (k.If' a q ls p s other) = either_of (expr_of a) (Statement ls.items p (kind_of s)) other
  kind_of (k.While' a q ls p s) = While (expr_of a) (Statement ls.items p (kind_of s))
  kind_of (k.For' a b c q ls p s) = For (expr_if_any a) (expr_if_any b) (expr_if_any c) (Statement ls.items p (kind_of s))
  kind_of (k.Repeat' q ls p s o) = repeated (Statement ls.items p (kind_of s)) o
  kind_of (k.Do' x a b c q ls p s) = Do x (expr_of a) (expr_of b) (expr_if_any c) (Statement ls.items p (kind_of s))
  kind_of (k.Switch' a n all) = Switch (expr_of a) (row_cases all)
  kind_of (k.Break n o) = Break n o
  kind_of (k.Next n o) = Next n o
  kind_of (k.Return a) = Return (expr_if_any a)
  kind_of (k.Goto x) = Goto x
  kind_of (k.Write a all) = Write (expr_if_any a) (map write_item_of all.items)
  kind_of (k.Read a all) = Read (expr_if_any a) (map read_item_of all.items)

  pub either_of : EflExpr → EflStmt → k.Held-EflKind-If-2 → EflKind
  either_of a s k.None' = If a s
  either_of a s (k.Some' q ls p t) = IfElse a s (Statement ls.items p (kind_of t))

  pub row_stmts : {m : _} → k.Row_of-EflStmt m → EflStmts
  row_stmts k.end_of-EflStmt = NoStmt
  row_stmts (k.more_of-EflStmt ls p s rest) = AndStmt (Statement ls.items p (kind_of s)) (row_stmts rest)

  pub row_cases : {m : _} → k.Row_of-EflCase m → EflCases
  row_cases k.end_of-EflCase = NoCase
  row_cases (k.more_of-EflCase c rest) = case_then c (row_cases rest)

  -- a clause, and those that follow it
  pub case_then : cases.EflCase → EflCases → EflCases
  case_then (cases.EflCase' tests fallback n body p) rest = AndCase tests.items fallback (row_stmts body) p rest

abbrev pub stmt_of : stmts.EflStmt → EflStmt
stmt_of s = Statement s.labels.items s.place (kind_of s.kind)

abbrev pub stmts_of : List stmts.EflStmt → EflStmts
stmts_of [] = NoStmt
stmts_of (s ∷ all) = AndStmt (stmt_of s) (stmts_of all)

abbrev pub cases_of : List cases.EflCase → EflCases
cases_of [] = NoCase
cases_of (c ∷ all) = case_then c (cases_of all)

abbrev pub type_if_any : Option types.EflType → Option EflType
type_if_any None = None
type_if_any (Some a) = Some (type_of a)

abbrev pub procedure_of : procedures.EflProcedure → EflProcedure
procedure_of a = record {
  result = type_if_any a.result;
  name = a.name;
  formals = a.formals.items;
  declarations = decls_of a.declarations.items;
  body = stmts_of a.body.items;
  place = a.place;
  finish = a.finish;
}

abbrev pub program_of : programs.EflProgram → EflProgram
program_of p = record { procedures = map procedure_of p.procedures.items; finish = p.finish }
