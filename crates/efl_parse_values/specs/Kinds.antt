-- What the parts of a text give, by what they are parts of.
use Rattle.std.specs.Prelude.{ℕ, ℤ, Bool, List, Option}
use Rattle.ground.specs.declared.place.Place.{Place}
use Rattle.efl_tree.specs.declared.expression.EflOperator.{EflOperator}
use Rattle.efl_tree.specs.declared.declaration.EflBound.{EflBound}
use Rattle.efl_tree.specs.declared.declaration.EflConst.{EflConst}
use Rattle.efl_tree.specs.declared.statement.LoopKind.{LoopKind}
use Rattle.efl_tree.specs.declared.statement.EflEdit.{EflEdit}
use Rattle.efl_tree.specs.Syntax.{Text, EflExpr, EflExprs, EflPlace, EflSteps, EflVar, EflType, EflGroups, EflPreset, EflDeclKind, EflDecl, WriteItem, ReadItem, EflStmt, EflStmts, EflCases, EflProcedure, EflProgram}

-- operators, each with the operand behind it
abbrev pub Joins : Type 0
Joins = List (EflOperator × EflExpr)

-- what an act or operand comes to behind its first name, subscripts and steps: a call, a place, or an assignment to it
pub data Tail : Type 0 where
  Called : Joins → Tail
  Reached : Joins → Tail
  Stored : Option EflOperator → EflExpr → Tail

pub record Rest : Type 0 where
  pub arguments : EflExprs
  pub steps : EflSteps
  pub tail : Tail

-- what follows the first name of a list: variables of that type, an act, or a statement that it labels; and the lists behind
pub data Opening : Type 0 where
  Declares : List EflVar → List EflDecl → EflStmts → Opening
  Begins : Rest → EflStmts → Opening
  Labels : EflStmt → EflStmts → Opening

pub data ExpressionVal : Type 0 where
  expr : EflExpr → ExpressionVal
  -- the act of `++` or `--`, and the condition of `until`
  located : Place → EflExpr → ExpressionVal
  exprs : EflExprs → ExpressionVal
  joins : Joins → ExpressionVal
  rest : Rest → ExpressionVal
  path : EflPlace → ExpressionVal
  steps : EflSteps → ExpressionVal

pub data CountVal : Type 0 where
  names : List Text → CountVal
  integer : ℤ → CountVal
  integers : List ℤ → CountVal
  upper : Option ℤ → CountVal
  range : ℕ × ℕ → CountVal
  ranges : List (ℕ × ℕ) → CountVal
  leaving : ℕ → Option LoopKind → CountVal

pub data TypeVal : Type 0 where
  typed : Place → EflType → TypeVal
  bound : EflBound → TypeVal
  bounds : List EflBound → TypeVal
  var : EflVar → TypeVal
  vars : List EflVar → TypeVal
  group : EflType → List EflVar → Place → TypeVal
  groups : EflGroups → TypeVal
  -- what stands behind a structure's name: its groups, if any, and variables
  outline : Option EflGroups → List EflVar → TypeVal

pub data DeclarationVal : Type 0 where
  constant : EflConst → DeclarationVal
  datum : ℕ → EflConst → DeclarationVal
  data_list : List (ℕ × EflConst) → DeclarationVal
  -- the values of a preset, and whether they stand in parentheses
  preset_values : Bool → List (ℕ × EflConst) → DeclarationVal
  preset : EflPreset → DeclarationVal
  presets : List EflPreset → DeclarationVal
  declared : EflDeclKind → DeclarationVal
  declaration : Place → EflDeclKind → DeclarationVal

pub data RecordVal : Type 0 where
  edit : EflEdit → RecordVal
  write_item : WriteItem → RecordVal
  write_items : List WriteItem → RecordVal
  read_item : ReadItem → RecordVal
  read_items : List ReadItem → RecordVal

pub data StatementVal : Type 0 where
  stmt : EflStmt → StatementVal
  stmts : EflStmts → StatementVal
  clause : (EflCases → EflCases) → StatementVal
  clauses : EflCases → StatementVal
  lists : List EflDecl → EflStmts → StatementVal
  opening : Opening → StatementVal

pub data ProcedureVal : Type 0 where
  heading : Option Text → List Text → ProcedureVal
  header : Place → Option EflType → Option Text → List Text → ProcedureVal
  procedure : EflProcedure → ProcedureVal
  procedures : List EflProcedure → ProcedureVal
  program : EflProgram → ProcedureVal
