-- The trees of EFL as plain data: the same forms with no pointers and no capacities.
use Rattle.std.specs.Prelude.{ℕ, ℤ, Bool, List, Option}
use Rattle.ground.specs.declared.place.Place.{Place}
use Rattle.efl_tree.specs.declared.expression.EflOperator.{EflOperator}
use Rattle.efl_tree.specs.declared.declaration.EflBound.{EflBound}
use Rattle.efl_tree.specs.declared.declaration.EflConst.{EflConst}
use Rattle.efl_tree.specs.declared.statement.LoopKind.{LoopKind}
use Rattle.efl_tree.specs.declared.statement.EflEdit.{EflEdit}

-- a name, a label or a text, by its characters
abbrev pub Text : Type 0
Text = List ℕ

mutual
  pub data EflExpr : Type 0 where
    Int : ℤ → EflExpr
    Truth : Bool → EflExpr
    At : EflPlace → EflExpr
    -- an act, or empty parentheses within an expression
    Call : Text → EflExprs → EflExpr
    Group : EflExpr → EflExpr
    Plus : EflExpr → EflExpr
    Minus : EflExpr → EflExpr
    Not : EflExpr → EflExpr
    Up : EflPlace → EflExpr
    Down : EflPlace → EflExpr
    Pair : EflOperator → EflExpr → EflExpr → EflExpr
    Assign : Option EflOperator → EflPlace → EflExpr → EflExpr

  pub data EflExprs : Type 0 where
    NoExpr : EflExprs
    AndExpr : EflExpr → EflExprs → EflExprs

  -- a place of a variable: its first name, subscripts and steps
  pub data EflPlace : Type 0 where
    Path : Text → EflExprs → EflSteps → EflPlace

  pub data EflSteps : Type 0 where
    NoStep : EflSteps
    Member : Text → EflExprs → EflSteps → EflSteps
    Overlay : Text → EflSteps → EflSteps

pub record EflVar : Type 0 where
  pub name : Text
  pub bounds : List EflBound

mutual
  pub data EflType : Type 0 where
    Integer : EflType
    Logical : EflType
    -- long is true
    Real : Bool → EflType
    Complex : Bool → EflType
    Named : Text → EflType
    Shape : Option Text → EflGroups → EflType

  pub data EflGroups : Type 0 where
    NoGroup : EflGroups
    AndGroup : EflType → List EflVar → Place → EflGroups → EflGroups

pub record EflPreset : Type 0 where
  pub place : EflPlace
  pub values : List (ℕ × EflConst)
  pub listed : Bool

-- what a declaration says
pub data EflDeclKind : Type 0 where
  Implicit : List (ℕ × ℕ) → EflType → EflDeclKind
  Initial : List EflPreset → EflDeclKind
  Variables : Option Text → EflType → List EflVar → EflDeclKind
  Area : Text → EflGroups → EflDeclKind
  Structure : Text → EflGroups → EflDeclKind

pub record EflDecl : Type 0 where
  pub kind : EflDeclKind
  pub place : Place

pub data WriteItem : Type 0 where
  Value : EflExpr → EflEdit → WriteItem
  Skip : ℤ → WriteItem
  Chars : Text → WriteItem

pub data ReadItem : Type 0 where
  Take : EflPlace → EflEdit → ReadItem
  Skip : ℤ → ReadItem

mutual
  -- labels, the place behind them, and what it is
  pub data EflStmt : Type 0 where
    Statement : List Text → Place → EflKind → EflStmt

  pub data EflKind : Type 0 where
    Empty : EflKind
    Block : List EflDecl → EflStmts → EflKind
    Act : EflExpr → EflKind
    If : EflExpr → EflStmt → EflKind
    IfElse : EflExpr → EflStmt → EflStmt → EflKind
    While : EflExpr → EflStmt → EflKind
    For : Option EflExpr → Option EflExpr → Option EflExpr → EflStmt → EflKind
    Repeat : EflStmt → EflKind
    RepeatUntil : EflStmt → EflExpr → Place → EflKind
    Do : Text → EflExpr → EflExpr → Option EflExpr → EflStmt → EflKind
    Switch : EflExpr → EflCases → EflKind
    Break : ℕ → Option LoopKind → EflKind
    Next : ℕ → Option LoopKind → EflKind
    Return : Option EflExpr → EflKind
    Goto : Text → EflKind
    Write : Option EflExpr → List WriteItem → EflKind
    Read : Option EflExpr → List ReadItem → EflKind

  pub data EflStmts : Type 0 where
    NoStmt : EflStmts
    AndStmt : EflStmt → EflStmts → EflStmts

  -- the clauses of a switch: the constants, whether it is the default, the statements, and the place
  pub data EflCases : Type 0 where
    NoCase : EflCases
    AndCase : List ℤ → Bool → EflStmts → Place → EflCases → EflCases

-- no name is the main; the finish is the place of `end`
pub record EflProcedure : Type 0 where
  pub result : Option EflType
  pub name : Option Text
  pub formals : List Text
  pub declarations : List EflDecl
  pub body : EflStmts
  pub place : Place
  pub finish : Place

pub record EflProgram : Type 0 where
  pub procedures : List EflProcedure
  pub finish : Place
