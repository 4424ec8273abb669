-- The typed trees of EFL as plain data: each name is a number with its sort, and no name stands for two things.
use Rattle.std.specs.Prelude.{ℕ, ℤ, Bool, List, Option}
use Rattle.ground.specs.declared.place.Place.{Place}
use Rattle.ground.specs.declared.value.Kind.{Kind}
use Rattle.f66_tree.specs.declared.expression.Operator.{Operator}
use Rattle.f66_tree.specs.Syntax.{Text}
use Rattle.f66_tree.specs.Evaluation.{Intrinsic}
use Rattle.efl_tree.specs.declared.statement.LoopKind.{LoopKind}

-- the bounds of one dimension; the last one of a formal may have no upper one
pub record TypedBound : Type 0 where
  pub low : ℤ
  pub high : Option ℤ

-- the sort of a variable or member: a structure has its members in order, an array its bounds and what its elements are
mutual
  pub data Sort : Type 0 where
    Scalar : Kind → Sort
    Shape : Sorts → Sort
    Array : List TypedBound → Sort → Sort

  pub data Sorts : Type 0 where
    NoSort : Sorts
    AndSort : Sort → Sorts → Sorts

-- an operator of FORTRAN, or one that may skip its right side
pub data Op : Type 0 where
  Plain : Operator → Op
  AndThen : Op
  OrElse : Op

mutual
  pub data Expr : Type 0 where
    Int : ℤ → Expr
    Truth : Bool → Expr
    -- what stands at a site
    At : Site → Expr
    -- a procedure that has a type
    Call : ℕ → Kind → Exprs → Expr
    Known : Intrinsic → Exprs → Expr
    Group : Expr → Expr
    Plus : Expr → Expr
    Minus : Expr → Expr
    Not : Expr → Expr
    Up : Site → Expr
    Down : Site → Expr
    Pair : Op → Expr → Expr → Expr
    Assign : Option Op → Site → Expr → Expr

  pub data Exprs : Type 0 where
    NoExpr : Exprs
    AndExpr : Expr → Exprs → Exprs

  -- where something is: a variable or a member of what is there, each with its sort and subscripts; or a structure laid over it
  pub data Site : Type 0 where
    Variable : ℕ → Sort → Exprs → Site
    Member : Site → ℕ → Sort → Exprs → Site
    Overlay : Site → Sort → Site

-- a statement without control that may also stand in a `for`
pub data Action : Type 0 where
  Evaluate : Expr → Action
  Invoke : ℕ → Exprs → Action

pub data Edit : Type 0 where
  AsInteger : ℕ → Edit
  AsLogical : ℕ → Edit
  AsCharacter : Edit

-- an item of `write` and of `read`
pub data WriteItem : Type 0 where
  Value : Expr → Edit → WriteItem
  Skip : ℕ → WriteItem
  Chars : Text → WriteItem

pub data ReadItem : Type 0 where
  Take : Site → Edit → ReadItem
  Pass : ℕ → ReadItem

mutual
  pub data Stmt : Type 0 where
    Empty : Place → Stmt
    Block : Place → Stmts → Stmt
    Act : Place → Action → Stmt
    If : Place → Expr → Stmt → Stmt
    IfElse : Place → Expr → Stmt → Stmt → Stmt
    While : Place → Expr → Stmt → Stmt
    For : Place → Option Action → Option Expr → Option Action → Stmt → Stmt
    Repeat : Place → Stmt → Stmt
    RepeatUntil : Place → Stmt → Expr → Place → Stmt
    -- the variable's number
    Do : Place → ℕ → Expr → Expr → Option Expr → Stmt → Stmt
    Switch : Place → Expr → Clauses → Stmt
    Break : Place → ℕ → Option LoopKind → Stmt
    Next : Place → ℕ → Option LoopKind → Stmt
    Return : Place → Option Expr → Stmt
    Goto : Place → Text → Stmt
    Write : Place → Option Expr → List WriteItem → Stmt
    Read : Place → Option Expr → List ReadItem → Stmt
    Labelled : Text → Place → Stmt → Stmt

  pub data Stmts : Type 0 where
    NoStmt : Stmts
    AndStmt : Stmt → Stmts → Stmts

  -- the constants, whether it is the default, the statements, and the place
  pub data Clauses : Type 0 where
    NoClause : Clauses
    AndClause : List ℤ → Bool → Stmts → Place → Clauses → Clauses
