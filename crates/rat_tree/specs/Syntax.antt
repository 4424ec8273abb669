-- The trees of Ratfor as plain data.
use Rattle.std.specs.Prelude.{ℕ, Bool, List, Option}
use Rattle.ground.specs.declared.place.Place.{Place}
use Rattle.f66_tree.specs.Syntax.{Text, Formula, Formulas, Par, Header, Act}

mutual
  pub data Command : Type 0 where
    Empty : Place → Command
    Block : Place → Commands → Command
    If : Place → Formula → Command → Command
    IfElse : Place → Formula → Command → Command → Command
    While : Place → Formula → Command → Command
    For : Place → Option Act → Option Formula → Option Act → Command → Command
    Repeat : Place → Command → Command
    RepeatUntil : Place → Command → Formula → Place → Command
    Do : Place → Text → Par → Par → Par → Command → Command
    Switch : Place → Formula → Clauses → Command
    Break : Place → ℕ → Command
    Next : Place → ℕ → Command
    Return : Place → Option Formula → Command
    -- a plain statement has its own label; any other statement with a label is Marked
    Plain : Option ℕ → Place → Act → Command
    Labelled : ℕ → Place → Command → Command

  pub data Commands : Type 0 where
    NoCommand : Commands
    AndCommand : Command → Commands → Commands

  -- the clauses of a switch: the case expressions, whether it is the default, the statements, and the place
  pub data Clauses : Type 0 where
    NoClause : Clauses
    AndClause : Formulas → Bool → Commands → Place → Clauses → Clauses

pub record RatRoutine : Type 0 where
  pub header : Header
  pub body : Commands
  pub place : Place

pub record RatProgram : Type 0 where
  pub routines : List RatRoutine
  pub finish : Place
