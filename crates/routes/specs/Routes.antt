-- Structured statements over those of FORTRAN. A ring is a list of statements that a statement in it may leave; rings are
-- counted from the inside out. A cycle is a ring of two lists, which are done in turn until one of them leaves it.
use Rattle.std.specs.Prelude.{ℕ}
use Rattle.ground.specs.declared.place.Place.{Place}
use Rattle.f66_tree.specs.declared.editing.Way.{Way}
use Rattle.f66_tree.specs.Fields.{Fields}
use Rattle.f66_tree.specs.Syntax.{Formula, Par, Entries, Act}

mutual
  pub data Route : Type 0 where
    -- a plain statement
    Plain : Place → Act → Route
    -- leaves so many rings more than the innermost where the condition holds
    BreakIf : Place → Formula → ℕ → Route
    Break : Place → ℕ → Route
    Ring : Place → Routes → Route
    Cycle : Place → Routes → Routes → Route
    -- a list whose labels a jump out of it may reach, and one without
    Block : Routes → Route
    InTurn : Routes → Route
    Labelled : ℕ → Place → Route → Route
    -- a READ or WRITE with its format
    Transfer : Place → Way → Par → Fields → Entries → Route

  pub data Routes : Type 0 where
    NoRoute : Routes
    AndRoute : Route → Routes → Routes

-- one list behind another
abbrev pub joined : Routes → Routes → Routes
joined NoRoute ss = ss
joined (AndRoute r rs) ss = AndRoute r (joined rs ss)

abbrev pub only : Route → Routes
only r = AndRoute r NoRoute
