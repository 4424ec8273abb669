-- The instructions as plain data, where those that differ in an operator, a type or a way alone are one.
use Rattle.std.specs.Prelude.{ℕ, List, Option}
use Rattle.ground.specs.declared.place.Place.{Place}
use Rattle.ground.specs.declared.value.Kind.{Kind}
use Rattle.ground.specs.Content.{Content}
use Rattle.f66_tree.specs.declared.expression.Operator.{Operator}
use Rattle.f66_tree.specs.declared.editing.Way.{Way}

pub data Instruction : Type 0 where
  -- a statement begins, or a turn of an implied DO
  Begin : Place → Instruction
  Step : Instruction
  -- a value, a spot of units, a dummy, an element
  Push : Content → Instruction
  PushSpot : ℕ → ℕ → Instruction
  Dummy : ℕ → Instruction
  Element : ℕ → Instruction
  Load : Kind → Instruction
  Store : Instruction
  Forget : Instruction
  Lend : ℕ → Instruction
  -- an operator of integers or truth values, a comparison, a sign, an intrinsic function
  Both : Operator → Instruction
  Compare : Operator → Instruction
  Minus : Instruction
  Not : Instruction
  Known : ℕ → ℕ → Instruction
  Jump : ℕ → Instruction
  JumpFalse : ℕ → Instruction
  JumpSign : ℕ → ℕ → ℕ → Instruction
  JumpTable : List ℕ → Instruction
  LoopStart : ℕ → ℕ → Instruction
  LoopTurn : ℕ → ℕ → ℕ → Instruction
  Call : ℕ → ℕ → Instruction
  Return : Instruction
  -- a READ or WRITE by a plan begins, an item, an array whole, its end
  Start : Way → ℕ → Instruction
  Item : Way → Kind → Instruction
  Row : Way → Kind → ℕ → Instruction
  Finish : Instruction
  Halt : Option ℕ → Instruction
