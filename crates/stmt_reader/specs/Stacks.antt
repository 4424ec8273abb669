-- The machine's state in memory, as plain data.
use Rattle.std.specs.Prelude.{List, [], ◌∷◌, map, Option, Some, None}
use Rattle.f66_tree.specs.declared.expression.Expr.{Expr}
use Rattle.f66_tree.specs.Syntax.{Formula}
use Rattle.f66_tree.specs.Views.{formula_of}
use Rattle.stmt_reader.specs.declared.stack.Waiting.{Waiting}
use Rattle.stmt_reader.specs.declared.stack.Waiting.TheVariants as w
use Rattle.stmt_reader.specs.declared.stack.Stack.{Stack}
use Rattle.stmt_reader.specs.declared.stack.Operand.{Operand}
use Rattle.stmt_reader.specs.declared.stack.Operand.TheVariants as o
use Rattle.stmt_reader.specs.Machine.{Frame, Before, Raised, Lowered, Denied, Opened, Within, State, Wants, Has, Stuck}

abbrev pub frame_of : Waiting → Frame
frame_of (w.Before op a) = Before op (formula_of a)
frame_of w.Raised = Raised
frame_of w.Lowered = Lowered
frame_of w.Denied = Denied
frame_of w.Opened = Opened
frame_of (w.Within x before) = Within x (map formula_of before.items)

-- the last first
abbrev pub frames_of : List Waiting → List Frame → List Frame
frames_of [] below = below
frames_of (f ∷ fs) below = frames_of fs (frame_of f ∷ below)

abbrev pub frames : Stack → List Frame
frames s = frames_of s.waiting.items []

abbrev pub state_of : Operand → List Frame → State
state_of o.Wanted fs = Wants fs
state_of (o.Here a) fs = Has (formula_of a) fs
state_of o.Stuck fs = Stuck

abbrev pub formula_if : Option Expr → Option Formula
formula_if None = None
formula_if (Some a) = Some (formula_of a)
