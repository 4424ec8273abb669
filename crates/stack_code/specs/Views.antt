-- The instructions in memory, as plain data.
use Rattle.std.specs.Prelude.{List, map, Some, None}
use Rattle.ground.specs.declared.value.Kind.TheVariants as kinds
use Rattle.ground.specs.Content.{Whole, Truth}
use Rattle.f66_tree.specs.declared.expression.Operator.TheVariants as operators
use Rattle.f66_tree.specs.declared.editing.Way.TheVariants.{Reading, Writing}
use Rattle.stack_code.specs.declared.op.Op.{Op}
use Rattle.stack_code.specs.declared.op.Op.TheVariants as o
use Rattle.stack_code.specs.Instructions.{Instruction, Begin, Step, Push, PushSpot, Dummy, Element, Load, Store, Forget, Lend, Both, Compare, Minus, Not, Known, Jump, JumpFalse, JumpSign, JumpTable, LoopStart, LoopTurn, Call, Return, Start, Item, Row, Finish, Halt}

abbrev pub instruction_of : Op → Instruction
instruction_of (o.Begin p) = Begin p
instruction_of o.Step = Step
instruction_of (o.PushInt z) = Push (Whole z)
instruction_of (o.PushLog b) = Push (Truth b)
instruction_of (o.Spot first size) = PushSpot first size
instruction_of (o.Dummy i) = Dummy i
instruction_of (o.Element n) = Element n
instruction_of o.LoadInt = Load kinds.Integer
instruction_of o.LoadLog = Load kinds.Logical
instruction_of o.Store = Store
instruction_of o.Forget = Forget
instruction_of (o.Lend q) = Lend q
instruction_of o.Add = Both operators.Add
instruction_of o.Sub = Both operators.Sub
instruction_of o.Mul = Both operators.Mul
instruction_of o.Div = Both operators.Div
instruction_of o.Pow = Both operators.Power
instruction_of o.Minus = Minus
instruction_of o.Not = Not
instruction_of o.And = Both operators.And
instruction_of o.Or = Both operators.Or
instruction_of (o.Compare op) = Compare op
instruction_of (o.Known g n) = Known g n
instruction_of (o.Jump t) = Jump t
instruction_of (o.JumpFalse t) = JumpFalse t
instruction_of (o.JumpSign a b c) = JumpSign a b c
instruction_of (o.JumpTable ts) = JumpTable ts.items
instruction_of (o.LoopStart limit step) = LoopStart limit step
instruction_of (o.LoopTurn limit step t) = LoopTurn limit step t
instruction_of (o.Call t n) = Call t n
instruction_of o.Return = Return
instruction_of (o.WriteStart p) = Start Writing p
instruction_of (o.ReadStart p) = Start Reading p
instruction_of (o.PutItem k) = Item Writing k
instruction_of (o.TakeItem k) = Item Reading k
instruction_of (o.PutRow k n) = Row Writing k n
instruction_of (o.TakeRow k n) = Row Reading k n
instruction_of o.Finish = Finish
instruction_of o.Halt = Halt None
instruction_of (o.HaltWith n) = Halt (Some n)

abbrev pub code_of : List Op → List Instruction
code_of ops = map instruction_of ops
