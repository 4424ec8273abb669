-- The printed text of stack code: a line for each instruction, with its number, its name and its operands, and then one for each
-- plan, with its number and its FORMAT.
use Rattle.std.specs.Prelude.{ℕ, ◌-◌, Bool, true, false, List, [], ◌∷◌, ◌++◌, length, map, replicate, codes, decimal}
use Rattle.std.specs.Fmt.{signed_decimal}
use Rattle.std.specs.List.{flat_map, enumerate_from}
use Rattle.ground.specs.declared.value.Kind.{Kind}
use Rattle.ground.specs.declared.value.Kind.TheVariants.{Integer, Logical}
use Rattle.f66_tree.specs.declared.expression.Operator.{Operator}
use Rattle.f66_tree.specs.declared.expression.Operator.TheVariants as operators
use Rattle.f66_tree.specs.Fields.{Fields}
use Rattle.f66_tree.specs.Syntax.{Format}
use Rattle.stack_code.specs.declared.op.Op.{Op}
use Rattle.stack_code.specs.declared.op.Op.TheVariants as o
use Rattle.stmt_text.specs.Texts.{statement_text}

abbrev pub name : Op → List ℕ
name (o.Begin p) = codes "Begin"
name o.Step = codes "Step"
name (o.PushInt z) = codes "PushInt"
name (o.PushLog b) = codes "PushLog"
name (o.Spot first size) = codes "Spot"
name (o.Dummy i) = codes "Dummy"
name (o.Element n) = codes "Element"
name o.LoadInt = codes "LoadInt"
name o.LoadLog = codes "LoadLog"
name o.Store = codes "Store"
name o.Forget = codes "Forget"
name (o.Lend q) = codes "Lend"
name o.Add = codes "Add"
name o.Sub = codes "Sub"
name o.Mul = codes "Mul"
name o.Div = codes "Div"
name o.Pow = codes "Pow"
name o.Minus = codes "Minus"
name o.Not = codes "Not"
name o.And = codes "And"
name o.Or = codes "Or"
name (o.Compare op) = codes "Compare"
name (o.Known g n) = codes "Known"
name (o.Jump t) = codes "Jump"
name (o.JumpFalse t) = codes "JumpFalse"
name (o.JumpSign a b c) = codes "JumpSign"
name (o.JumpTable ts) = codes "JumpTable"
name (o.LoopStart limit step) = codes "LoopStart"
name (o.LoopTurn limit step t) = codes "LoopTurn"
name (o.Call t n) = codes "Call"
name o.Return = codes "Return"
name (o.WriteStart p) = codes "WriteStart"
name (o.ReadStart p) = codes "ReadStart"
name (o.PutItem k) = codes "PutItem"
name (o.TakeItem k) = codes "TakeItem"
name (o.PutRow k n) = codes "PutRow"
name (o.TakeRow k n) = codes "TakeRow"
name o.Finish = codes "Finish"
name o.Halt = codes "Halt"
name (o.HaltWith n) = codes "HaltWith"

abbrev pub truth_word : Bool → List ℕ
truth_word true = codes "true"
truth_word false = codes "false"

abbrev pub kind_word : Kind → List ℕ
kind_word Integer = codes "Integer"
kind_word Logical = codes "Logical"

abbrev pub operator_word : Operator → List ℕ
operator_word operators.Add = codes "Add"
operator_word operators.Sub = codes "Sub"
operator_word operators.Mul = codes "Mul"
operator_word operators.Div = codes "Div"
operator_word operators.Power = codes "Power"
operator_word operators.Lt = codes "Lt"
operator_word operators.Le = codes "Le"
operator_word operators.Eq = codes "Eq"
operator_word operators.Ne = codes "Ne"
operator_word operators.Ge = codes "Ge"
operator_word operators.Gt = codes "Gt"
operator_word operators.And = codes "And"
operator_word operators.Or = codes "Or"

-- a place by its file's number and its line; a jump by its targets
abbrev pub operands : Op → List (List ℕ)
operands (o.Begin p) = decimal p.file ∷ decimal p.line ∷ []
operands (o.PushInt z) = signed_decimal z ∷ []
operands (o.PushLog b) = truth_word b ∷ []
operands (o.Spot first size) = decimal first ∷ decimal size ∷ []
operands (o.Dummy i) = decimal i ∷ []
operands (o.Element n) = decimal n ∷ []
operands (o.Lend q) = decimal q ∷ []
operands (o.Compare op) = operator_word op ∷ []
operands (o.Known g n) = decimal g ∷ decimal n ∷ []
operands (o.Jump t) = decimal t ∷ []
operands (o.JumpFalse t) = decimal t ∷ []
operands (o.JumpSign a b c) = decimal a ∷ decimal b ∷ decimal c ∷ []
operands (o.JumpTable ts) = map decimal ts.items
operands (o.LoopStart limit step) = decimal limit ∷ decimal step ∷ []
operands (o.LoopTurn limit step t) = decimal limit ∷ decimal step ∷ decimal t ∷ []
operands (o.Call t n) = decimal t ∷ decimal n ∷ []
operands (o.WriteStart p) = decimal p ∷ []
operands (o.ReadStart p) = decimal p ∷ []
operands (o.PutItem k) = kind_word k ∷ []
operands (o.TakeItem k) = kind_word k ∷ []
operands (o.PutRow k n) = kind_word k ∷ decimal n ∷ []
operands (o.TakeRow k n) = kind_word k ∷ decimal n ∷ []
operands (o.HaltWith n) = decimal n ∷ []
operands _ = []

-- a blank before each word
abbrev pub spaced : List (List ℕ) → List ℕ
spaced words = flat_map (λ word. 32 ∷ word) words

-- at least six digits
abbrev pub line_number : ℕ → List ℕ
line_number n = replicate (6 - length (decimal n)) 48 ++ decimal n

abbrev pub instruction_line : ℕ × Op → List ℕ
instruction_line (n, op) = line_number n ++ spaced (name op ∷ operands op) ++ 10 ∷ []

abbrev pub instruction_lines : List Op → List ℕ
instruction_lines ops = flat_map instruction_line (enumerate_from 0 ops)

abbrev pub plan_line : ℕ × Fields → List ℕ
plan_line (n, fields) = line_number n ++ spaced (statement_text (Format fields) ∷ []) ++ 10 ∷ []

abbrev pub plan_lines : List Fields → List ℕ
plan_lines plans = flat_map plan_line (enumerate_from 0 plans)

abbrev pub listing : List Op → List Fields → List ℕ
listing ops plans = instruction_lines ops ++ plan_lines plans
