-- Which code is valid: each instruction, whatever way leads there, finds what it needs.
use Rattle.std.specs.Prelude.{◌≡◌, ℕ, zero, suc, ◌+◌, ◌<◌, ◌≤◌, ◌⊎◌, nat_eq, nat_le, nat_lt, unsigned_abs, Bool, true, false, not, ◌&&◌, ◌||◌, List, [], ◌∷◌, length, Option, Some, None, slice_get, if◌then◌else◌}
use Rattle.ground.specs.declared.value.Kind.{Kind}
use Rattle.ground.specs.declared.value.Kind.TheVariants.{Integer, Logical}
use Rattle.ground.specs.Content.{Content, Nothing, Whole, Truth}
use Rattle.ground.specs.Arithmetic.{greatest}
use Rattle.f66_tree.specs.declared.expression.Operator.{Operator}
use Rattle.f66_tree.specs.declared.expression.Operator.TheVariants as operators
use Rattle.f66_tree.specs.declared.editing.Way.{Way}
use Rattle.f66_tree.specs.declared.editing.Way.TheVariants.{Reading, Writing}
use Rattle.stack_code.specs.declared.shape.EntryKind.{EntryKind}
use Rattle.stack_code.specs.declared.shape.EntryKind.TheVariants.{Int, Log, Spot}
use Rattle.stack_code.specs.declared.effect.Effect.{Effect}
use Rattle.stack_code.specs.declared.fact.Fact.{Fact}
use Rattle.stack_code.specs.Instructions.{Instruction, Begin, Step, Push, PushSpot, Dummy, Element, Load, Store, Forget, Lend, Both, Compare, Minus, Not, Known, Jump, JumpFalse, JumpSign, JumpTable, LoopStart, LoopTurn, Call, Return, Start, Item, Row, Finish, Halt}

-- ---- what an instruction takes off the stack, and what it leaves there ----

abbrev pub gives : ℕ → Option EntryKind → Effect
gives ints o = record { value = false; ints = ints; logs = 0; spots = 0; gives = o }

abbrev pub from_logs : ℕ → Option EntryKind → Effect
from_logs logs o = record { value = false; ints = 0; logs = logs; spots = 0; gives = o }

abbrev pub from_spots : ℕ → ℕ → Option EntryKind → Effect
from_spots ints spots o = record { value = false; ints = ints; logs = 0; spots = spots; gives = o }

abbrev pub from_value : ℕ → Option EntryKind → Effect
from_value spots o = record { value = true; ints = 0; logs = 0; spots = spots; gives = o }

abbrev pub entry_kind : Kind → EntryKind
entry_kind Integer = Int
entry_kind Logical = Log

abbrev pub content_kind : Content → Option EntryKind
content_kind (Whole z) = Some Int
content_kind (Truth b) = Some Log
content_kind Nothing = None

abbrev pub is_logical : Operator → Bool
is_logical operators.And = true
is_logical operators.Or = true
is_logical _ = false

-- from the top down: any value, integers, truth values, spots; then what is pushed
abbrev pub effect : Instruction → Effect
effect (Push v) = gives 0 (content_kind v)
effect (PushSpot first size) = gives 0 (Some Spot)
effect (Dummy n) = gives 0 (Some Spot)
effect (Element n) = from_spots (n + n) 1 (Some Spot)
effect (Load k) = from_spots 0 1 (Some (entry_kind k))
effect Store = from_value 1 None
effect Forget = from_spots 0 1 None
effect (Lend q) = from_value 0 (Some Spot)
effect (Both op) = if is_logical op then from_logs 2 (Some Log) else gives 2 (Some Int)
effect (Compare op) = gives 2 (Some Log)
effect Minus = gives 1 (Some Int)
effect Not = from_logs 1 (Some Log)
effect (Known g n) = gives n (Some Int)
effect (JumpFalse to) = from_logs 1 None
effect (JumpSign a b c) = gives 1 None
effect (JumpTable ts) = gives 1 None
effect (LoopStart limit step) = from_spots 3 1 None
effect (LoopTurn limit step to) = from_spots 0 1 None
effect (Call to n) = from_spots 0 n None
effect (Start way n) = gives 1 None
effect (Item way k) = from_spots 0 1 None
effect (Row way k n) = from_spots n 1 None
effect _ = gives 0 None

abbrev pub and_then : {A B : Type 0} → Option A → (A → Option B) → Option B
and_then None f = None
and_then (Some a) f = f a

abbrev pub same_kind : EntryKind → EntryKind → Bool
same_kind Int Int = true
same_kind Log Log = true
same_kind Spot Spot = true
same_kind _ _ = false

abbrev pub pop : EntryKind → List EntryKind → Option (List EntryKind)
pop k [] = None
pop k (j ∷ js) = if same_kind k j then Some js else None

abbrev pub pops : EntryKind → ℕ → List EntryKind → Option (List EntryKind)
pops k zero shape = Some shape
pops k (suc n) shape = and_then (pop k shape) (pops k n)

abbrev pub pop_value : List EntryKind → Option (List EntryKind)
pop_value (Int ∷ js) = Some js
pop_value (Log ∷ js) = Some js
pop_value _ = None

abbrev pub pop_if : Bool → List EntryKind → Option (List EntryKind)
pop_if true shape = pop_value shape
pop_if false shape = Some shape

abbrev pub onto : Option EntryKind → List EntryKind → List EntryKind
onto None shape = shape
onto (Some k) shape = k ∷ shape

abbrev pub taken : Effect → List EntryKind → Option (List EntryKind)
taken e shape = and_then (pop_if e.value shape) (λ s. and_then (pops Int e.ints s) (λ t. and_then (pops Log e.logs t) (pops Spot e.spots)))

-- ---- records ----

abbrev pub same_way : Way → Way → Bool
same_way Reading Reading = true
same_way Writing Writing = true
same_way _ _ = false

abbrev pub Open : Type 0
Open = Option (ℕ × Way)

-- where none is open
abbrev pub closed : Open → Option Open
closed None = Some None
closed (Some p) = None

abbrev pub begun : ℕ → Way → Open → Option Open
begun n way None = Some (Some (n, way))
begun n way (Some p) = None

abbrev pub within : Way → Open → Option Open
within way None = None
within way (Some p) = if same_way p.1 way then Some (Some p) else None

abbrev pub ended : Open → Option Open
ended None = None
ended (Some p) = Some None

-- the open record statement behind an instruction, where it may stand
abbrev pub opens : Instruction → Open → Option Open
opens (Begin p) o = closed o
opens (Call to n) o = closed o
opens Return o = closed o
opens (Start way n) o = begun n way o
opens (Item way k) o = within way o
opens (Row way k n) o = within way o
opens Finish o = ended o
opens _ o = Some o

-- ---- what holds behind an instruction ----

abbrev pub is_none : List EntryKind → Bool
is_none [] = true
is_none (k ∷ ks) = false

-- a dummy is one of the frame's, and a return has its entry's empty stack
abbrev pub allows : Instruction → Fact → Bool
allows (Dummy n) f = nat_lt n f.count
allows Return f = is_none f.shape
allows _ f = true

abbrev pub reshaped : Fact → Option EntryKind → Open → List EntryKind → Fact
reshaped f k o shape = record { shape = onto k shape; count = f.count; format = o }

-- what holds behind an instruction of what holds before it; none where it does not find what it needs
abbrev pub after : Instruction → Fact → Option Fact
after i f =
    if allows i f then and_then (opens i f.format) (λ o. and_then (taken (effect i) f.shape) (λ shape. Some (reshaped f (effect i).gives o shape))) else None

-- the instructions to which one leads within a unit; past a Call it is the next one
abbrev pub ways : Instruction → ℕ → List ℕ
ways (Jump to) pc = to ∷ []
ways (JumpFalse to) pc = (pc + 1) ∷ to ∷ []
ways (JumpSign a b c) pc = a ∷ b ∷ c ∷ []
ways (JumpTable ts) pc = ts
ways (LoopTurn limit step to) pc = (pc + 1) ∷ to ∷ []
ways Return pc = []
ways (Halt n) pc = []
ways _ pc = (pc + 1) ∷ []

-- ---- ways ----

-- at an entry with so many dummies
abbrev pub root : ℕ → Fact
root n = record { shape = []; count = n; format = None }

pub record IsIn (n : ℕ) (ns : List ℕ) : Type 0 where
  pub index : ℕ
  pub is : slice_get ns index ≡ Some n

abbrev pub call_in : Instruction → Option (ℕ × ℕ)
call_in (Call to n) = Some (to, n)
call_in _ = None

pub record IsCalled (code : List Instruction) (entry n : ℕ) : Type 0 where
  pub at : ℕ
  pub calls : slice_get code at ≡ Some (Call entry n)

-- an entry with so many dummies: instruction 0, which has none, and the first operand of each Call
abbrev pub IsEntry : List Instruction → ℕ → ℕ → Type 0
IsEntry code entry n = ((entry ≡ 0) × (n ≡ 0)) ⊎ IsCalled code entry n

-- a way begins at its entry
pub record Enters (code : List Instruction) (entry pc : ℕ) (f : Fact) : Type 0 where
  pub count : ℕ
  pub entry_is : IsEntry code entry count
  pub here : pc ≡ entry
  pub is : f ≡ root count

-- what holds at one instruction leads to this at that one
pub record Leads (code : List Instruction) (from : ℕ) (g : Fact) (pc : ℕ) (f : Fact) : Type 0 where
  pub instruction : Instruction
  pub stands : slice_get code from ≡ Some instruction
  pub gives : after instruction g ≡ Some f
  pub goes : IsIn pc (ways instruction from)

-- a way of so many instructions from this entry leads here, and then this holds
abbrev pub IsReached : List Instruction → ℕ → ℕ → ℕ → Fact → Type 0
IsReached code entry zero pc f = Enters code entry pc f
IsReached code entry (suc n) pc f = (from : ℕ) × (g : Fact) × IsReached code entry n from g × Leads code from g pc f

-- the instruction is there and finds what it needs
pub record Finds (code : List Instruction) (pc : ℕ) (f : Fact) : Type 0 where
  pub instruction : Instruction
  pub stands : slice_get code pc ≡ Some instruction
  pub behind : Fact
  pub gives : after instruction f ≡ Some behind

-- ---- each instruction by itself ----

abbrev pub is_begin : Option Instruction → Bool
is_begin (Some (Begin p)) = true
is_begin _ = false

abbrev pub is_counted : Option Instruction → Bool
is_counted (Some (Begin p)) = true
is_counted (Some Step) = true
is_counted _ = false

-- a target is there, and a Begin or a Step where it is not later
abbrev pub is_target : List Instruction → ℕ → ℕ → Bool
is_target code pc to = nat_lt to (length code) && (nat_lt pc to || is_counted (slice_get code to))

abbrev pub are_targets : List Instruction → ℕ → List ℕ → Bool
are_targets code pc [] = true
are_targets code pc (t ∷ ts) = is_target code pc t && are_targets code pc ts

abbrev pub is_small : Content → Bool
is_small (Whole z) = nat_le (unsigned_abs z) greatest
is_small (Truth b) = true
is_small Nothing = false

abbrev pub takes : ℕ → ℕ → Bool
takes zero n = nat_eq n 1
takes (suc zero) n = nat_eq n 2
takes (suc (suc zero)) n = nat_eq n 2
takes (suc (suc (suc zero))) n = nat_eq n 2
takes (suc (suc (suc (suc zero)))) n = nat_le 2 n
takes (suc (suc (suc (suc (suc zero))))) n = nat_le 2 n
takes _ n = false

abbrev pub is_relation : Operator → Bool
is_relation operators.Lt = true
is_relation operators.Le = true
is_relation operators.Eq = true
is_relation operators.Ne = true
is_relation operators.Ge = true
is_relation operators.Gt = true
is_relation _ = false

-- the operands of an instruction are in their ranges
abbrev pub is_in_range : List Instruction → ℕ → ℕ → ℕ → Instruction → Bool
is_in_range code plans units pc (Push v) = is_small v
is_in_range code plans units pc (PushSpot first size) = nat_le 1 size && nat_le (first + size) units
is_in_range code plans units pc (Lend q) = nat_lt q units
is_in_range code plans units pc (Both op) = not (is_relation op)
is_in_range code plans units pc (Compare op) = is_relation op
is_in_range code plans units pc (Known g n) = takes g n
is_in_range code plans units pc (Jump to) = is_target code pc to
is_in_range code plans units pc (JumpFalse to) = is_target code pc to
is_in_range code plans units pc (JumpSign a b c) = is_target code pc a && (is_target code pc b && is_target code pc c)
is_in_range code plans units pc (JumpTable ts) = are_targets code pc ts
is_in_range code plans units pc (LoopStart limit step) = nat_lt limit units && nat_lt step units
is_in_range code plans units pc (LoopTurn limit step to) = nat_lt limit units && (nat_lt step units && is_target code pc to)
is_in_range code plans units pc (Call to n) = is_begin (slice_get code to)
is_in_range code plans units pc (Start way n) = nat_lt n plans
is_in_range code plans units pc _ = true

-- ---- valid code ----

-- there is no cycle of calls: each entry has a depth, which is above that of each entry that its ways call
pub record HasDepths (code : List Instruction) (depth : ℕ → ℕ) : Type 0 where
  pub within : (entry : ℕ) → depth entry ≤ length code
  pub falls : (entry k pc : ℕ) (f : Fact) (to n : ℕ) → IsReached code entry k pc f → slice_get code pc ≡ Some (Call to n) → depth to < depth entry

-- no way from instruction 0 leads to a Return
abbrev pub NeverReturns : List Instruction → Type 0
NeverReturns code = (k pc : ℕ) (f : Fact) → IsReached code 0 k pc f → slice_get code pc ≡ Some Return → ⊥

-- valid code for so many plans and units
pub record IsValid (code : List Instruction) (plans units : ℕ) : Type 0 where
  pub begins : is_begin (slice_get code 0) ≡ true
  pub ranges : (pc : ℕ) (i : Instruction) → slice_get code pc ≡ Some i → is_in_range code plans units pc i ≡ true
  pub finds : (entry k pc : ℕ) (f : Fact) → IsReached code entry k pc f → Finds code pc f
  -- whatever ways lead to an instruction, the same holds there
  pub one : (entry other k j pc : ℕ) (f g : Fact) → IsReached code entry k pc f → IsReached code other j pc g → f ≡ g
  pub returns : NeverReturns code
  pub depth : ℕ → ℕ
  pub depths : HasDepths code depth
