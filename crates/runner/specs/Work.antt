-- What an instruction does to the words and cells that stand for a machine's stack and store.
use Rattle.std.specs.Prelude.{◌≡◌, Bool, true, false, ◌&&◌, ℤ, pos, ◌+ℤ◌, int_le, ℕ, suc, ◌+◌, ◌≤◌, List, length, Option, Some, None, Result, Ok, Err, if◌then◌else◌}
use Rattle.ground.specs.declared.trap.Trap.{Trap}
use Rattle.ground.specs.Content.{Content}
use Rattle.f66_tree.specs.declared.expression.Operator.{Operator}
use Rattle.f66_tree.specs.declared.expression.Operator.TheVariants.{Add, Sub, Mul, Div, Power}
use Rattle.f66_tree.specs.Fields.{Fields}
use Rattle.f66_tree.specs.World.{World, Store, Trapped, Ended, Out, Gives, Halts, Try, Yields, Traps, Fails, holding}
use Rattle.f66_tree.specs.Evaluation.{operate}
use Rattle.stack_code.specs.Instructions.{Instruction, Jump, JumpFalse, JumpSign, JumpTable}
use Rattle.stack_code.specs.StackMachine.{Entry, Val, Core, jump, act, limit_in, step_in}
use Rattle.stack_code.specs.Safety.{IsRight, AllWithin}
use Rattle.stack_code.specs.ValidCode.{IsIn, ways}
use Rattle.runner.specs.declared.words.Word.{Word}
use Rattle.runner.specs.declared.words.Cell.{Cell}
use Rattle.runner.specs.Words.{Shows, Stand, Agrees, content_of, pile_of}

abbrev pub IsGiven : {A : Type 0} → Try A → Type 0
IsGiven (Yields a) = Unit {0}
IsGiven (Traps t) = Unit {0}
IsGiven Fails = ⊥

-- whether an operator makes an integer
abbrev pub is_arithmetic : Operator → Bool
is_arithmetic Add = true
is_arithmetic Sub = true
is_arithmetic Mul = true
is_arithmetic Div = true
is_arithmetic Power = true
is_arithmetic _ = false

-- two words stand for what the operator takes
pub record AreOperands (op : Operator) (x y : Word) : Type 0 where
  pub a : Content
  pub b : Content
  pub first : Shows (Val a) x
  pub second : Shows (Val b) y
  pub given : IsGiven (operate op a b)

-- a word stands for what an operation of one value takes
pub record IsOperand (f : Content → Try Content) (x : Word) : Type 0 where
  pub a : Content
  pub shows : Shows (Val a) x
  pub given : IsGiven (f a)

-- so many entries at most
abbrev pub IsAtMost : ℕ → Core → Type 0
IsAtMost n s = length s.stack ≤ n

abbrev pub IsFine : Out Core → Type 0
IsFine o = IsRight (λ s. Unit {0}) o

-- some stack and world stand here, for which the instruction goes right, and it leaves no more entries than there is room for
pub record MayWork (i : Instruction) (buffer : List Word) (top : ℕ) : Type 0 where
  pub plans : List Fields
  pub core : Core
  pub world : World
  pub stand : Stand core.stack (pile_of buffer top)
  pub within : top ≤ length buffer
  pub right : IsRight (IsAtMost (length buffer)) (act plans (Some i) core world)

-- the run goes on at an instruction, over this stack
pub record GoesTo (o : Out Core) (s : Core) (w : World) (to : ℕ) (pile : List Word) : Type 0 where
  pub stack : List Entry
  pub is : o ≡ Gives (jump s to stack) w
  pub stand : Stand stack pile

-- the next instruction comes, over this stack, or the run is trapped
abbrev pub IsWorked : Out Core → Core → World → List Word → Result ℕ Trap → Type 0
IsWorked o s w buffer (Ok top) = GoesTo o s w (s.pc + 1) (pile_of buffer top)
IsWorked o s w buffer (Err t) = o ≡ Halts (Ended (Trapped t s.frame.place)) w

-- what an instruction does that works on the stack alone
abbrev pub Works : Instruction → List Word → ℕ → List Word → Result ℕ Trap → Type 0
Works i old top new result =
    (plans : List Fields) (s : Core) (w : World) → Stand s.stack (pile_of old top) → IsFine (act plans (Some i) s w) → IsWorked (act plans (Some i) s w) s w new result

abbrev pub IsRoomFor : List Word → Result ℕ Trap → Type 0
IsRoomFor buffer (Ok top) = top ≤ length buffer
IsRoomFor buffer (Err t) = Unit {0}

-- the same with the store
pub record MayHold (i : Instruction) (buffer : List Word) (top : ℕ) (cells : List Cell) : Type 0 where
  pub work : MayWork i buffer top
  pub spots : AllWithin (length cells) work.core.stack
  pub agrees : Agrees cells work.world.state.store

-- the run goes on at an instruction, over this stack and store
pub record GoesOver (o : Out Core) (s : Core) (w : World) (to : ℕ) (pile : List Word) (cells : List Cell) : Type 0 where
  pub stack : List Entry
  pub store : Store
  pub is : o ≡ Gives (jump s to stack) (holding store w)
  pub stand : Stand stack pile
  pub agrees : Agrees cells store

abbrev pub IsHeld : Out Core → Core → World → List Word → List Cell → Result ℕ Trap → Type 0
IsHeld o s w buffer cells (Ok top) = GoesOver o s w (s.pc + 1) (pile_of buffer top) cells
IsHeld o s w buffer cells (Err t) = o ≡ Halts (Ended (Trapped t s.frame.place)) w

-- what an instruction does that works on the stack and the store
abbrev pub Holds : Instruction → List Word → ℕ → List Cell → List Word → List Cell → Result ℕ Trap → Type 0
Holds i old top old_cells new new_cells result =
    (plans : List Fields) (s : Core) (w : World) → Stand s.stack (pile_of old top) → Agrees old_cells w.state.store → IsFine (act plans (Some i) s w) → IsHeld (act plans (Some i) s w) s w new new_cells result

-- ---- branches ----

-- the run goes on at an instruction, over this stack, or is trapped
abbrev pub IsLeap : Out Core → Core → World → List Word → Result (ℕ × ℕ) Trap → Type 0
IsLeap o s w buffer (Ok r) = GoesTo o s w r.0 (pile_of buffer r.1)
IsLeap o s w buffer (Err t) = o ≡ Halts (Ended (Trapped t s.frame.place)) w

-- what an instruction does that may go on elsewhere than at the next one
abbrev pub Leaps : Instruction → ℕ → List Word → ℕ → Result (ℕ × ℕ) Trap → Type 0
Leaps i pc buffer top result =
    (plans : List Fields) (s : Core) (w : World) → s.pc ≡ pc → Stand s.stack (pile_of buffer top) → IsFine (act plans (Some i) s w) → IsLeap (act plans (Some i) s w) s w buffer result

abbrev pub IsRoomBehind : List Word → Result (ℕ × ℕ) Trap → Type 0
IsRoomBehind buffer (Ok r) = r.1 ≤ length buffer
IsRoomBehind buffer (Err t) = Unit {0}

-- it goes on at one of those to which the instruction leads
abbrev pub IsWayOf : Instruction → ℕ → Result (ℕ × ℕ) Trap → Type 0
IsWayOf i pc (Ok r) = IsIn r.0 (ways i pc)
IsWayOf i pc (Err t) = Unit {0}

-- no target has this number
abbrev pub IsLow : ℤ → Type 0
IsLow (pos (suc n)) = ⊥
IsLow _ = Unit {0}

-- whether an instruction may go on elsewhere, and neither calls nor reads the store
abbrev pub is_leap : Instruction → Bool
is_leap (Jump to) = true
is_leap (JumpFalse to) = true
is_leap (JumpSign a b c) = true
is_leap (JumpTable ts) = true
is_leap _ = false

-- ---- DO ----

-- the parameters are at least one, and the first is at most the last
abbrev pub fits : ℤ → ℤ → ℤ → Bool
fits a b c = int_le (pos 1) a && int_le a b && int_le (pos 1) c

-- the next value of a DO's variable, where it is not past the limit
abbrev pub next_in : ℤ → Cell → Cell → Option ℤ
next_in z limit step = if int_le (z +ℤ step_in (content_of step)) (limit_in (content_of limit)) then Some (z +ℤ step_in (content_of step)) else None

-- the run goes on at an instruction, over this stack and store, or is trapped
abbrev pub IsLeapOver : Out Core → Core → World → List Word → List Cell → Result (ℕ × ℕ) Trap → Type 0
IsLeapOver o s w buffer cells (Ok r) = GoesOver o s w r.0 (pile_of buffer r.1) cells
IsLeapOver o s w buffer cells (Err t) = o ≡ Halts (Ended (Trapped t s.frame.place)) w

-- what an instruction does that works on the store too, and may go on elsewhere than at the next one
abbrev pub LeapsOver : Instruction → ℕ → List Word → ℕ → List Cell → List Cell → Result (ℕ × ℕ) Trap → Type 0
LeapsOver i pc buffer top old_cells new_cells result =
    (plans : List Fields) (s : Core) (w : World) → s.pc ≡ pc → Stand s.stack (pile_of buffer top) → Agrees old_cells w.state.store → IsFine (act plans (Some i) s w) → IsLeapOver (act plans (Some i) s w) s w buffer new_cells result
