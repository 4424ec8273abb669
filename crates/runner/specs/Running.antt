-- What a run comes to.
use Rattle.std.specs.Prelude.{◌≡◌, ℕ, suc, ◌+◌, ◌*◌, ◌-◌, ◌^◌, ◌<◌, ◌≤◌, Bool, true, false, List, length, Some, None, slice_get, nat_le, if◌then◌else◌}
use Rattle.ground.specs.Arithmetic.{IsInRange}
use Rattle.ground.specs.Content.{Whole}
use Rattle.ground.specs.declared.place.Place.{Place}
use Rattle.ground.specs.declared.trap.Trap.TheVariants.{EndOfInput}
use Rattle.f66_tree.specs.World as w
use Rattle.f66_tree.specs.World.{Record}
use Rattle.stack_code.specs.declared.valid.Code.{Code}
use Rattle.stack_code.specs.Instructions as i
use Rattle.stack_code.specs.Instructions.{Instruction}
use Rattle.stack_code.specs.Views.{code_of}
use Rattle.stack_code.specs.ValidCode.{takes}
use Rattle.stack_code.specs.Bounds.{IsChecked}
use Rattle.stack_code.specs.StackMachine.{Program, Runs}
use Rattle.runner.specs.declared.frames.Resume.{Resume}
use Rattle.runner.specs.declared.run.End.{End}
use Rattle.runner.specs.declared.run.Ran.{Ran}
use Rattle.runner.specs.declared.run.Role.{Role}
use Rattle.runner.specs.declared.run.Role.TheVariants as roles
use Rattle.runner.specs.declared.words.Word.{Word}
use Rattle.runner.specs.declared.words.Cell.{Cell}
use Rattle.runner.specs.declared.words.Cell.TheVariants as cells

-- what an instruction is to the loop
abbrev pub role : Instruction → Role
role (i.Begin p) = roles.Begins
role i.Step = roles.Turns
role (i.Push v) = roles.Works
role (i.PushSpot first size) = roles.Spots first size
role (i.Dummy n) = roles.Dummies n
role (i.Element n) = roles.Works
role (i.Load k) = roles.Holds
role i.Store = roles.Stores
role i.Forget = roles.Holds
role (i.Lend q) = roles.Holds
role (i.Both op) = roles.Operates
role (i.Compare op) = roles.Operates
role i.Minus = roles.Works
role (i.Known g n) = roles.Works
role i.Not = roles.Works
role (i.Jump to) = roles.Leaps
role (i.JumpFalse to) = roles.Leaps
role (i.JumpSign a b c) = roles.Leaps
role (i.JumpTable ts) = roles.Leaps
role (i.LoopStart limit step) = roles.Holds
role (i.LoopTurn limit step to) = roles.Loops limit step to
role (i.Call to n) = roles.Calls to n
role i.Return = roles.Returns
role (i.Start way n) = roles.Records
role (i.Item way k) = roles.Records
role (i.Row way k n) = roles.Records
role i.Finish = roles.Records
role (i.Halt None) = roles.Halts
role (i.Halt (Some n)) = roles.Stops n

-- the operands that the stack's words hold are small enough, and a function has as many arguments as it takes
abbrev pub HasRange : Instruction → Type 0
HasRange (i.Push (Whole z)) = IsInRange z
HasRange (i.PushSpot first size) = (1 ≤ size) × (first + size < 2 ^ 31)
HasRange (i.Known g n) = takes g n ≡ true
HasRange _ = Unit {0}

abbrev pub HasUnits : Instruction → ℕ → Type 0
HasUnits (i.Lend q) units = q < units
HasUnits (i.LoopStart limit step) units = (limit < units) × (step < units)
HasUnits _ units = Unit {0}

-- those that have nothing to do with records
abbrev pub is_apart : Role → Bool
is_apart roles.Records = false
is_apart _ = true

abbrev pub IsValidCode : Code → Type 0
IsValidCode c = IsChecked (code_of c.ops.items) (length c.plans.items) c.units c.stack c.dummies c.depth

-- the code is valid, its store is empty, and its stack and its levels are great enough
pub record IsReady (c : Code) (stack : List Word) (held : List Cell) (spots : List Word) (resumes : List Resume) : Type 0 where
  pub valid : IsValidCode c
  pub room : suc c.depth * c.stack ≤ length stack
  pub dummies : suc c.depth * c.dummies ≤ length spots
  pub callers : c.depth ≤ length resumes
  pub units : length held ≡ c.units
  pub empty : (q : ℕ) → q < length held → slice_get held q ≡ Some cells.Nothing
  pub few : c.units < 2 ^ 31

-- the number of instructions, at most the greatest u64
abbrev pub bounded : ℕ → ℕ
bounded n = if nat_le n (2 ^ 64 - 1) then n else 2 ^ 64 - 1

abbrev pub program : Code → Program
program c = record { code = code_of c.ops.items; plans = c.plans.items }

pub record RunsTo (c : Program) (input : List Record) (steps : ℕ) (records : List Record) (end : w.End) (left shown : ℕ) : Type 0 where
  pub count : ℕ
  pub runs : Runs c input steps (record { records = records; end = end; work = steps - left }) count
  pub executed : shown ≡ bounded count

-- a run over these records alone ends where it asks for one more
pub record Wants (c : Program) (steps : ℕ) (input : List Record) : Type 0 where
  pub records : List Record
  pub place : Place
  pub work : ℕ
  pub count : ℕ
  pub runs : Runs c input steps (record { records = records; end = w.Ended (w.Trapped EndOfInput place); work = work }) count

abbrev pub ran : End → ℕ → ℕ → Ran
ran end left executed = record { end = end; left = left; executed = executed }
