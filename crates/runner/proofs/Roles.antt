-- What the role of an instruction tells of it.
use Rattle.std.proofs.Common.{◌≡◌, ℕ, ◌+◌, ◌<◌, ◌^◌, true, false, List, [], ◌∷◌, Some, None, refl, sym, subst, arith}
use Rattle.std.proofs.lemmas.Bool.{leb-true, ltb-true, and_parts}
use Rattle.ground.specs.declared.place.Place.{Place}
use Rattle.ground.specs.Content.{Nothing, Whole, Truth}
use Rattle.stack_code.specs.Instructions as i
use Rattle.stack_code.specs.Instructions.{Instruction}
use Rattle.stack_code.specs.ValidCode.{ways, is_counted, is_in_range}
use Rattle.runner.specs.declared.run.Role.{Role}
use Rattle.runner.specs.declared.run.Role.TheVariants as roles
use Rattle.runner.specs.Work.{is_leap}
use Rattle.runner.specs.Recording.{HasPlan}
use Rattle.runner.specs.Running.{role, HasRange, HasUnits}

-- it leads to the next instruction
abbrev pub IsNext : Instruction → Type 0
IsNext j = (pc : ℕ) → ways j pc ≡ (pc + 1) ∷ []

abbrev pub Tells : Role → Instruction → Type 0
Tells roles.Begins j = (p : Place) × (j ≡ i.Begin p)
Tells roles.Turns j = j ≡ i.Step
Tells roles.Halts j = j ≡ i.Halt None
Tells (roles.Stops n) j = j ≡ i.Halt (Some n)
Tells roles.Leaps j = (is_leap j ≡ true) × (is_counted (Some j) ≡ false)
Tells (roles.Spots first size) j = j ≡ i.PushSpot first size
Tells roles.Works j = is_counted (Some j) ≡ false
Tells roles.Operates j = is_counted (Some j) ≡ false
Tells roles.Stores j = j ≡ i.Store
Tells roles.Holds j = is_counted (Some j) ≡ false
Tells (roles.Loops limit step to) j = j ≡ i.LoopTurn limit step to
Tells (roles.Dummies n) j = j ≡ i.Dummy n
Tells (roles.Calls to n) j = j ≡ i.Call to n
Tells roles.Returns j = j ≡ i.Return
Tells roles.Records j = (is_counted (Some j) ≡ false) × IsNext j

tells : (j : Instruction) → Tells (role j) j
tells (i.Begin p) = (p, refl)
tells i.Step = refl
tells (i.Push v) = refl
tells (i.PushSpot first size) = refl
tells (i.Dummy n) = refl
tells (i.Element n) = refl
tells (i.Load k) = refl
tells i.Store = refl
tells i.Forget = refl
tells (i.Lend q) = refl
tells (i.Both op) = refl
tells (i.Compare op) = refl
tells i.Minus = refl
tells i.Not = refl
tells (i.Known g n) = refl
tells (i.Jump to) = (refl, refl)
tells (i.JumpFalse to) = (refl, refl)
tells (i.JumpSign a b c) = (refl, refl)
tells (i.JumpTable ts) = (refl, refl)
tells (i.LoopStart limit step) = refl
tells (i.LoopTurn limit step to) = refl
tells (i.Call to n) = refl
tells i.Return = refl
tells (i.Start way n) = (refl, λ pc. refl)
tells (i.Item way k) = (refl, λ pc. refl)
tells (i.Row way k n) = (refl, λ pc. refl)
tells i.Finish = (refl, λ pc. refl)
tells (i.Halt None) = refl
tells (i.Halt (Some n)) = refl

pub told : (r : Role) (j : Instruction) → r ≡ role j → Tells r j
told r j e = subst (λ x. Tells x j) (sym e) (tells j)

pub range_of : (code : List Instruction) (plans units pc : ℕ) (j : Instruction) → units < 2 ^ 31 → is_in_range code plans units pc j ≡ true → HasRange j
range_of code plans units pc (i.Push (Whole z)) few h = record { magnitude = leb-true _ _ h }
range_of code plans units pc (i.Push (Truth b)) few h = tt
range_of code plans units pc (i.Push Nothing) few h = tt
range_of code plans units pc (i.PushSpot first size) few h = let b = and_parts _ _ h in let last = leb-true (first + size) units b.1 in (leb-true 1 size b.0, omega arith)
range_of code plans units pc (i.Begin p) few h = tt
range_of code plans units pc i.Step few h = tt
range_of code plans units pc (i.Dummy n) few h = tt
range_of code plans units pc (i.Element n) few h = tt
range_of code plans units pc (i.Load k) few h = tt
range_of code plans units pc i.Store few h = tt
range_of code plans units pc i.Forget few h = tt
range_of code plans units pc (i.Lend q) few h = tt
range_of code plans units pc (i.Both op) few h = tt
range_of code plans units pc (i.Compare op) few h = tt
range_of code plans units pc i.Minus few h = tt
range_of code plans units pc i.Not few h = tt
range_of code plans units pc (i.Known g n) few h = h
range_of code plans units pc (i.Jump to) few h = tt
range_of code plans units pc (i.JumpFalse to) few h = tt
range_of code plans units pc (i.JumpSign a b c) few h = tt
range_of code plans units pc (i.JumpTable ts) few h = tt
range_of code plans units pc (i.LoopStart limit step) few h = tt
range_of code plans units pc (i.LoopTurn limit step to) few h = tt
range_of code plans units pc (i.Call to n) few h = tt
range_of code plans units pc i.Return few h = tt
range_of code plans units pc (i.Start way n) few h = tt
range_of code plans units pc (i.Item way k) few h = tt
range_of code plans units pc (i.Row way k n) few h = tt
range_of code plans units pc i.Finish few h = tt
range_of code plans units pc (i.Halt n) few h = tt

pub units_of : (code : List Instruction) (plans units pc : ℕ) (j : Instruction) → is_in_range code plans units pc j ≡ true → HasUnits j units
units_of code plans units pc (i.Lend q) h = ltb-true q units h
units_of code plans units pc (i.Begin p) h = tt
units_of code plans units pc i.Step h = tt
units_of code plans units pc (i.Push v) h = tt
units_of code plans units pc (i.PushSpot first size) h = tt
units_of code plans units pc (i.Dummy n) h = tt
units_of code plans units pc (i.Element n) h = tt
units_of code plans units pc (i.Load k) h = tt
units_of code plans units pc i.Store h = tt
units_of code plans units pc i.Forget h = tt
units_of code plans units pc (i.Both op) h = tt
units_of code plans units pc (i.Compare op) h = tt
units_of code plans units pc i.Minus h = tt
units_of code plans units pc i.Not h = tt
units_of code plans units pc (i.Known g n) h = tt
units_of code plans units pc (i.Jump to) h = tt
units_of code plans units pc (i.JumpFalse to) h = tt
units_of code plans units pc (i.JumpSign a b c) h = tt
units_of code plans units pc (i.JumpTable ts) h = tt
units_of code plans units pc (i.LoopStart limit step) h = let b = and_parts _ _ h in (ltb-true limit units b.0, ltb-true step units b.1)
units_of code plans units pc (i.LoopTurn limit step to) h = tt
units_of code plans units pc (i.Call to n) h = tt
units_of code plans units pc i.Return h = tt
units_of code plans units pc (i.Start way n) h = tt
units_of code plans units pc (i.Item way k) h = tt
units_of code plans units pc (i.Row way k n) h = tt
units_of code plans units pc i.Finish h = tt
units_of code plans units pc (i.Halt n) h = tt

-- the format of a statement that begins is there
pub plan_of : (code : List Instruction) (plans units pc : ℕ) (j : Instruction) → is_in_range code plans units pc j ≡ true → HasPlan j plans
plan_of code plans units pc (i.Start way n) h = ltb-true n plans h
plan_of code plans units pc (i.Begin p) h = tt
plan_of code plans units pc i.Step h = tt
plan_of code plans units pc (i.Push v) h = tt
plan_of code plans units pc (i.PushSpot first size) h = tt
plan_of code plans units pc (i.Dummy n) h = tt
plan_of code plans units pc (i.Element n) h = tt
plan_of code plans units pc (i.Load k) h = tt
plan_of code plans units pc i.Store h = tt
plan_of code plans units pc i.Forget h = tt
plan_of code plans units pc (i.Lend q) h = tt
plan_of code plans units pc (i.Both op) h = tt
plan_of code plans units pc (i.Compare op) h = tt
plan_of code plans units pc i.Minus h = tt
plan_of code plans units pc i.Not h = tt
plan_of code plans units pc (i.Known g n) h = tt
plan_of code plans units pc (i.Jump to) h = tt
plan_of code plans units pc (i.JumpFalse to) h = tt
plan_of code plans units pc (i.JumpSign a b c) h = tt
plan_of code plans units pc (i.JumpTable ts) h = tt
plan_of code plans units pc (i.LoopStart limit step) h = tt
plan_of code plans units pc (i.LoopTurn limit step to) h = tt
plan_of code plans units pc (i.Call to n) h = tt
plan_of code plans units pc i.Return h = tt
plan_of code plans units pc (i.Item way k) h = tt
plan_of code plans units pc (i.Row way k n) h = tt
plan_of code plans units pc i.Finish h = tt
plan_of code plans units pc (i.Halt n) h = tt

-- the units of a DO are there
pub loop_units : (code : List Instruction) (plans units pc limit step to : ℕ) → is_in_range code plans units pc (i.LoopTurn limit step to) ≡ true → (limit < units) × (step < units)
loop_units code plans units pc limit step to h = let b = and_parts _ _ h in let d = and_parts _ _ b.1 in (ltb-true limit units b.0, ltb-true step units d.0)
