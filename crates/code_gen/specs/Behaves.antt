-- What the code of units does: what the units do.
use Rattle.std.specs.Prelude.{◌≡◌, ℕ, ◌+◌, ◌<◌, ◌≤◌, ◌⊎◌, true, false, List, [], ◌∷◌, Some, slice_get}
use Rattle.ground.specs.Content.{Content}
use Rattle.f66_tree.specs.Syntax.{Text}
use Rattle.f66_tree.specs.World.{Record, Ended, Wrong, Store, put_in}
use Rattle.f66_tree.specs.Units.{is_main, format_of}
use Rattle.f66_tree.specs.Fields.{Fields}
use Rattle.f66_tree.specs.Execution.{f66}
use Rattle.stack_code.specs.StackMachine.{Program, Ends, empty, start, first_world}
use Rattle.code_gen.specs.Layout.{Layout}
use Rattle.code_gen.specs.Statements.{unit_size, units_code}
use Rattle.code_gen.specs.Coded.{IsLaid, CodedAll, HasRoom}

-- the format of each label is a plan
pub record HavePlans (y : Layout) (u : ℕ) (plans : List Fields) : Type 0 where
  pub by : (l : ℕ) (f : Fields) → format_of l (y.linked.context u).notes ≡ Some f → slice_get plans (y.plan u l) ≡ Some f

-- A unit whose statements have code. Its names have their storage units below a bound, and above that it has what it needs.
pub record IsUnit (y : Layout) (u bound : ℕ) (plans : List Fields) : Type 0 where
  pub laid : IsLaid y.linked u bound
  pub above : bound ≤ y.spare u
  pub below : y.spare u ≤ y.loops u
  pub coded : CodedAll y u (y.lines u)
  pub room : HasRoom y u (y.lines u)
  pub planned : HavePlans y u plans

abbrev pub AreUnits : Layout → ℕ → List Fields → List ℕ → Type 0
AreUnits y bound plans [] = Unit {0}
AreUnits y bound plans (u ∷ us) = IsUnit y u bound plans × AreUnits y bound plans us

-- the code of each unit begins where that of the one before it ends
abbrev pub AreEntered : Layout → ℕ → List ℕ → Type 0
AreEntered y at [] = Unit {0}
AreEntered y at (u ∷ us) = (y.entry u ≡ at) × AreEntered y (at + unit_size y u) us

abbrev pub IsAmong : ℕ → List ℕ → Type 0
IsAmong v [] = ⊥
IsAmong v (u ∷ us) = (v ≡ u) ⊎ IsAmong v us

-- a store with these initial values, one after the other
abbrev pub filled : List (ℕ × Content) → Store → Store
filled [] st = st
filled (p ∷ ps) st = filled ps (put_in p.0 p.1 st)

abbrev pub AreBelow : ℕ → List (ℕ × Content) → Type 0
AreBelow bound [] = Unit {0}
AreBelow bound (p ∷ ps) = (p.0 < bound) × AreBelow bound ps

-- a program: its main, the other units behind it, among them each that is called, and the initial values
pub record IsProgram (y : Layout) (others : List ℕ) (bound : ℕ) (plans : List Fields) : Type 0 where
  pub main : is_main (y.linked.context y.linked.main).header ≡ true
  pub entered : AreEntered y 0 (y.linked.main ∷ others)
  pub units : AreUnits y bound plans (y.linked.main ∷ others)
  pub found : (x : Text) (v : ℕ) → y.linked.find x ≡ Some v → IsAmong v others × (is_main (y.linked.context v).header ≡ false)
  pub presets : AreBelow bound y.presets
  pub initial : (q : ℕ) → q < bound → y.linked.first q ≡ filled y.presets empty q

abbrev pub program : Layout → List ℕ → List Fields → Program
program y others plans = record { code = units_code y (y.linked.main ∷ others); plans = plans }

-- for all input records and however many statements may begin, the code shows what the units show, unless their run goes wrong
abbrev pub ProgramBehaves : Type 0
ProgramBehaves =
    (y : Layout) (others : List ℕ) (bound : ℕ) (plans : List Fields) → IsProgram y others bound plans → (input : List Record) (n : ℕ) → ((f66 y.linked y.lines input n).end ≡ Ended Wrong → ⊥) → Ends (program y others plans) start (first_world input n) (f66 y.linked y.lines input n)
