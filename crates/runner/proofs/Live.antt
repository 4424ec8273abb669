-- The state of a runner stands for a state of the machine, which is safe; and one more instruction keeps this.
use Rattle.std.proofs.Common.{◌≡◌, ℕ, zero, suc, ◌+◌, ◌-◌, List, length, Some, refl, ap, ◌∙◌, subst, slice_get}
use Rattle.ground.specs.declared.place.Place.{Place}
use Rattle.f66_tree.specs.World.{Record, Tape, World, End, Out, Gives, Halts, bind}
use Rattle.stack_code.specs.Instructions.{Instruction}
use Rattle.stack_code.specs.StackMachine.{Core, Program, act, step, exec, start, first_world}
use Rattle.stack_code.specs.ValidCode.{IsValid}
use Rattle.stack_code.specs.Bounds.{HasBounds}
use Rattle.stack_code.specs.Safety.{IsRight, IsSafe, ValidIsSafe}
use Rattle.runner.specs.declared.words.Word.{Word}
use Rattle.runner.specs.declared.words.Cell.{Cell}
use Rattle.runner.specs.Words.{Stand, Agrees}
use Rattle.runner.specs.Frames.{Level, Framed}
use Rattle.runner.specs.Running.{bounded, RunsTo}
use Rattle.runner.proofs.Opening.{NoneOpen}

pub record Live (steps pc left : ℕ) (pile : List Word) (cells : List Cell) (place : Place) (wide : ℕ) (level : Level) (tape : Tape) (s : Core) (w : World) : Type 0 where
  pub here : s.pc ≡ pc
  pub stack : Stand s.stack pile
  pub line : s.frame.place ≡ place
  pub agrees : Agrees cells w.state.store
  pub rest : w.left ≡ left
  pub sums : w.count + left ≡ steps
  pub taped : w.state.tape ≡ tape
  pub framed : Framed wide level s

-- after the instructions up to now
pub record Held (c : Program) (input : List Record) (steps pc left : ℕ) (pile : List Word) (cells : List Cell) (place : Place) (wide : ℕ) (level : Level) (tape : Tape) (executed from : ℕ) : Type 0 where
  pub count : ℕ
  pub core : Core
  pub world : World
  pub comes : exec c count start (first_world input steps) ≡ Gives core world
  pub live : Live steps pc left pile cells place wide level tape core world
  pub waits : NoneOpen c.code core.callers
  pub base : ℕ
  pub told : executed ≡ bounded base
  pub adds : base + (pc - from) ≡ count

-- an instruction goes on, or ends the run
pub record Goes (code : List Instruction) (o : Out Core) (steps pc left : ℕ) (pile : List Word) (cells : List Cell) (place : Place) (wide : ℕ) (level : Level) (tape : Tape) : Type 0 where
  pub core : Core
  pub world : World
  pub is : o ≡ Gives core world
  pub live : Live steps pc left pile cells place wide level tape core world
  pub waits : NoneOpen code core.callers

pub record Stops (o : Out Core) (written : List Record) (end : End) (steps left : ℕ) : Type 0 where
  pub world : World
  pub is : o ≡ Halts end world
  pub count : world.count ≡ steps - left
  pub shows : world.state.tape.written ≡ written

then_nothing : (c : Program) (o : Out Core) → bind o (exec c 0) ≡ o
then_nothing c (Gives s w) = refl
then_nothing c (Halts e w) = refl

more_by : (c : Program) (k : ℕ) (o : Out Core) → ((t : Core) (v : World) → exec c (suc k) t v ≡ bind (exec c k t v) (step c)) → bind o (exec c (suc k)) ≡ bind (bind o (exec c k)) (step c)
more_by c k (Gives s w) ih = ih s w
more_by c k (Halts e w) ih = refl

pub exec_more : (c : Program) (k : ℕ) (s : Core) (w : World) → exec c (suc k) s w ≡ bind (exec c k s w) (step c)
exec_more c zero s w = then_nothing c (step c s w)
exec_more c (suc k) s w = more_by c k (step c s w) (exec_more c k)

module _ (c : Program) (input : List Record) (steps : ℕ) (units top wide deep : ℕ) (v : IsValid c.code (length c.plans) units) (b : HasBounds c.code top wide deep) (law : ValidIsSafe) where
  module _ (pc left : ℕ) (pile : List Word) (cells : List Cell) (place : Place) (level : Level) (tape : Tape) (executed from : ℕ) (h : Held c input steps pc left pile cells place wide level tape executed from) where
    pub now : IsSafe c units top wide deep h.core
    now = subst (IsRight (IsSafe c units top wide deep)) h.comes (law c units top wide deep v b input steps h.count)

    next_is : exec c (suc h.count) start (first_world input steps) ≡ step c h.core h.world
    next_is = exec_more c h.count start (first_world input steps) ∙ ap (λ o. bind o (step c)) h.comes

    -- what stands at pc doesn't go wrong
    pub right : (i : Instruction) → slice_get c.code pc ≡ Some i → IsRight (IsSafe c units top wide deep) (act c.plans (Some i) h.core h.world)
    right i at =
        let e : slice_get c.code h.core.pc ≡ Some i = ap (slice_get c.code) h.live.here ∙ at in
        subst (λ o. IsRight (IsSafe c units top wide deep) (act c.plans o h.core h.world)) e (subst (IsRight (IsSafe c units top wide deep)) next_is (law c units top wide deep v b input steps (suc h.count)))

    pub goes : (i : Instruction) → slice_get c.code pc ≡ Some i → (pc1 left1 : ℕ) (pile1 : List Word) (cells1 : List Cell) (place1 : Place) (level1 : Level) (tape1 : Tape) (executed1 from1 base1 : ℕ) → Goes c.code (act c.plans (Some i) h.core h.world) steps pc1 left1 pile1 cells1 place1 wide level1 tape1 → executed1 ≡ bounded base1 → base1 + (pc1 - from1) ≡ suc h.count → Held c input steps pc1 left1 pile1 cells1 place1 wide level1 tape1 executed1 from1
    goes i at pc1 left1 pile1 cells1 place1 level1 tape1 executed1 from1 base1 g told adds =
        let e : slice_get c.code h.core.pc ≡ Some i = ap (slice_get c.code) h.live.here ∙ at in
        record { count = suc h.count; core = g.core; world = g.world; comes = next_is ∙ ap (λ o. act c.plans o h.core h.world) e ∙ g.is; live = g.live; waits = g.waits; base = base1; told = told; adds = adds }

    -- what comes of it
    pub acts_next : (i : Instruction) → slice_get c.code pc ≡ Some i → exec c (suc h.count) start (first_world input steps) ≡ act c.plans (Some i) h.core h.world
    acts_next i at = next_is ∙ ap (λ o. act c.plans o h.core h.world) (ap (slice_get c.code) h.live.here ∙ at)

    pub ends : (i : Instruction) → slice_get c.code pc ≡ Some i → (records : List Record) (end : End) (executed1 : ℕ) → Stops (act c.plans (Some i) h.core h.world) records end steps left → executed1 ≡ bounded (suc h.count) → RunsTo c input steps records end left executed1
    ends i at records end executed1 g told =
        let e : slice_get c.code h.core.pc ≡ Some i = ap (slice_get c.code) h.live.here ∙ at in
        record {
          count = suc h.count;
          runs = record {
            run = record { count = h.count; last = h.core; world = h.world; end = end; after = g.world; comes = h.comes; ends = ap (λ o. act c.plans o h.core h.world) e ∙ g.is; shows = λ k. record { records = g.shows k; end = end; work = g.count k } };
            counted = refl;
          };
          executed = told;
        }
