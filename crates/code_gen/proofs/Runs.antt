-- A run of a unit's statements and the machine. The invariant: where some statements stand in the code, the machine does what the
-- run of these statements does, its store and the loops in progress being as the run has them. Of the store it keeps all that lies
-- past the units that the unit keeps something in.
use Rattle.std.proofs.Common.{◌≡◌, cond, ℕ, suc, ◌+◌, ◌<◌, ◌≤◌, Bool, true, false, List, [], ◌∷◌, length, Option, Some, None, refl, sym, ◌∙◌, subst, arith, slice_get}
use Rattle.std.specs.Prelude.{nat_eq}
use Rattle.std.proofs.lemmas.Bool.{eqb-true, eqb-false}
use Rattle.ground.specs.declared.place.Place.{Place}
use Rattle.f66_tree.specs.Syntax.{Act, Assign, Sign, When, Loop, Invoke, Stop, Read, Write, Line}
use Rattle.f66_tree.specs.World.{Store, World, bind, holding, Shown}
use Rattle.f66_tree.specs.Units as units
use Rattle.f66_tree.specs.Units.{Setting, is_note, is_main, moved_to}
use Rattle.f66_tree.specs.Statements.{LoopParameters, loop_start, loop_turn, does}
use Rattle.f66_tree.specs.Evaluation.{asks}
use Rattle.f66_tree.specs.Execution.{runnable, from_label, Progress, begun, stand, Closer, closers_at, Onward, close, leads, perform, target, exec}
use Rattle.stack_code.specs.Instructions as i
use Rattle.stack_code.specs.StackMachine as sm
use Rattle.stack_code.specs.StackMachine.{Spot, Entry, Frame, Caller, Program, loop_in, keep_loop}
use Rattle.code_gen.specs.Layout.{Layout}
use Rattle.code_gen.specs.Expressions.{value_code}
use Rattle.code_gen.specs.Statements.{limit_unit, step_unit, act_code, act_size, ends_by, turns_size, turns_code, place_of, first_code, prologue_code, prologue_size}
use Rattle.code_gen.specs.Coded.{Coded, top}
use Rattle.code_gen.specs.Behaves.{IsUnit, IsAmong}
use Rattle.code_gen.proofs.Steps.{HasAt, has_back, finish, at, Comes, bound, moved}
use Rattle.code_gen.proofs.Sights.{Seen, SpotsSeen, spots_low}
use Rattle.code_gen.proofs.Standing.{StandsAt, Fit, Somewhere, InnersStand, inner_stands, stands_place, stands_from, stands_closers_at}
use Rattle.code_gen.proofs.Keys.{loop_keys, AreKeys, closer_keys_at}
use Rattle.code_gen.proofs.LoopSteps.{IsStep}
use Rattle.code_gen.proofs.Values as vl
use Rattle.code_gen.proofs.Values.{Calls, Site}
use Rattle.code_gen.proofs.Loops as lo
use Rattle.code_gen.proofs.Acts as ac

-- a unit whose code stands at its entry
pub record Ready (y : Layout) (bound1 : ℕ) (c : Program) (u : ℕ) : Type 0 where
  pub unit : IsUnit y u bound1 c.plans
  pub opens : HasAt c.code (y.entry u) (prologue_code y u (first_code y u) (runnable (y.lines u)))
  pub stands : StandsAt c.code y u (y.entry u + prologue_size (first_code y u) (runnable (y.lines u))) (y.lines u)

-- what calls of all units do, where a run has this fuel
pub record CallsAll (y : Layout) (bound1 : ℕ) (c : Program) (n : ℕ) : Type 0 where
  pub by : (x : List ℕ) (v : ℕ) → y.linked.find x ≡ Some v → (here : Frame) (callers : List Caller) → Calls y bound1 c n (exec y.linked y.lines n) here callers v

module _ (y : Layout) (bound1 : ℕ) (c : Program) (callers : List Caller) (u : ℕ) (ready : Ready y bound1 c u) (stack : List Entry) (actuals : List units.Spot) (spots : List Spot) (hold0 : Store) (see : SpotsSeen y.linked bound1 (top y u) hold0 actuals spots) where
  abbrev Stands : ℕ → List Line → Type 0
  Stands pc rest = StandsAt c.code y u pc rest

  abbrev pub from_frame : Place → units.Frame
  from_frame p = record { unit = u; actuals = actuals; place = p }

  abbrev pub here : Place → Frame
  here p = record { place = p; spots = spots }

  abbrev pub Kept : World → World → Type 0
  Kept w m = Seen y.linked bound1 (top y u) hold0 w m

  -- the machine's world is that of the run, with these loops in progress
  pub record Now (pr : Progress) (w m : World) : Type 0 where
    pub seen : Kept w m
    pub loops : (j : ℕ) → IsAmong j (loop_keys (y.lines u)) → loop_in (limit_unit y u j) (step_unit y u j) m.state.store ≡ pr j

  -- where the unit is left, the run that called it goes on
  abbrev pub GoesBack : ℕ → (Unit {0} → World → Shown) → Type 0
  GoesBack few k = (p : Place) (pc : ℕ) (w m : World) → Kept w m → w.left < few → is_main (y.linked.context u).header ≡ false → slice_get c.code pc ≡ Some i.Return → Comes c (at pc stack (here p) callers) m (k tt w)

  -- what the run of a rest of the unit does, the machine does, where fewer statements than n may begin
  pub record Follows (n : ℕ) : Type 0 where
    pub by : (few : ℕ) → few ≤ n → (p0 p1 : Place) (rest : List Line) (pr : Progress) (pc : ℕ) (w m : World) (k : Unit {0} → World → Shown) → Stands pc rest → Now pr w m → w.left < few → GoesBack few k → Comes c (at pc stack (here p1) callers) m (finish (exec y.linked y.lines n (from_frame p0) (stand rest pr) w) k)

  -- ---- a DO has begun ----

  begun_by : (b : Bool) (key j : ℕ) (lp : LoopParameters) → IsStep lp → (old : Store) (pr : Progress) → nat_eq j key ≡ b → loop_in (limit_unit y u j) (step_unit y u j) old ≡ pr j → loop_in (limit_unit y u j) (step_unit y u j) (keep_loop (limit_unit y u key) (step_unit y u key) lp old) ≡ cond b lp (pr j)
  begun_by true key j lp fit old pr is h =
      let e : j ≡ key = eqb-true j key is in
      subst (λ i1. loop_in (limit_unit y u i1) (step_unit y u i1) (keep_loop (limit_unit y u key) (step_unit y u key) lp old) ≡ lp) (sym e) (lo.keeps_loop (limit_unit y u key) (step_unit y u key) (λ z. omega arith) lp fit old)
  begun_by false key j lp fit old pr is h =
      let ne = eqb-false j key is in
      let a = lo.other_unit (limit_unit y u key) (step_unit y u key) lp old (limit_unit y u j) (λ e. ne (omega arith)) (λ e. omega arith) in
      let b = lo.other_unit (limit_unit y u key) (step_unit y u key) lp old (step_unit y u j) (λ e. omega arith) (λ e. ne (omega arith)) in
      (λ r. record { limit = sm.limit_in (a r); step = sm.step_in (b r) }) ∙ h

  begins : (key : ℕ) → key < length (y.lines u) → (lp : LoopParameters) → IsStep lp → (pr : Progress) (w m : World) (old : Store) → Now pr w (holding old m) → Now (begun key lp pr) w (holding (keep_loop (limit_unit y u key) (step_unit y u key) lp old) m)
  begins key within lp fit pr w m old now =
      let above = ready.unit.above in
      let below = ready.unit.below in
      let seen = now.seen in
      let other = lo.other_unit (limit_unit y u key) (step_unit y u key) lp old in
      record {
        seen = record { store = λ q lt. other q (λ e. omega arith) (λ e. omega arith) ∙ seen.store q lt; tape = seen.tape; left = seen.left; count = seen.count; kept = λ q le. other q (λ e. omega arith) (λ e. omega arith) ∙ seen.kept q le };
        loops = λ j among. begun_by (nat_eq j key) key j lp fit old pr refl (now.loops j among);
      }

  -- ---- one statement ----

  module _ (n : ℕ) (follows : Follows n) (calls : CallsAll y bound1 c n) (place p0 : Place) (pr : Progress) (few : ℕ) (within : few ≤ n) (w0 m0 : World) (now : Now pr w0 m0) (left0 : w0.left < few) (k : Unit {0} → World → Shown) (goes_back : GoesBack few k) where
    abbrev setting : Setting
    setting = target y.linked y.lines n (exec y.linked y.lines n)

    abbrev frame : units.Frame
    frame = record { unit = u; actuals = actuals; place = place }

    abbrev go : Onward
    go = exec y.linked y.lines n (from_frame p0)

    abbrev site : Site y bound1 c
    site = record { most = n; run = exec y.linked y.lines n; callers = callers; unit = u; laid = ready.unit.laid; above = ready.unit.above; place = place; actuals = actuals; spots = spots; calls = λ x v is. calls.by x v is (here place) callers }

    at_least : bound1 ≤ y.loops u
    at_least = let above = ready.unit.above in let below = ready.unit.below in omega arith

    at_most : y.loops u ≤ top y u
    at_most = omega arith

    abbrev anchor : vl.Anchor y bound1 c site
    anchor = record { first = y.loops u; hold = m0.state.store; low = at_least; see = spots_low y.linked bound1 (top y u) (y.loops u) hold0 m0.state.store at_most now.seen.kept actuals spots see; few = few; within = within }

    abbrev Sees : World → World → Type 0
    Sees w m = Seen y.linked bound1 (y.loops u) m0.state.store w m

    seen0 : Sees w0 m0
    seen0 = record { store = now.seen.store; tape = now.seen.tape; left = now.seen.left; count = now.seen.count; kept = λ q le. refl }

    -- within a statement the loops stay
    later : (w m : World) → Sees w m → Now pr w m
    later w m seen =
        record {
          seen = record { store = seen.store; tape = seen.tape; left = seen.left; count = seen.count; kept = λ q le. seen.kept q (omega arith) ∙ now.seen.kept q le };
          loops = λ j among.
              let a = seen.kept (limit_unit y u j) (omega arith) in
              let b = seen.kept (step_unit y u j) (omega arith) in
              let same : loop_in (limit_unit y u j) (step_unit y u j) m.state.store ≡ loop_in (limit_unit y u j) (step_unit y u j) m0.state.store = λ r. record { limit = sm.limit_in (a r); step = sm.step_in (b r) } in
              same ∙ now.loops j among;
        }

    whole : Somewhere c.code y u (y.lines u)
    whole = (_, ready.stands)

    go_on : (rest : List Line) (pc : ℕ) (w m : World) → Stands pc rest → Sees w m → w.left < few → Comes c (at pc stack (here place) callers) m (finish (go (stand rest pr) w) k)
    go_on rest pc w m stands seen lt = follows.by few within p0 place rest pr pc w m k stands (later w m seen) lt goes_back

    go_to : (rest : List Line) (w m : World) → Somewhere c.code y u rest → Sees w m → w.left < few → Comes c (at (place_of y u rest) stack (here place) callers) m (finish (go (stand rest pr) w) k)
    go_to rest w m s seen lt = moved c _ _ stack (here place) callers m _ (stands_place c.code y u s.0 rest s.1) (go_on rest s.0 w m s.1 seen lt)

    -- the turns of the DO loops that end at the statement
    turns_all : (ks : List Closer) → InnersStand c.code y u ks → AreKeys ks (loop_keys (y.lines u)) → (rest : List Line) (pc : ℕ) (w m : World) → Sees w m → w.left < few → HasAt c.code pc (turns_code y u ks) → Stands (pc + turns_size ks) rest → Comes c (at pc stack (here place) callers) m (finish (close setting frame ks rest go pr w) k)
    turns_all [] inners keys rest pc w m seen lt has more = let e : pc ≡ pc + 0 = omega arith in moved c _ _ stack (here place) callers m _ e (go_on rest (pc + 0) w m more seen lt)
    turns_all (j ∷ ks) inners keys rest pc w m seen lt has more =
        let key = length j.inner in
        let e : pc + (2 + turns_size ks) ≡ pc + 1 + 1 + turns_size ks = omega arith in
        bound c _ m (loop_turn setting frame j.variable (pr key) w) _ k (lo.turn_run y bound1 c site anchor stack (limit_unit y u key) (step_unit y u key) (omega arith) (omega arith) j.variable (place_of y u j.inner) pc (turns_code y u ks) (pr key) w m seen lt (now.loops key keys.0) has _ (λ w1 m1 seen1 lt1. go_to j.inner w1 m1 inners.0 seen1 lt1) (λ w1 m1 seen1 lt1. turns_all ks inners.1 keys.1 rest (pc + 1 + 1) w1 m1 seen1 lt1 has.1.1 (subst (λ q. Stands q rest) e more)))

    module _ (label : Option ℕ) (rest : List Line) (pc next : ℕ) where
      abbrev ends : List Closer
      ends = closers_at label (y.lines u)

      inners : InnersStand c.code y u ends
      inners = stands_closers_at c.code y u label whole.0 (y.lines u) whole.1

      keys : AreKeys ends (loop_keys (y.lines u))
      keys = closer_keys_at label (y.lines u)

      simple_run : (a : Act) → ac.IsSimple y bound1 c site anchor ready.unit.planned stack a → Coded y u a → Fit c.code y u a → HasAt c.code pc (act_code y u (length rest) next place a) → pc + act_size y u a ≡ next → HasAt c.code next (turns_code y u ends) → Stands (next + turns_size ends) rest → Comes c (at pc stack (here place) callers) m0 (finish (bind (does setting frame a w0) (λ z w1. leads setting frame (y.lines u) label rest go pr z w1)) k)
      simple_run a simple coded room acts end turns more =
          let r = ac.does_run y bound1 c site anchor ready.unit.planned stack a simple coded room (length rest) next pc w0 m0 seen0 left0 acts end in
          bound c _ m0 (does setting frame a w0) _ k (r.by _ (λ w1 m1 seen1 lt1. turns_all ends inners keys rest next w1 m1 seen1 lt1 turns more) (λ j w1 m1 seen1 lt1. go_to (from_label j (y.lines u)) w1 m1 (stands_from c.code y u j whole.0 (y.lines u) whole.1) seen1 lt1) (λ p w1 m1 seen1 lt1 main has. goes_back place p w1 m1 (later w1 m1 seen1).seen lt1 main has))

      pub perform_run : (a : Act) → Coded y u a → Fit c.code y u a → suc (length rest) ≤ length (y.lines u) → HasAt c.code pc (act_code y u (length rest) next place a) → pc + act_size y u a ≡ next → HasAt c.code next (turns_code y u (ends_by a ends)) → Stands (next + turns_size (ends_by a ends)) rest → Comes c (at pc stack (here place) callers) m0 (finish (perform setting frame (y.lines u) label a rest go pr w0) k)
      perform_run (When e a) coded room long acts end turns more =
          let ce = act_code y u (length rest) next place a in
          let p1 = pc + length (value_code y u e) + 1 in
          let inside = has_back c.code pc (value_code y u e) (i.JumpFalse next ∷ i.Begin place ∷ ce) acts in
          let inner = inner_stands c.code y u p1 next label place a rest coded.1 coded.2 (omega arith) long inside.1 (omega arith) turns more in
          bound c _ m0 (asks setting frame e w0) _ k (ac.asks_run y bound1 c site anchor ready.unit.planned stack e coded.0 (omega arith) next pc (i.Begin place ∷ ce) w0 m0 seen0 left0 acts _ (λ w1 m1 seen1 lt1. go_on (record { label = label; place = place; act = a } ∷ rest) p1 w1 m1 inner seen1 lt1) (λ w1 m1 seen1 lt1. turns_all ends inners keys rest next w1 m1 seen1 lt1 turns more))
      perform_run (Loop lb x a b d) coded room long acts end turns more =
          let e : next + 0 ≡ next = omega arith in
          let limit = limit_unit y u (length rest) in
          let step = step_unit y u (length rest) in
          bound c _ m0 (loop_start setting frame x a b d w0) _ k (lo.start_run y bound1 c site anchor stack limit step x a b d next pc w0 m0 seen0 left0 acts end _ (λ lp w1 st1 m1 fit seen1 lt1. follows.by few within p0 place rest (begun (length rest) lp pr) next w1 (holding (keep_loop limit step lp st1) m1) k (subst (λ q. Stands q rest) e more) (begins (length rest) long lp fit pr w1 m1 st1 (later w1 (holding st1 m1) seen1)) lt1 goes_back))
      perform_run (Invoke x es) coded room long acts end turns more = simple_run (Invoke x es) tt coded room acts end turns more
      perform_run (Read f g es) coded room long acts end turns more = simple_run (Read f g es) tt coded room acts end turns more
      perform_run (Write f g es) coded room long acts end turns more = simple_run (Write f g es) tt coded room acts end turns more
      perform_run (Assign x e) coded room long acts end turns more = simple_run (Assign x e) tt coded room acts end turns more
      perform_run (Sign e f g h) coded room long acts end turns more = simple_run (Sign e f g h) tt coded room acts end turns more
      perform_run (Stop None) coded room long acts end turns more = simple_run (Stop None) tt coded room acts end turns more
      perform_run (Stop (Some f)) coded room long acts end turns more = simple_run (Stop (Some f)) tt coded room acts end turns more
      perform_run a coded room long acts end turns more = simple_run a tt tt room acts end turns more
