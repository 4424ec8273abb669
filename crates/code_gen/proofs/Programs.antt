-- The code of a program does what its units do.
use Rattle.std.proofs.Common.{◌≡◌, cond, ℕ, zero, suc, ◌+◌, ◌≤◌, inl, inr, Bool, true, false, true≢false, List, [], ◌∷◌, ◌++◌, length, Some, refl, sym, ap, ◌∙◌, subst, arith, length-append}
use Rattle.f66_tree.specs.Syntax.{Text, Line}
use Rattle.f66_tree.specs.World.{Store, World, Out, Gives, Halts, Shown, shown}
use Rattle.f66_tree.specs.Units as units
use Rattle.f66_tree.specs.Units.{is_note, is_main}
use Rattle.f66_tree.specs.Execution.{runnable, stand, exec, no_loops, nowhere, first_state}
use Rattle.stack_code.specs.Instructions as i
use Rattle.stack_code.specs.Instructions.{Instruction}
use Rattle.stack_code.specs.StackMachine as sm
use Rattle.stack_code.specs.StackMachine.{Spot, Entry, Frame, Caller, Program}
use Rattle.code_gen.specs.Layout.{Layout}
use Rattle.code_gen.specs.Statements.{enders, turns_code, turns_place, turns_size, act_code, line_size, body_size, body_code, first_by, first_code, prologue_code, prologue_size, preset_code, reset_code, unit_code, unit_size, units_code}
use Rattle.code_gen.specs.Coded.{top}
use Rattle.code_gen.specs.Behaves.{IsUnit, AreUnits, AreEntered, IsAmong, ProgramBehaves, program}
use Rattle.code_gen.proofs.Steps.{HasAt, has_front, has_back, has_at, has_all, finish, at, Comes, does_one, moved}
use Rattle.code_gen.proofs.Sights.{Seen, SpotsSeen}
use Rattle.code_gen.proofs.Lengths.{act_length, turns_length}
use Rattle.code_gen.proofs.Standing.{line_code, stands_runnable}
use Rattle.code_gen.proofs.Values.{Calls}
use Rattle.code_gen.proofs.Firsts.{filled_other, presets_run, resets_run}
use Rattle.code_gen.proofs.Runs as r
use Rattle.code_gen.proofs.Runs.{Ready, CallsAll}
use Rattle.code_gen.proofs.Entries.{next, world, fetch_run, enter_run}

-- ---- where units stand ----

line_length : (b : Bool) (y : Layout) (u : ℕ) (s : Line) (rest : List Line) → length (body_code y u rest) ≡ body_size y u rest → length (cond b (body_code y u rest) (line_code y u s rest)) ≡ cond b (body_size y u rest) (line_size y u s + body_size y u rest)
line_length true y u s rest h = h
line_length false y u s rest h =
    let a = act_code y u (length rest) (turns_place y u s rest) s.place s.act in
    let t = turns_code y u (enders y u s) in
    omega (arith, length-append a (t ++ body_code y u rest), length-append t (body_code y u rest), act_length y u (length rest) (turns_place y u s rest) s.place s.act, turns_length y u (enders y u s))

body_length : (y : Layout) (u : ℕ) (rest : List Line) → length (body_code y u rest) ≡ body_size y u rest
body_length y u [] = refl
body_length y u (s ∷ rest) = line_length (is_note s.act) y u s rest (body_length y u rest)

prologue_length : (y : Layout) (u : ℕ) (first : List Instruction) (xs : List Line) → length (prologue_code y u first xs) ≡ prologue_size first xs
prologue_length y u [] xs = refl
prologue_length y u (h ∷ hs) [] = refl
prologue_length y u (h ∷ hs) (s ∷ rest) = omega (arith, length-append hs (i.Jump (suc (Rattle.code_gen.specs.Statements.place_of y u (s ∷ rest))) ∷ []))

module _ (y : Layout) (bound1 : ℕ) (c : Program) where
  ready_one : (u pc : ℕ) (more : List Instruction) → y.entry u ≡ pc → IsUnit y u bound1 c.plans → HasAt c.code pc (unit_code y u ++ more) → Ready y bound1 c u
  ready_one u pc more enters unit has =
      let front = prologue_code y u (first_code y u) (runnable (y.lines u)) in
      let body = body_code y u (y.lines u) in
      let all = has_at c.code pc (y.entry u) (unit_code y u) (sym enters) (has_front c.code pc (unit_code y u) more has) in
      let size = prologue_length y u (first_code y u) (runnable (y.lines u)) in
      let here : y.entry u + length front ≡ y.entry u + prologue_size (first_code y u) (runnable (y.lines u)) = ap (λ z. y.entry u + z) size in
      record {
        unit = unit;
        opens = has_front c.code (y.entry u) front body all;
        stands = record { has = has_at c.code _ _ body here (has_back c.code (y.entry u) front body all); ends = omega arith; coded = unit.coded; room = unit.room; long = omega arith };
      }

  ready_all : (us : List ℕ) (pc : ℕ) → AreEntered y pc us → AreUnits y bound1 c.plans us → HasAt c.code pc (units_code y us) → (v : ℕ) → IsAmong v us → Ready y bound1 c v
  ready_all [] pc entered are has v m = absurd m
  ready_all (u ∷ us) pc entered are has v (inl e) = subst (Ready y bound1 c) (sym e) (ready_one u pc (units_code y us) entered.0 are.0 has)
  ready_all (u ∷ us) pc entered are has v (inr m) =
      let front = prologue_code y u (first_code y u) (runnable (y.lines u)) in
      let body = body_code y u (y.lines u) in
      let long : pc + length (unit_code y u) ≡ pc + unit_size y u = omega (arith, length-append front body, prologue_length y u (first_code y u) (runnable (y.lines u)), body_length y u (y.lines u)) in
      ready_all us (pc + unit_size y u) entered.1 are.1 (has_at c.code _ _ (units_code y us) long (has_back c.code pc (unit_code y u) (units_code y us) has)) v m

  -- ---- all runs ----

  module _ (callable : (x : Text) (v : ℕ) → y.linked.find x ≡ Some v → Ready y bound1 c v × (is_main (y.linked.context v).header ≡ false)) where
    record Everything (n : ℕ) : Type 0 where
      follows : (callers : List Caller) (u : ℕ) (ready : Ready y bound1 c u) (stack : List Entry) (actuals : List units.Spot) (spots : List Spot) (hold0 : Store) (see : SpotsSeen y.linked bound1 (top y u) hold0 actuals spots) → r.Follows y bound1 c callers u ready stack actuals spots hold0 see n
      calls : CallsAll y bound1 c n

    call_run : (n : ℕ) → Everything n → (x : Text) (v : ℕ) → y.linked.find x ≡ Some v → (here : Frame) (callers : List Caller) → Calls y bound1 c (suc n) (exec y.linked y.lines (suc n)) here callers v
    call_run n ih x v is here callers =
        let rd = callable x v is in
        let ready = rd.0 in
        let above = ready.unit.above in
        let below = ready.unit.below in
        let low : bound1 ≤ y.loops v = omega arith in
        let forgets : first_code y v ≡ reset_code y v (y.lines v) = ap (λ b. first_by b y v) rd.1 in
        record {
          laid = ready.unit.laid;
          by = λ few within ps es back stack w m k seen see lt go.
              let frames = record { back = back; frame = here } ∷ callers in
              let hold0 = m.state.store in
              let path : m ≡ world m.state w.left w.count = λ j. record { state = m.state; left = seen.left j; count = seen.count j } in
              let kept : (left count : ℕ) → Seen y.linked bound1 (top y v) hold0 (world w.state left count) (world m.state left count) = λ left count. record { store = seen.store; tape = seen.tape; left = refl; count = refl; kept = λ q le. refl } in
              let follows = ih.follows frames v ready stack ps es hold0 see in
              let Setup = Rattle.code_gen.proofs.Entries.Setup y bound1 c frames v ready stack ps es hold0 see n follows ih.calls nowhere k in
              let setup : Setup (reset_code y v (y.lines v)) w.state m.state = λ pc has p left count a go1. resets_run c stack (record { place = p; spots = es }) frames y bound1 v low hold0 (world w.state left count) (y.lines v) (omega arith) pc (world m.state left count) a has (kept left count) (λ m2 kept2 fg. go1 m2 (record { seen = kept2; loops = λ j among. λ t. record { limit = sm.limit_in (fg.limits j among t); step = sm.step_in (fg.steps j among t) } })) in
              let shows : Shown = finish (exec y.linked y.lines (suc n) (record { unit = v; actuals = ps; place = nowhere }) (stand (y.lines v) no_loops) w) k in
              subst (λ z. Comes c (at (y.entry v) stack (record { place = here.place; spots = es }) frames) z shows) (sym path) (enter_run y bound1 c frames v ready stack ps es hold0 see n follows ih.calls nowhere k (first_code y v) (runnable (y.lines v)) (next (y.lines v)) few within here.place (y.entry v) w.state m.state w.left w.count ready.opens (stands_runnable c.code y v _ (y.lines v) ready.stands) seen.tape (subst (λ code. Setup code w.state m.state) (sym forgets) setup) (λ e. kept w.left w.count) lt (λ p pc w1 m1 kept1 lt1 main has. does_one c (at pc stack (record { place = p; spots = es }) frames) m1 i.Return _ has (go w1 m1 kept1 lt1)));
        }

    everything : (n : ℕ) → Everything n
    everything zero = record {
      follows = λ callers u ready stack actuals spots hold0 see. record { by = λ few within p0 p1 rest pr pc w m k stands now lt back. absurd (omega arith) };
      calls = record { by = λ x v is here callers. record { laid = (callable x v is).0.unit.laid; by = λ few within ps es back stack w m k seen see lt go. absurd (omega arith) } };
    }
    everything (suc n) =
        let ih = everything n in
        record {
          follows = λ callers u ready stack actuals spots hold0 see. record { by = λ few within p0 p1 rest pr pc w m k stands now lt back. fetch_run y bound1 c callers u ready stack actuals spots hold0 see n (ih.follows callers u ready stack actuals spots hold0 see) ih.calls p0 k (runnable rest) (next rest) few within p1 pr pc w m (stands_runnable c.code y u pc rest stands) now lt back };
          calls = record { by = λ x v is here callers. call_run n ih x v is here callers };
        }

-- ---- a program ----

finished : (o : Out (Unit {0})) → finish o (λ a w. shown (Gives a w)) ≡ shown o
finished (Gives a w) = refl
finished (Halts e w) = refl

pub behaves : ProgramBehaves
behaves y others bound1 plans prog input n right =
    let u = y.linked.main in
    let c = program y others plans in
    let readies = ready_all y bound1 c (u ∷ others) 0 prog.entered prog.units (has_all c.code []) in
    let ready = readies u (inl refl) in
    let above = ready.unit.above in
    let below = ready.unit.below in
    let all = everything y bound1 c (λ x v is. (readies v (inr (prog.found x v is).0), (prog.found x v is).1)) n in
    let ws = first_state y.linked input in
    let m = sm.first_world input n in
    let k : Unit {0} → World → Shown = λ a w1. shown (Gives a w1) in
    let follows = all.follows [] u ready [] [] [] sm.empty tt in
    let Setup = Rattle.code_gen.proofs.Entries.Setup y bound1 c [] u ready [] [] [] sm.empty tt n follows all.calls nowhere k in
    let stores : first_code y u ≡ preset_code y.presets = ap (λ b. first_by b y u) prog.main in
    let other = filled_other bound1 y.presets prog.presets sm.empty in
    let setup : Setup (preset_code y.presets) ws m.state = λ pc has p left count a go. presets_run c [] (record { place = p; spots = [] }) [] y.presets pc (world m.state left count) a has (go _ (record {
      seen = record { store = λ q lt. sym (prog.initial q lt); tape = refl; left = refl; count = refl; kept = λ q le. other q (omega arith) };
      loops = λ j among. let e1 = other (Rattle.code_gen.specs.Statements.limit_unit y u j) (omega arith) in let e2 = other (Rattle.code_gen.specs.Statements.step_unit y u j) (omega arith) in λ t. record { limit = sm.limit_in (e1 t); step = sm.step_in (e2 t) };
    })) in
    let comes = enter_run y bound1 c [] u ready [] [] [] sm.empty tt n follows all.calls nowhere k (first_code y u) (runnable (y.lines u)) (next (y.lines u)) (suc n) (omega arith) nowhere (y.entry u) ws m.state n 0 ready.opens (stands_runnable c.code y u _ (y.lines u) ready.stands) refl (subst (λ code. Setup code ws m.state) (sym stores) setup) (λ e. absurd (true≢false (sym prog.main ∙ e))) (omega arith) (λ p pc w1 m1 kept1 lt1 e has. absurd (true≢false (sym prog.main ∙ e))) in
    let shows = exec y.linked y.lines (suc n) (record { unit = u; actuals = []; place = nowhere }) (stand (y.lines u) no_loops) (world ws n 0) in
    subst (λ a. Comes c sm.start m a) (finished shows) (moved c 0 (y.entry u) [] (record { place = nowhere; spots = [] }) [] m _ (sym prog.entered.0) comes) right
