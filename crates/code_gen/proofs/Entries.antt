-- The next statement of a unit begins, and a unit is entered.
use Rattle.std.proofs.Common.{◌≡◌, cond, ℕ, zero, suc, ◌+◌, ◌<◌, ◌≤◌, Bool, true, false, List, [], ◌∷◌, length, Some, refl, sym, subst, arith, slice_get}
use Rattle.ground.specs.declared.place.Place.{Place}
use Rattle.f66_tree.specs.Syntax.{Line}
use Rattle.f66_tree.specs.World.{Store, State, World, Done, Ended, GoesOn, Out, bind, take_from, take_one, Shown}
use Rattle.f66_tree.specs.Units as units
use Rattle.f66_tree.specs.Units.{is_note, is_main, moved_to}
use Rattle.f66_tree.specs.Execution.{runnable, Progress, perform, past_end, fetch, target, exec, no_loops}
use Rattle.stack_code.specs.Instructions as i
use Rattle.stack_code.specs.Instructions.{Instruction}
use Rattle.stack_code.specs.StackMachine.{Spot, Entry, Frame, Caller, Program}
use Rattle.code_gen.specs.Layout.{Layout}
use Rattle.code_gen.specs.Statements.{turns_place, place_of, leave, prologue_code, prologue_size}
use Rattle.code_gen.specs.Coded.{top}
use Rattle.code_gen.proofs.Steps.{HasAt, has_front, has_back, finish, at, Comes, does_one, moved}
use Rattle.code_gen.proofs.Sights.{SpotsSeen}
use Rattle.code_gen.proofs.Standing.{StandsAt, StandsLine, stands_place, stands_line}
use Rattle.code_gen.proofs.Runs as r
use Rattle.code_gen.proofs.Runs.{Ready, CallsAll}

-- the first of these statements is executed, where there is one
abbrev pub IsNext : List Line → Type 0
IsNext [] = Unit {0}
IsNext (s ∷ rest) = is_note s.act ≡ false

next_by : (b : Bool) (s : Line) (rest : List Line) → is_note s.act ≡ b → IsNext (runnable rest) → IsNext (cond b (runnable rest) (s ∷ rest))
next_by true s rest is h = h
next_by false s rest is h = is

pub next : (rest : List Line) → IsNext (runnable rest)
next [] = tt
next (s ∷ rest) = next_by (is_note s.act) s rest refl (next rest)

abbrev pub world : State → ℕ → ℕ → World
world st left count = record { state = st; left = left; count = count }

module _ (y : Layout) (bound1 : ℕ) (c : Program) (callers : List Caller) (u : ℕ) (ready : Ready y bound1 c u) (stack : List Entry) (actuals : List units.Spot) (spots : List Spot) (hold0 : Store) (see : SpotsSeen y.linked bound1 (top y u) hold0 actuals spots) where
  abbrev from_frame : Place → units.Frame
  from_frame p = record { unit = u; actuals = actuals; place = p }

  abbrev here : Place → Frame
  here p = record { place = p; spots = spots }

  abbrev Kept : World → World → Type 0
  Kept = r.Kept y bound1 c callers u ready stack actuals spots hold0 see

  abbrev Now : Progress → World → World → Type 0
  Now = r.Now y bound1 c callers u ready stack actuals spots hold0 see

  abbrev GoesBack : ℕ → (Unit {0} → World → Shown) → Type 0
  GoesBack = r.GoesBack y bound1 c callers u ready stack actuals spots hold0 see

  abbrev Follows : ℕ → Type 0
  Follows = r.Follows y bound1 c callers u ready stack actuals spots hold0 see

  past_run : (b : Bool) → is_main (y.linked.context u).header ≡ b → (few : ℕ) (p : Place) (pc : ℕ) (w m : World) (k : Unit {0} → World → Shown) → m.state.tape ≡ w.state.tape → m.count ≡ w.count → (b ≡ false → Kept w m) → w.left < few → slice_get c.code pc ≡ Some (leave b) → GoesBack few k → Comes c (at pc stack (here p) callers) m (finish (past_end b w) k)
  past_run true is few p pc w m k tape count kept lt has back = does_one c (at pc stack (here p) callers) m _ _ has (λ j. record { records = (tape j).written; end = Ended Done; work = count j })
  past_run false is few p pc w m k tape count kept lt has back = back p pc w m (kept refl) lt is has

  -- a statement begins, unless none may
  begin_run : (left count : ℕ) (ws ms : State) → ms.tape ≡ ws.tape → (p place : Place) (pc : ℕ) (f : World → Out (Unit {0})) (k : Unit {0} → World → Shown) → slice_get c.code pc ≡ Some (i.Begin place) → ((more : ℕ) → left ≡ suc more → Comes c (at (pc + 1) stack (here place) callers) (world ms more (count + 1)) (finish (f (world ws more (count + 1))) k)) → Comes c (at pc stack (here p) callers) (world ms left count) (finish (bind (take_from ws left count) (λ _ w1. f w1)) k)
  begin_run zero count ws ms tape p place pc f k has h = does_one c (at pc stack (here p) callers) _ _ _ has (λ j. record { records = (tape j).written; end = GoesOn; work = count })
  begin_run (suc more) count ws ms tape p place pc f k has h = does_one c (at pc stack (here p) callers) _ _ _ has (h more refl)

  module _ (n : ℕ) (follows : Follows n) (calls : CallsAll y bound1 c n) (p0 : Place) (k : Unit {0} → World → Shown) where
    abbrev body : Line → List Line → Progress → World → Out (Unit {0})
    body s rest pr w = perform (target y.linked y.lines n (exec y.linked y.lines n)) (moved_to s.place (from_frame p0)) (y.lines u) s.label s.act rest (exec y.linked y.lines n (from_frame p0)) pr w

    abbrev fetched : List Line → Progress → World → Out (Unit {0})
    fetched xs pr w = fetch (target y.linked y.lines n (exec y.linked y.lines n)) (from_frame p0) (y.lines u) xs (exec y.linked y.lines n (from_frame p0)) pr w

    -- a statement that has begun
    begun_run : (s : Line) (rest : List Line) (pc : ℕ) → StandsLine c.code y u pc s rest → (pr : Progress) (few : ℕ) → few ≤ n → (w m : World) → Now pr w m → w.left < few → GoesBack few k → Comes c (at (pc + 1) stack (here s.place) callers) m (finish (body s rest pr w) k)
    begun_run s rest pc line pr few within w m now lt back =
        r.perform_run y bound1 c callers u ready stack actuals spots hold0 see n follows calls s.place p0 pr few within w m now lt k back s.label rest (pc + 1) (turns_place y u s rest) s.act line.coded line.room line.long line.acts line.next line.turns line.then

    pub fetch_run : (xs : List Line) → IsNext xs → (few : ℕ) → few ≤ suc n → (p1 : Place) (pr : Progress) (pc : ℕ) (w m : World) → StandsAt c.code y u pc xs → Now pr w m → w.left < few → GoesBack few k → Comes c (at pc stack (here p1) callers) m (finish (fetched xs pr w) k)
    fetch_run [] is few within p1 pr pc w m stands now lt back = past_run (is_main (y.linked.context u).header) refl few p1 pc w m k now.seen.tape now.seen.count (λ e. now.seen) lt stands.has.0 back
    fetch_run (s ∷ rest) is few within p1 pr pc w m stands now lt back =
        let line = stands_line c.code y u pc s rest is stands in
        let path : m ≡ world m.state w.left w.count = λ j. record { state = m.state; left = now.seen.left j; count = now.seen.count j } in
        let shows : Shown = finish (bind (take_one w) (λ _ w1. body s rest pr w1)) k in
        subst (λ x. Comes c (at pc stack (here p1) callers) x shows) (sym path) (begin_run w.left w.count w.state m.state now.seen.tape p1 s.place pc (body s rest pr) k line.begins (λ more e.
        let w2 = world w.state more (w.count + 1) in
        let m2 = world m.state more (w.count + 1) in
        let seen = now.seen in
        let now2 : Now pr w2 m2 = record { seen = record { store = seen.store; tape = seen.tape; left = refl; count = refl; kept = seen.kept }; loops = now.loops } in
        begun_run s rest pc line pr (suc more) (omega arith) w2 m2 now2 (omega arith) (λ p q w3 m3 kept3 lt3 main has. back p q w3 m3 kept3 (omega arith) main has)))

    -- what stands at an entry leaves no loop in progress
    abbrev pub Setup : List Instruction → State → State → Type 0
    Setup is' ws ms = (pc : ℕ) → HasAt c.code pc is' → (p : Place) (left count : ℕ) (a : Shown) → ((m' : World) → Now no_loops (world ws left count) m' → Comes c (at (pc + length is') stack (here p) callers) m' a) → Comes c (at pc stack (here p) callers) (world ms left count) a

    pub enter_run : (is' : List Instruction) (xs : List Line) → IsNext xs → (few : ℕ) → few ≤ suc n → (p1 : Place) (pc : ℕ) (ws ms : State) (left count : ℕ) → HasAt c.code pc (prologue_code y u is' xs) → StandsAt c.code y u (pc + prologue_size is' xs) xs → ms.tape ≡ ws.tape → Setup is' ws ms → (is_main (y.linked.context u).header ≡ false → Kept (world ws left count) (world ms left count)) → left < few → GoesBack few k → Comes c (at pc stack (here p1) callers) (world ms left count) (finish (fetched xs no_loops (world ws left count)) k)
    enter_run [] xs is few within p1 pc ws ms left count has stands tape setup kept lt back =
        setup pc tt p1 left count _ (λ m now. fetch_run xs is few within p1 no_loops (pc + 0) (world ws left count) m stands now lt back)
    enter_run (h ∷ hs) [] is few within p1 pc ws ms left count has stands tape setup kept lt back =
        let e : pc ≡ pc + 0 = omega arith in
        moved c _ _ stack (here p1) callers _ _ e (past_run (is_main (y.linked.context u).header) refl few p1 (pc + 0) (world ws left count) (world ms left count) k tape refl kept lt stands.has.0 back)
    enter_run (h ∷ hs) (s ∷ rest) is few within p1 pc ws ms left count has stands tape setup kept lt back =
        let first = h ∷ hs in
        let size = prologue_size first (s ∷ rest) in
        let line = stands_line c.code y u (pc + size) s rest is stands in
        let place = stands_place c.code y u (pc + size) (s ∷ rest) stands in
        let near : suc (place_of y u (s ∷ rest)) ≡ pc + size + 1 = omega arith in
        let jump = i.Jump (suc (place_of y u (s ∷ rest))) ∷ [] in
        begin_run left count ws ms tape p1 s.place pc (body s rest no_loops) k has.0 (λ more e. setup (pc + 1) (has_front c.code (pc + 1) first jump has.1) s.place more (count + 1) _ (λ m now.
        does_one c (at (pc + 1 + length first) stack (here s.place) callers) m _ _ (has_back c.code (pc + 1) first jump has.1).0 (moved c _ _ stack (here s.place) callers m _ near (begun_run s rest (pc + size) line no_loops (suc more) (omega arith) (world ws more (count + 1)) m now (omega arith) (λ p q w3 m3 kept3 lt3 main has3. back p q w3 m3 kept3 (omega arith) main has3)))))
