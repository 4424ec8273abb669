-- What routes do. The count bounds the statements that begin in FORTRAN: each line that a route becomes adds one where it may
-- be begun.
use Rattle.std.specs.Prelude.{ℕ, zero, suc, Bool, false, nat_eq, ◌||◌, if◌then◌else◌, List, [], Option, Some, None, ⊤}
use Rattle.ground.specs.declared.place.Place.{Place}
use Rattle.f66_tree.specs.declared.editing.Way.{Way}
use Rattle.f66_tree.specs.Fields.{Fields}
use Rattle.f66_tree.specs.Syntax.{Par, Entries}
use Rattle.f66_tree.specs.World.{Record, World, GoesOn, Lost, Out, Gives, Halts, bind, settle, choose, counted, Shown, shown}
use Rattle.f66_tree.specs.Records.{closed}
use Rattle.f66_tree.specs.Units.{is_main, Spot, Linkage, Setting, Frame, moved_to, around}
use Rattle.f66_tree.specs.Evaluation.{par_in, asks}
use Rattle.f66_tree.specs.Statements.{Exit, Normal, To, Back, taped, items, on_unit, opened_by, does}
use Rattle.f66_tree.specs.Execution.{nowhere, first_state, past_end}
use Rattle.routes.specs.Routes.{Route, Plain, BreakIf, Break, Ring, Cycle, Block, InTurn, Labelled, Transfer, Routes, NoRoute, AndRoute}

-- how a route is left: as usual, for a label, for the caller, or by leaving a ring
pub data Course : Type 0 where
  Went : Course
  Jumps : ℕ → Course
  Backs : Course
  Leave : ℕ → Course

abbrev pub course_of : Exit → Course
course_of Normal = Went
course_of (To l) = Jumps l
course_of Back = Backs

abbrev pub Flow : Type 0
Flow = Out Course

abbrev pub Continuation : Type 0
Continuation = World → Flow

abbrev pub stays : Continuation
stays w = Halts GoesOn w

-- what comes after a route that has ended as usual
abbrev pub after : Continuation → Course → Continuation
after go Went w = go w
after go c w = Gives c w

abbrev pub then_do : Flow → Continuation → Flow
then_do flow go = bind flow (after go)

-- what comes after a list in a ring: it goes on, or leaves this ring or one further out
abbrev pub after_ring : Continuation → Course → Continuation
after_ring go Went w = go w
after_ring go (Leave zero) w = Gives Went w
after_ring go (Leave (suc k)) w = Gives (Leave k) w
after_ring go c w = Gives c w

abbrev pub ringed : Flow → Continuation → Flow
ringed flow go = bind flow (after_ring go)

-- at most n turns of a cycle: a turn begins behind the first list
abbrev pub cycles : ℕ → Continuation → Continuation → Continuation
cycles zero top rest w = ringed (top (counted w)) stays
cycles (suc n) top rest w = ringed (top (counted w)) (λ w1. ringed (rest (counted w1)) (cycles n top rest))

abbrev pub has_own_label : ℕ → Route → Bool
has_own_label l (Labelled m p r) = nat_eq m l || has_own_label l r
has_own_label l _ = false

abbrev pub stands : ℕ → Routes → Bool
stands l NoRoute = false
stands l (AndRoute r rs) = has_own_label l r || stands l rs

-- jumps to a label that stands directly in this list, at most n of them
abbrev pub landing : ℕ → Routes → (ℕ → Continuation) → Course → Continuation
landing zero rs go (Jumps l) w = if stands l rs then Halts GoesOn w else Gives (Jumps l) w
landing (suc n) rs go (Jumps l) w = if stands l rs then bind (go l w) (landing n rs go) else Gives (Jumps l) w
landing n rs go c w = Gives c w

abbrev pub landed : ℕ → Routes → (ℕ → Continuation) → Flow → Flow
landed n rs go flow = bind flow (landing n rs go)

module _ (s : Setting) (f : Frame) where
  -- a plain statement begins
  abbrev pub plain_route : Place → (World → Out Exit) → Continuation
  plain_route p run w = bind (run (counted w)) (λ y w1. Gives (course_of y) w1)

  -- a READ or WRITE by the format that it has
  abbrev pub transferred : Frame → Way → Par → Fields → Entries → World → Out Exit
  transferred f1 way u fs es w =
      bind (par_in s f1 u w) (λ v w1. bind (settle f1.place (on_unit way v) w1) (λ _ w2.
      bind (taped f1.place (opened_by way (Some fs)) w2) (λ _ w3. bind (items s f1 way es w3) (λ _ w4.
      bind (taped f1.place closed w4) (λ _ w5. Gives Normal w5)))))

  module _ (b : ℕ) where
    abbrev mutual
      pub running : Route → World → Flow
      running (Plain p a) w = plain_route p (does s (moved_to p f) a) w
      running (BreakIf p e k) w = bind (asks s (moved_to p f) e (counted w)) (λ holds w1. choose holds (Gives (Leave k) (counted w1)) (Gives Went w1))
      running (Break p k) w = Gives (Leave k) (counted w)
      running (Ring p rs) w = ringed (run_from rs None (counted w)) (λ w1. Gives Went w1)
      running (Cycle p top rest) w = cycles b (run_from top None) (run_from rest None) (counted w)
      running (Block rs) w = landed b rs (λ l. run_from rs (Some l)) (run_from rs None w)
      running (InTurn rs) w = run_from rs None w
      running (Labelled l p r) w = running r (counted w)
      running (Transfer p way u fs es) w = plain_route p (transferred (moved_to p f) way u fs es) w

      -- a list from its start, or from a label that stands directly in it
      pub run_from : Routes → Option ℕ → World → Flow
      run_from NoRoute from w = Gives Went w
      run_from (AndRoute r rs) None w = then_do (running r w) (run_from rs None)
      run_from (AndRoute r rs) (Some l) w = if has_own_label l r then (then_do (running r w) (run_from rs None)) else (run_from rs (Some l) w)

    abbrev pub all_running : Routes → World → Flow
    all_running rs w = landed b rs (λ l. run_from rs (Some l)) (run_from rs None w)

-- past its last statement a unit does as RETURN does, which is a statement of its own
abbrev pub ended_by : Bool → Course → World → Out ⊤
ended_by main Went w = past_end main (counted w)
ended_by main Backs w = Gives tt w
ended_by main c w = Halts Lost w

module _ (l : Linkage) (bodies : ℕ → Routes) (b : ℕ) where
  -- nothing but statements that begin is counted
  abbrev pub between : (ℕ → List Spot → World → Out ⊤) → Setting
  between call = record { linked = l; call = call; begin = λ w. Gives tt (counted w); most = b; tick = λ n. n }

  abbrev pub routes_call : ℕ → ℕ → List Spot → World → Out ⊤
  routes_call zero v ps w = Halts Lost w
  routes_call (suc k) v ps w =
      let f : Frame = record { unit = v; actuals = ps; place = nowhere } in
      bind (all_running (between (routes_call k)) f b (bodies v) w) (ended_by (is_main (around (between (routes_call k)) f).header))

  -- a program's run over these input records
  abbrev pub routed : List Record → Shown
  routed input = shown (routes_call l.deep l.main [] (record { state = first_state l input; left = 0; count = 0 }))
