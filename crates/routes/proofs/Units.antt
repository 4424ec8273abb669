-- A program's units do what their routes do, called as deep as they may be, and so does the whole program.
use Rattle.std.proofs.Common.{◌≡◌, true, false, Bool, ℕ, zero, suc, ◌+◌, ◌<◌, List, [], None, refl, sym, ap, ◌∙◌, subst, arith}
use Rattle.std.specs.Prelude.{⊤}
use Rattle.ground.specs.declared.place.Place.{Place}
use Rattle.f66_tree.specs.Syntax.{Line}
use Rattle.f66_tree.specs.World.{Record, State, World, counted, Finish, End, Ended, GoesOn, Lost, Out, Gives, Halts, bind, shown}
use Rattle.f66_tree.specs.Units.{is_main, Spot, Frame, moved_to}
use Rattle.f66_tree.specs.Statements.{returned}
use Rattle.f66_tree.specs.Execution.{fetch, leads, exec, no_loops, stand, nowhere, first_state, past_end, f66}
use Rattle.f66_tree.proofs.Comes.{at, Part}
use Rattle.routes.specs.Running.{Went, Jumps, Backs, Leave, Flow, all_running, ended_by, routes_call, routed}
use Rattle.routes.specs.Code.{all_code}
use Rattle.routes.specs.Units.{ending, Units, Reaches}
use Rattle.routes.proofs.Tracks.{Tracks, T, same_fuel, same_tracks}
use Rattle.routes.proofs.Follows.{Run, Under, Follows}
use Rattle.routes.proofs.Routes.{Starts, body_right}

ending_starts : (main : Bool) (p : Place) → Starts (ending main p)
ending_starts true p = (_, _, refl)
ending_starts false p = (_, _, refl)

module _ (c : Units) (b : ℕ) where
  abbrev frame : ℕ → List Spot → Frame
  frame v ps = record { unit = v; actuals = ps; place = nowhere }

  abbrev R : ℕ → List Spot → List Line → Part
  R v ps rest = Run c.linked c.codes (frame v ps) rest

  abbrev main_of : ℕ → Bool
  main_of v = is_main (c.linked.context v).header

  abbrev body : ℕ → List Line
  body v = all_code (c.made v) (c.bodies v) 0 [] (ending (main_of v) (c.last v))

  -- the statement at the end of a unit
  at_end : (v : ℕ) (ps : List Spot) (p : Place) (n : ℕ) (s : State) (k d : ℕ) → R v ps (ending (main_of v) p) (suc n) (at s (suc k) d) ≡ past_end (main_of v) (at s k (d + 1))
  at_end v ps p n s k d = by_main (main_of v) refl
    where
      by_main : (m : Bool) → main_of v ≡ m → R v ps (ending m p) (suc n) (at s (suc k) d) ≡ past_end m (at s k (d + 1))
      by_main true e = refl
      by_main false e = ap (λ h. bind (returned h (at s k (d + 1))) (λ y w. leads (Under c.linked c.codes (frame v ps) n) (moved_to p (frame v ps)) (c.codes v) None [] (exec c.linked c.codes n (frame v ps)) no_loops y w)) e

  -- a unit that has ended
  ended_tracks : (v : ℕ) (ps : List Spot) (t : Part) (s : State) (x : ℕ) (o : Flow) → Follows c.linked c.codes (frame v ps) 1 b [] t s x (ending (main_of v) (c.last v)) o → Tracks ℕ same_fuel b s x t (bind o (ended_by (main_of v)))
  ended_tracks v ps t s x (Gives Went w) h = by_main (main_of v) refl
    where
      comes : (m : Bool) → main_of v ≡ m → (n k e : ℕ) → h.by.0 + 1 + k < n → t n (at s (h.by.0 + 1 + k) e) ≡ past_end m (at w.state k (e + (h.by.0 + 1)))
      comes m is n k e lt =
          let e1 : h.by.0 + 1 + k ≡ h.by.0 + (1 + k) = omega arith in
          let e2 : e + h.by.0 + 1 ≡ e + (h.by.0 + 1) = omega arith in
          let a = h.by.2.by n (1 + k) e (omega arith) in
          ap (λ i. t n (at s i e)) e1 ∙ a.2 ∙ last a.0 a.1 ∙ ap (λ j. past_end j (at w.state k (e + h.by.0 + 1))) is ∙ ap (λ i. past_end m (at w.state k i)) e2
        where
          last : (q : ℕ) → 1 + k < q → R v ps (ending (main_of v) (c.last v)) q (at w.state (1 + k) (e + h.by.0)) ≡ past_end (main_of v) (at w.state k (e + h.by.0 + 1))
          last zero l = absurd (omega arith)
          last (suc q) l = let e3 : 1 + k ≡ suc k = omega arith in ap (λ i. R v ps (ending (main_of v) (c.last v)) (suc q) (at w.state i (e + h.by.0))) e3 ∙ at_end v ps (c.last v) q w.state k (e + h.by.0)

      by_main : (m : Bool) → main_of v ≡ m → Tracks ℕ same_fuel b s x t (past_end m (counted w))
      by_main true is = record { by = (h.by.0 + 1, omega (arith, h.by.1), λ n k e lt. comes true is n k e lt) }
      by_main false is = record { by = (h.by.0 + 1, omega (arith, h.by.1), λ n k e lt. comes false is n k e lt) }
  ended_tracks v ps t s x (Gives Backs w) h = record { by = h.by }
  ended_tracks v ps t s x (Gives (Jumps m) w) h = record { by = tt }
  ended_tracks v ps t s x (Gives (Leave k) w) h = record { by = tt }
  ended_tracks v ps t s x (Halts (Ended e) w) h = record { by = h.by }
  ended_tracks v ps t s x (Halts GoesOn w) h = record { by = h.by }
  ended_tracks v ps t s x (Halts Lost w) h = record { by = tt }

  -- the run of a unit, and what its routes do when it is called at most k deep
  abbrev pub run_of : ℕ → List Spot → Part
  run_of v ps n w = exec c.linked c.codes n (frame v ps) (stand (c.codes v) no_loops) w

  abbrev pub Tracked : ℕ → Type 0
  Tracked k = (v : ℕ) (ps : List Spot) → T ℕ same_fuel b ⊤ (run_of v ps) (routes_call c.linked c.bodies b k v ps)

  -- what stands before the statements of the routes is not executed
  from_start : (v : ℕ) (ps : List Spot) (n : ℕ) (w : World) → run_of v ps n w ≡ R v ps (body v) n w
  from_start v ps zero w = refl
  from_start v ps (suc n) w = ap (λ r. fetch (Under c.linked c.codes (frame v ps) n) (frame v ps) (c.codes v) r (exec c.linked c.codes n (frame v ps)) no_loops w) (c.executed v)

  one_deeper : (k : ℕ) → Tracked k → Tracked (suc k)
  one_deeper k ih v ps w x le =
      same_tracks ℕ same_fuel (routes_call c.linked c.bodies b (suc k) v ps w) (λ n i e. from_start v ps n (at w.state i e))
      (ended_tracks v ps (R v ps (body v)) w.state x (all_running (record { linked = c.linked; call = routes_call c.linked c.bodies b k; begin = λ w1. Gives tt (counted w1); most = b; tick = λ i. i }) (frame v ps) b (c.bodies v) w)
      (body_right c.linked c.codes (frame v ps) b (routes_call c.linked c.bodies b k) ih (c.made v) (c.no_do v) (c.bodies v) 0 [] (ending (main_of v) (c.last v)) (c.placed v) (ending_starts (main_of v) (c.last v)) w x le))

  pub units_track : (k : ℕ) → Tracked k
  units_track zero v ps w x le = record { by = tt }
  units_track (suc k) v ps w x le = one_deeper k (units_track k) v ps w x le

-- ---- the whole program ----

not_on : {e : Finish} → Ended e ≡ GoesOn → ⊥
not_on e = subst IsOver e tt
  where
    IsOver : End → Type 0
    IsOver (Ended f) = ⊤
    IsOver GoesOn = ⊥
    IsOver Lost = ⊥

not_over : {e : Finish} → GoesOn ≡ Ended e → ⊥
not_over e = not_on (sym e)

lost_not_over : {e : Finish} → Lost ≡ Ended e → ⊥
lost_not_over e = subst IsLost e tt
  where
    IsLost : End → Type 0
    IsLost Lost = ⊤
    IsLost (Ended f) = ⊥
    IsLost GoesOn = ⊥

lost_not_on : Lost ≡ GoesOn → ⊥
lost_not_on e = subst IsLost e tt
  where
    IsLost : End → Type 0
    IsLost Lost = ⊤
    IsLost (Ended f) = ⊥
    IsLost GoesOn = ⊥

reaches_of : (b : ℕ) (s : State) (t : Part) (o : Out ⊤) → Tracks ℕ same_fuel b s 0 t o → Reaches b (shown o) (λ n. shown (t (suc n) (at s n 0)))
reaches_of b s t (Gives a w) h = record {
  over = λ f is. (
    h.by.0,
    omega (arith, h.by.1),
    λ k.
        let e = h.by.2 (suc (h.by.0 + k)) k 0 (omega arith) in
        record { records = sym (ap (λ o. (shown o).records) e); end = sym (ap (λ o. (shown o).end) e) },
  );
  on = λ is. absurd (not_on is);
}
reaches_of b s t (Halts (Ended g) w) h = record {
  over = λ f is. (
    h.by.0,
    omega (arith, h.by.1),
    λ k.
        let e = h.by.2 (suc (h.by.0 + k)) k 0 (omega arith) in
        record { records = sym (ap (λ o. (shown o).records) e); end = sym (ap (λ o. (shown o).end) e) },
  );
  on = λ is. absurd (not_on is);
}
reaches_of b s t (Halts GoesOn w) h = record {
  over = λ f is. absurd (not_over is);
  on = λ is.
      let e = h.by.3 (suc h.by.0) 0 (omega arith) in
      (h.by.0, h.by.2, omega (arith, h.by.1), ap (λ o. (shown o).end) e, sym (ap (λ o. (shown o).records) e));
}
reaches_of b s t (Halts Lost w) h = record { over = λ f is. absurd (lost_not_over is); on = λ is. absurd (lost_not_on is) }

-- the units reach what their routes show
pub units_reach : (c : Units) (b : ℕ) (input : List Record) → Reaches b (routed c.linked c.bodies b input) (f66 c.linked c.codes input)
units_reach c b input =
    let l = c.linked in
    reaches_of b (first_state l input) (run_of c b l.main []) (routes_call l c.bodies b l.deep l.main [] (record { state = first_state l input; left = 0; count = 0 })) (units_track c b l.deep l.main [] (record { state = first_state l input; left = 0; count = 0 }) 0 (omega arith))
