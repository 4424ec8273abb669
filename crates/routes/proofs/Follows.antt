-- From one statement of a unit to another the target follows the routes. Follows says where a part t of the target comes to: if
-- the routes go on, t comes to the statements next; if they go to a label, to the statements from there; if they leave a ring, to
-- the label behind it. On the way it has begun d statements, d + x at most the count: x is what was begun before, and slack. A
-- jump has begun at least j, and routes that stop at their bound at least b.
use Rattle.std.proofs.Common.{◌≡◌, ℕ, zero, suc, ◌+◌, ◌≤◌, ◌<◌, List, [], ◌∷◌, refl, ap, ◌∙◌, subst, arith}
use Rattle.std.specs.Prelude.{⊤}
use Rattle.ground.specs.declared.place.Place.{Place}
use Rattle.f66_tree.specs.Syntax.{Line}
use Rattle.f66_tree.specs.World.{State, World, Ended, GoesOn, Lost, Out, Gives, Halts, bind}
use Rattle.f66_tree.specs.Units.{Linkage, Setting, Frame, moved_to}
use Rattle.f66_tree.specs.Execution.{stand, no_loops, from_label, closers, close, target, exec}
use Rattle.f66_tree.proofs.Comes.{at, Part, Comes, comes_here, comes_on, one}
use Rattle.routes.specs.Running.{Went, Jumps, Backs, Leave, Flow, Continuation, then_do, ringed}
use Rattle.routes.specs.Code.{Behind, label_behind, jump, here}
use Rattle.routes.proofs.Tracks.{Tracks, same_fuel}

module _ (l : Linkage) (codes : ℕ → List Line) (f : Frame) where
  abbrev pub co : List Line
  co = codes f.unit

  -- the statements still to go through
  abbrev pub Run : List Line → Part
  Run rest n w = exec l codes n f (stand rest no_loops) w

  -- the setting under the fuel n
  abbrev pub Under : ℕ → Setting
  Under n = target l codes n (exec l codes n)

  -- what a flow of the routes says of the part t, where next comes after it
  abbrev pub FollowsBy : (j b : ℕ) (ls : Behind) (t : Part) (s : State) (x : ℕ) (next : List Line) → Flow → Type 0
  FollowsBy j b ls t s x next (Gives Went w) = (d : ℕ) × (d + x ≤ w.count) × Comes t s (Run next) w.state d
  FollowsBy j b ls t s x next (Gives (Jumps m) w) = (d : ℕ) × (d + x ≤ w.count) × (j ≤ d) × Comes t s (Run (from_label m co)) w.state d
  FollowsBy j b ls t s x next (Gives (Leave k) w) = (d : ℕ) × (d + x ≤ w.count) × Comes t s (Run (from_label (label_behind ls k) co)) w.state d
  FollowsBy j b ls t s x next (Gives Backs w) = (d : ℕ) × (d + x ≤ w.count) × ((n k c : ℕ) → d + k < n → t n (at s (d + k) c) ≡ Gives tt (at w.state k (c + d)))
  FollowsBy j b ls t s x next (Halts (Ended e) w) = (d : ℕ) × (d + x ≤ w.count) × ((n k c : ℕ) → d + k < n → t n (at s (d + k) c) ≡ Halts (Ended e) (at w.state k (c + d)))
  FollowsBy j b ls t s x next (Halts GoesOn w) = (d : ℕ) × (d + x ≤ w.count) × (b ≤ d) × ((n c : ℕ) → d < n → t n (at s d c) ≡ Halts GoesOn (at w.state 0 (c + d)))
  FollowsBy j b ls t s x next (Halts Lost w) = ⊤

  pub record Follows (j b : ℕ) (ls : Behind) (t : Part) (s : State) (x : ℕ) (next : List Line) (o : Flow) : Type 0 where
    pub by : FollowsBy j b ls t s x next o

  -- a stretch before
  pub first : {j0 j1 b0 b1 x0 x1 d : ℕ} {ls : Behind} {t0 t1 : Part} {next : List Line} {s0 s1 : State} (o : Flow) → Comes t0 s0 t1 s1 d → d + x0 ≤ x1 → b0 ≤ d + b1 → j0 ≤ d + j1 → Follows j1 b1 ls t1 s1 x1 next o → Follows j0 b0 ls t0 s0 x0 next o
  first (Gives Went w) m e q i h = record { by = let a = h.by in (_, omega (arith, a.1), comes_on m a.2) }
  first (Gives (Jumps n) w) m e q i h = record { by = let a = h.by in (_, omega (arith, a.1), omega (arith, a.2), comes_on m a.3) }
  first (Gives (Leave k) w) m e q i h = record { by = let a = h.by in (_, omega (arith, a.1), comes_on m a.2) }
  first {d = d} {t0 = t0} {s0 = s0} (Gives Backs w) m e q i h = record {
    by = (
      d + h.by.0,
      omega (arith, h.by.1),
      λ n k c lt.
          let e1 : d + h.by.0 + k ≡ d + (h.by.0 + k) = omega arith in
          let e2 : c + d + h.by.0 ≡ c + (d + h.by.0) = omega arith in
          let p = m.by n (h.by.0 + k) c (omega arith) in
          ap (λ v. t0 n (at s0 v c)) e1 ∙ p.2 ∙ h.by.2 p.0 k (c + d) p.1 ∙ ap (λ q. Gives tt (at w.state k q)) e2,
    );
  }
  first {d = d} {t0 = t0} {s0 = s0} (Halts (Ended f1) w) m e q i h = record {
    by = (
      d + h.by.0,
      omega (arith, h.by.1),
      λ n k c lt.
          let e1 : d + h.by.0 + k ≡ d + (h.by.0 + k) = omega arith in
          let e2 : c + d + h.by.0 ≡ c + (d + h.by.0) = omega arith in
          let p = m.by n (h.by.0 + k) c (omega arith) in
          ap (λ v. t0 n (at s0 v c)) e1 ∙ p.2 ∙ h.by.2 p.0 k (c + d) p.1 ∙ ap (λ q. Halts (Ended f1) (at w.state k q)) e2,
    );
  }
  first {d = d} {t0 = t0} {s0 = s0} (Halts GoesOn w) m e q i h = record {
    by = (
      d + h.by.0,
      omega (arith, h.by.1),
      omega (arith, h.by.2),
      λ n c lt.
          let e2 : c + d + h.by.0 ≡ c + (d + h.by.0) = omega arith in
          let p = m.by n h.by.0 c (omega arith) in
          p.2 ∙ h.by.3 p.0 (c + d) p.1 ∙ ap (λ q. Halts GoesOn (at w.state 0 q)) e2,
    );
  }
  first (Halts Lost w) m e q i h = record { by = tt }

  -- with a smaller bound, and counted from fewer
  pub weaker : {j0 j1 b0 b1 x0 x1 : ℕ} {ls : Behind} {t : Part} {next : List Line} {s : State} (o : Flow) → x0 ≤ x1 → b0 ≤ b1 → j0 ≤ j1 → Follows j1 b1 ls t s x1 next o → Follows j0 b0 ls t s x0 next o
  weaker {t = t} {s = s} o e q i h = first o (comes_here t s) (omega arith) (omega arith) (omega arith) h

  -- a part whose work is tracked, and what comes after it by the result
  pub bind_follows : {A : Type 0} {j b x : ℕ} {ls : Behind} {s : State} {next : List Line} (t0 : ℕ → World → Out A) (o : Out A) (K : A → Part) (go : A → World → Flow) → Tracks ℕ same_fuel b s x t0 o → ((a : A) (w : World) (y : ℕ) → y ≤ w.count → Follows j b ls (K a) w.state y next (go a w)) → Follows j b ls (λ n w. bind (t0 n w) (λ a w1. K a n w1)) s x next (bind o go)
  bind_follows {x = x} t0 (Gives a w) K go tr k =
      first (go a w) (record { by = λ n j1 c lt. (n, omega arith, ap (λ q. bind q (λ a1 w1. K a1 n w1)) (tr.by.2 n j1 c lt)) }) (omega arith) (omega arith) (omega arith) (k a w (tr.by.0 + x) (omega (arith, tr.by.1)))
  bind_follows t0 (Halts (Ended e) w) K go tr k = record { by = (tr.by.0, omega (arith, tr.by.1), λ n j1 c lt. ap (λ q. bind q (λ a1 w1. K a1 n w1)) (tr.by.2 n j1 c lt)) }
  bind_follows t0 (Halts GoesOn w) K go tr k = record { by = (tr.by.0, omega (arith, tr.by.1), tr.by.2, λ n c lt. ap (λ q. bind q (λ a1 w1. K a1 n w1)) (tr.by.3 n c lt)) }
  bind_follows t0 (Halts Lost w) K go tr k = record { by = tt }

  pub then_follows : {j b m x0 : ℕ} {ls : Behind} {t : Part} {mid next : List Line} {s : State} (o : Flow) (go : Continuation) → m ≤ b → Follows j b ls t s x0 mid o → ((w : World) (x : ℕ) → x ≤ w.count → Follows j m ls (Run mid) w.state x next (go w)) → Follows j m ls t s x0 next (then_do o go)
  then_follows {x0 = x0} (Gives Went w) go le h k = let a = h.by in first (go w) a.2 (omega arith) (omega arith) (omega arith) (k w (a.0 + x0) (omega (arith, a.1)))
  then_follows (Gives (Jumps i) w) go le h _ = record { by = let a = h.by in (a.0, omega (arith, a.1), a.2, a.3) }
  then_follows (Gives (Leave i) w) go le h _ = record { by = let a = h.by in (a.0, omega (arith, a.1), a.2) }
  then_follows (Gives Backs w) go le h _ = record { by = let a = h.by in (a.0, omega (arith, a.1), a.2) }
  then_follows (Halts (Ended e) w) go le h _ = record { by = let a = h.by in (a.0, omega (arith, a.1), a.2) }
  then_follows (Halts GoesOn w) go le h _ = record { by = let a = h.by in (a.0, omega (arith, a.1), omega (arith, a.2), a.3) }
  then_follows (Halts Lost w) go le h _ = record { by = tt }

  pub past_jump : (p : Place) (m : ℕ) (rest : List Line) (s : State) → Comes (Run (jump p m ∷ rest)) s (Run (from_label m co)) s 1
  past_jump p m rest s = one _ _ s (λ n k c. refl)

  pub past_here : (p : Place) (m : ℕ) (rest : List Line) (s : State) → closers m co ≡ [] → Comes (Run (here m p ∷ rest)) s (Run rest) s 1
  past_here p m rest s e = one _ _ s (λ n k c. ap (λ q. close (Under n) (moved_to p f) q rest (exec l codes n f) no_loops (at s k (c + 1))) e)

  -- a list in a ring has ended: it goes on, or comes to the label behind the ring
  pub ringed_follows : {j b m x0 : ℕ} {ls : Behind} {t : Part} {mid next : List Line} {s : State} (y n1 : ℕ) (p : Place) (o : Flow) (go : Continuation) → m ≤ b → from_label n1 co ≡ here n1 p ∷ next → closers n1 co ≡ [] → Follows j b (n1 ∷ ls) t s (1 + y + x0) mid o →
      ((w : World) (x : ℕ) → 1 + y + x ≤ w.count → Follows j m ls (Run mid) w.state x next (go w)) → Follows j m ls t s x0 next (ringed o go)
  ringed_follows {x0 = x0} y n1 p (Gives Went w) go le at_out no_do h k = let a = h.by in first (go w) a.2 (omega arith) (omega arith) (omega arith) (k w (a.0 + x0) (omega (arith, a.1)))
  ringed_follows {t = t} {next = next} {s = s} y n1 p (Gives (Leave zero) w) go le at_out no_do h k =
      let a = h.by in
      let r : Comes t s (Run (here n1 p ∷ next)) w.state a.0 = subst (λ q. Comes t s (Run q) w.state a.0) at_out a.2 in
      record { by = (_, omega (arith, a.1), comes_on r (past_here p n1 next w.state no_do)) }
  ringed_follows y n1 p (Gives (Leave (suc i)) w) go le at_out no_do h _ = record { by = let a = h.by in (a.0, omega (arith, a.1), a.2) }
  ringed_follows y n1 p (Gives (Jumps i) w) go le at_out no_do h _ = record { by = let a = h.by in (a.0, omega (arith, a.1), a.2, a.3) }
  ringed_follows y n1 p (Gives Backs w) go le at_out no_do h _ = record { by = let a = h.by in (a.0, omega (arith, a.1), a.2) }
  ringed_follows y n1 p (Halts (Ended e) w) go le at_out no_do h _ = record { by = let a = h.by in (a.0, omega (arith, a.1), a.2) }
  ringed_follows y n1 p (Halts GoesOn w) go le at_out no_do h _ = record { by = let a = h.by in (a.0, omega (arith, a.1), omega (arith, a.2), a.3) }
  ringed_follows y n1 p (Halts Lost w) go le at_out no_do h _ = record { by = tt }
