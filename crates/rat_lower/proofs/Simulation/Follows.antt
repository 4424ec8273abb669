-- From one statement of a unit to another the target follows the source. Follows says where a part t of the target comes to,
-- from a state that the source has too: if the source goes on, t comes to the statements next; if it goes to a label, to the
-- statements from there; if it leaves or turns a loop, to the label that the rings give. On the way it has begun d
-- statements, d + x at most 32 times the work, and one more where the run ends: x is what was begun before, and slack. A jump has begun at least j, and a
-- source that stops at its bound at least b. DO loops from the key top on keep what they have, and spare units those of
-- greater rank.
use Rattle.std.proofs.Common.{◌≡◌, ℕ, zero, suc, ◌+◌, ◌*◌, ◌≤◌, ◌<◌, List, [], ◌∷◌, refl, ap, ◌∙◌, subst, arith}
use Rattle.std.specs.Prelude.{⊤}
use Rattle.ground.specs.declared.place.Place.{Place}
use Rattle.f66_tree.specs.Syntax.{Line}
use Rattle.f66_tree.specs.World.{Store, State, World, Ended, GoesOn, Lost, Out, Gives, Halts, bind}
use Rattle.f66_tree.specs.Units.{Spot, Setting, moved_to}
use Rattle.f66_tree.specs.Execution.{stand, Progress, from_label, closers, close, target, exec}
use Rattle.f66_tree.proofs.Posts.{AllFair}
use Rattle.f66_tree.proofs.Comes.{at, Part, Comes, comes_here, comes_on, one}
use Rattle.rat_tree.specs.Meaning.{Went, Jumps, Backs, Leave, Again, Flow, Continuation, then_do, turned}
use Rattle.rat_lower.specs.Code.{Rings, label_behind, label_again, jump, here}
use Rattle.rat_lower.proofs.Simulation.Spared.{Lowering, spared, near, Kept, kept_self, kept_on, kept_more, own_rank, code, F}
use Rattle.rat_lower.proofs.Simulation.Tracks.{Tracks, same_fuel, Answers}

-- what the target has besides the source's state: its DO loops in progress, and what the spare units hold
pub record Extra : Type 0 where
  pub loops : Progress
  pub spare : Store

abbrev pub spare_as : Extra → Store → Extra
spare_as pr v = record { loops = pr.loops; spare = v }

module _ (g : Lowering) where
  -- the DO loops further out and the spare units of greater rank keep what they have
  pub record Keeps (top : ℕ) (pr pr1 : Extra) : Type 0 where
    pub by : (q : ℕ) → top ≤ q → pr1.loops q ≡ pr.loops q
    pub kept : Kept g (1 + own_rank g) pr.spare pr1.spare

  pub keeps_self : (top : ℕ) (pr : Extra) → Keeps top pr pr
  keeps_self top pr = record { by = λ q le. refl; kept = kept_self g (1 + own_rank g) pr.spare }

  pub keeps_on : {top : ℕ} {p0 p1 p2 : Extra} → Keeps top p0 p1 → Keeps top p1 p2 → Keeps top p0 p2
  keeps_on h k = record { by = λ q le. k.by q le ∙ h.by q le; kept = kept_on g h.kept k.kept }

  pub keeps_less : (top key : ℕ) (p0 p1 : Extra) → key ≤ top → Keeps key p0 p1 → Keeps top p0 p1
  keeps_less top key p0 p1 le h = record { by = λ q lq. h.by q (omega arith); kept = h.kept }

  -- within a statement the spare units of the same rank keep theirs besides
  pub keeps_spares : (top : ℕ) (pr : Extra) (v : Store) → Kept g (own_rank g) pr.spare v → Keeps top pr (spare_as pr v)
  keeps_spares top pr v h = record { by = λ q le. refl; kept = kept_more g (omega arith) h }

module _ (g : Lowering) where
  -- the statements still to go through, from a world of the target, and of the source
  abbrev pub Raw : List Line → Progress → Part
  Raw rest loops n w = exec g.target g.codes n (F g) (stand rest loops) w

  abbrev pub Run : List Line → Extra → Part
  Run rest pr n w = Raw rest pr.loops n (spared g pr.spare w)

  -- the setting under the fuel n
  abbrev pub Under : ℕ → Setting
  Under n = target g.target g.codes n (exec g.target g.codes n)

  -- what calls do in the source, where the target follows those of units of lesser rank
  pub record Calls (b : ℕ) : Type 0 where
    pub does : ℕ → List Spot → World → Out ⊤
    pub track : (u : ℕ) (ps : List Spot) → g.rank u < own_rank g → AllFair g.Fair ps → (v : Store) (w : World) (x : ℕ) → x ≤ 32 * w.count → Answers ℕ same_fuel g b v w.state w.count x (λ n. (Under n).call u ps) (does u ps w)

  -- what a flow of the source says of the part t, where next comes after it
  abbrev pub FollowsBy : (j b top : ℕ) (ls : Rings) (pr : Extra) (t : Part) (s : State) (x : ℕ) (next : List Line) → Flow → Type 0
  FollowsBy j b top ls pr t s x next (Gives Went w) = (d : ℕ) × (d + x ≤ 32 * w.count) × (pr1 : Extra) × Keeps g top pr pr1 × Comes t s (Run next pr1) w.state d
  FollowsBy j b top ls pr t s x next (Gives (Jumps m) w) = (d : ℕ) × (d + x ≤ 32 * w.count) × (j ≤ d) × (pr1 : Extra) × Keeps g top pr pr1 × Comes t s (Run (from_label m (code g)) pr1) w.state d
  FollowsBy j b top ls pr t s x next (Gives (Leave k) w) = (d : ℕ) × (d + x ≤ 32 * w.count) × (pr1 : Extra) × Keeps g top pr pr1 × Comes t s (Run (from_label (label_behind ls k) (code g)) pr1) w.state d
  FollowsBy j b top ls pr t s x next (Gives (Again k) w) = (d : ℕ) × (d + x ≤ 32 * w.count) × (pr1 : Extra) × Keeps g top pr pr1 × Comes t s (Run (from_label (label_again ls k) (code g)) pr1) w.state d
  FollowsBy j b top ls pr t s x next (Gives Backs w) = (d : ℕ) × (d + x ≤ 32 * w.count) × (v : Store) × Kept g (1 + own_rank g) pr.spare v × ((n k c : ℕ) → d + k < n → t n (at s (d + k) c) ≡ Gives tt (near g v w.state k (c + d)))
  FollowsBy j b top ls pr t s x next (Halts (Ended e) w) = (d : ℕ) × (d + x ≤ 1 + 32 * w.count) × (v : Store) × ((n k c : ℕ) → d + k < n → t n (at s (d + k) c) ≡ Halts (Ended e) (near g v w.state k (c + d)))
  FollowsBy j b top ls pr t s x next (Halts GoesOn w) = (d : ℕ) × (d + x ≤ 1 + 32 * w.count) × (b ≤ d) × (v : Store) × ((n c : ℕ) → d < n → t n (at s d c) ≡ Halts GoesOn (near g v w.state 0 (c + d)))
  FollowsBy j b top ls pr t s x next (Halts Lost w) = ⊤

  pub record Follows (j b top : ℕ) (ls : Rings) (pr : Extra) (t : Part) (s : State) (x : ℕ) (next : List Line) (o : Flow) : Type 0 where
    pub by : FollowsBy j b top ls pr t s x next o

  -- a stretch before
  pub first : {j0 j1 b0 b1 top x0 x1 d : ℕ} {ls : Rings} {p0 p1 : Extra} {t0 t1 : Part} {next : List Line} {s0 s1 : State} (o : Flow) → Keeps g top p0 p1 → Comes t0 s0 t1 s1 d → d + x0 ≤ x1 → b0 ≤ d + b1 → j0 ≤ d + j1 → Follows j1 b1 top ls p1 t1 s1 x1 next o → Follows j0 b0 top ls p0 t0 s0 x0 next o
  first (Gives Went w) kp m e q i h = record { by = let a = h.by in (_, omega (arith, a.1), a.2, keeps_on g kp a.3, comes_on m a.4) }
  first (Gives (Jumps n) w) kp m e q i h = record { by = let a = h.by in (_, omega (arith, a.1), omega (arith, a.2), a.3, keeps_on g kp a.4, comes_on m a.5) }
  first (Gives (Leave k) w) kp m e q i h = record { by = let a = h.by in (_, omega (arith, a.1), a.2, keeps_on g kp a.3, comes_on m a.4) }
  first (Gives (Again k) w) kp m e q i h = record { by = let a = h.by in (_, omega (arith, a.1), a.2, keeps_on g kp a.3, comes_on m a.4) }
  first {d = d} {t0 = t0} {s0 = s0} (Gives Backs w) kp m e q i h = record {
    by = (
      d + h.by.0,
      omega (arith, h.by.1),
      h.by.2,
      kept_on g kp.kept h.by.3,
      λ n k c lt.
          let e1 : d + h.by.0 + k ≡ d + (h.by.0 + k) = omega arith in
          let e2 : c + d + h.by.0 ≡ c + (d + h.by.0) = omega arith in
          let p = m.by n (h.by.0 + k) c (omega arith) in
          ap (λ v. t0 n (at s0 v c)) e1 ∙ p.2 ∙ h.by.4 p.0 k (c + d) p.1 ∙ ap (λ q. Gives tt (near g h.by.2 w.state k q)) e2,
    );
  }
  first {d = d} {t0 = t0} {s0 = s0} (Halts (Ended f) w) kp m e q i h = record {
    by = (
      d + h.by.0,
      omega (arith, h.by.1),
      h.by.2,
      λ n k c lt.
          let e1 : d + h.by.0 + k ≡ d + (h.by.0 + k) = omega arith in
          let e2 : c + d + h.by.0 ≡ c + (d + h.by.0) = omega arith in
          let p = m.by n (h.by.0 + k) c (omega arith) in
          ap (λ v. t0 n (at s0 v c)) e1 ∙ p.2 ∙ h.by.3 p.0 k (c + d) p.1 ∙ ap (λ q. Halts (Ended f) (near g h.by.2 w.state k q)) e2,
    );
  }
  first {d = d} {t0 = t0} {s0 = s0} (Halts GoesOn w) kp m e q i h = record {
    by = (
      d + h.by.0,
      omega (arith, h.by.1),
      omega (arith, h.by.2),
      h.by.3,
      λ n c lt.
          let e2 : c + d + h.by.0 ≡ c + (d + h.by.0) = omega arith in
          let p = m.by n h.by.0 c (omega arith) in
          p.2 ∙ h.by.4 p.0 (c + d) p.1 ∙ ap (λ q. Halts GoesOn (near g h.by.3 w.state 0 q)) e2,
    );
  }
  first (Halts Lost w) kp m e q i h = record { by = tt }

  -- with a smaller bound, and counted from fewer
  pub weaker : {j0 j1 b0 b1 top x0 x1 : ℕ} {ls : Rings} {pr : Extra} {t : Part} {next : List Line} {s : State} (o : Flow) → x0 ≤ x1 → b0 ≤ b1 → j0 ≤ j1 → Follows j1 b1 top ls pr t s x1 next o → Follows j0 b0 top ls pr t s x0 next o
  weaker {top = top} {pr = pr} {t = t} {s = s} o e q i h = first o (keeps_self g top pr) (comes_here t s) (omega arith) (omega arith) (omega arith) h

  -- a part whose work is tracked, and what comes after it by the result
  pub bind_follows : {A : Type 0} {j b top x : ℕ} {ls : Rings} {pr : Extra} {s : State} {next : List Line} (z : ℕ) (t0 : ℕ → World → Out A) (o : Out A) (K : A → Part) (go : A → World → Flow) → Tracks ℕ same_fuel g b pr.spare s (z + x) t0 o →
      ((a : A) (v : Store) (w : World) (y : ℕ) → Kept g (own_rank g) pr.spare v → z + y ≤ 32 * w.count → Follows j b top ls (spare_as pr v) (λ n w1. K a n (spared g v w1)) w.state y next (go a w)) → Follows j b top ls pr (λ n w. bind (t0 n (spared g pr.spare w)) (λ a w1. K a n w1)) s x next (bind o go)
  bind_follows {A} {j} {b} {top} {x} {ls} {pr} {s} {next} z t0 (Gives a w) K go tr k =
      first (go a w) (keeps_spares g top pr tr.by.2 tr.by.3) (record { by = λ n j1 c lt. (n, omega arith, ap (λ q. bind q (λ a1 w1. K a1 n w1)) (tr.by.4 n j1 c lt)) }) (omega arith) (omega arith) (omega arith) (k a tr.by.2 w (tr.by.0 + x) tr.by.3 (omega (arith, tr.by.1)))
  bind_follows z t0 (Halts (Ended e) w) K go tr k = record { by = (tr.by.0, omega (arith, tr.by.1), tr.by.2, λ n j1 c lt. ap (λ q. bind q (λ a1 w1. K a1 n w1)) (tr.by.3 n j1 c lt)) }
  bind_follows z t0 (Halts GoesOn w) K go tr k = record { by = (tr.by.0, omega (arith, tr.by.1), tr.by.2, tr.by.3, λ n c lt. ap (λ q. bind q (λ a1 w1. K a1 n w1)) (tr.by.4 n c lt)) }
  bind_follows z t0 (Halts Lost w) K go tr k = record { by = tt }

  pub then_follows : {j b m top x0 : ℕ} {ls : Rings} {pr : Extra} {t : Part} {mid next : List Line} {s : State} (z : ℕ) (o : Flow) (go : Continuation) → m ≤ b → Follows j b top ls pr t s (z + x0) mid o → ((pr1 : Extra) (w : World) (x : ℕ) → Keeps g top pr pr1 → z + x ≤ 32 * w.count → Follows j m top ls pr1 (Run mid pr1) w.state x next (go w)) → Follows j m top ls pr t s x0 next (then_do o go)
  then_follows {x0 = x0} z (Gives Went w) go le h k = let a = h.by in first (go w) a.3 a.4 (omega arith) (omega arith) (omega arith) (k a.2 w (a.0 + x0) a.3 (omega (arith, a.1)))
  then_follows z (Gives (Jumps i) w) go le h _ = record { by = let a = h.by in (a.0, omega (arith, a.1), a.2, a.3, a.4, a.5) }
  then_follows z (Gives (Leave i) w) go le h _ = record { by = let a = h.by in (a.0, omega (arith, a.1), a.2, a.3, a.4) }
  then_follows z (Gives (Again i) w) go le h _ = record { by = let a = h.by in (a.0, omega (arith, a.1), a.2, a.3, a.4) }
  then_follows z (Gives Backs w) go le h _ = record { by = let a = h.by in (a.0, omega (arith, a.1), a.2, a.3, a.4) }
  then_follows z (Halts (Ended e) w) go le h _ = record { by = let a = h.by in (a.0, omega (arith, a.1), a.2, a.3) }
  then_follows z (Halts GoesOn w) go le h _ = record { by = let a = h.by in (a.0, omega (arith, a.1), omega (arith, a.2), a.3, a.4) }
  then_follows z (Halts Lost w) go le h _ = record { by = tt }

  pub past_jump : (p : Place) (m : ℕ) (rest : List Line) (pr : Extra) (s : State) → Comes (Run (jump p m ∷ rest) pr) s (Run (from_label m (code g)) pr) s 1
  past_jump p m rest pr s = one _ _ s (λ n k c. refl)

  pub past_here : (p : Place) (m : ℕ) (rest : List Line) (pr : Extra) (s : State) → closers m (code g) ≡ [] → Comes (Run (here m p ∷ rest) pr) s (Run rest pr) s 1
  past_here p m rest pr s e = one _ _ s (λ n k c. ap (λ q. close (Under n) (moved_to p (F g)) q rest (exec g.target g.codes n (F g)) pr.loops (near g pr.spare s k (c + 1))) e)

  -- a turn that has ended, where the (code g) has its two labels; key is the top within the turn
  pub turned_follows : {j b m top key x0 : ℕ} {ls : Rings} {pr : Extra} {t : Part} {mid next : List Line} {s : State} (z n1 n2 : ℕ) (p : Place) (o : Flow) (go : Continuation) → m ≤ b → 1 ≤ z → key ≤ top → from_label n1 (code g) ≡ here n1 p ∷ next → closers n1 (code g) ≡ [] → from_label n2 (code g) ≡ mid → Follows j b key ((n1, n2) ∷ ls) pr t s (z + x0) mid o →
      ((pr1 : Extra) (w : World) (x : ℕ) → Keeps g key pr pr1 → z + x ≤ 32 * w.count → Follows j m top ls pr1 (Run mid pr1) w.state x next (go w)) → Follows j m top ls pr t s x0 next (turned o go)
  turned_follows {top = top} {key} {x0} {pr = pr} z n1 n2 p (Gives Went w) go le one' kt at_out no_do at_mid h k =
      let a = h.by in first (go w) (keeps_less g top key pr a.2 kt a.3) a.4 (omega arith) (omega arith) (omega arith) (k a.2 w (a.0 + x0) a.3 (omega (arith, a.1)))
  turned_follows {top = top} {key} {pr = pr} {t = t} {next = next} {s = s} z n1 n2 p (Gives (Leave zero) w) go le one' kt at_out no_do at_mid h k =
      let a = h.by in
      let r : Comes t s (Run (here n1 p ∷ next) a.2) w.state a.0 = subst (λ q. Comes t s (Run q a.2) w.state a.0) at_out a.4 in
      record { by = (_, omega (arith, a.1), a.2, keeps_less g top key pr a.2 kt a.3, comes_on r (past_here p n1 next a.2 w.state no_do)) }
  turned_follows {top = top} {key} {pr = pr} z n1 n2 p (Gives (Leave (suc i)) w) go le one' kt at_out no_do at_mid h _ = record { by = let a = h.by in (a.0, omega (arith, a.1), a.2, keeps_less g top key pr a.2 kt a.3, a.4) }
  turned_follows {top = top} {key} {x0} {pr = pr} {t = t} {s = s} z n1 n2 p (Gives (Again zero) w) go le one' kt at_out no_do at_mid h k =
      let a = h.by in
      let r = subst (λ q. Comes t s (Run q a.2) w.state a.0) at_mid a.4 in
      first (go w) (keeps_less g top key pr a.2 kt a.3) r (omega arith) (omega arith) (omega arith) (k a.2 w (a.0 + x0) a.3 (omega (arith, a.1)))
  turned_follows {top = top} {key} {pr = pr} z n1 n2 p (Gives (Again (suc i)) w) go le one' kt at_out no_do at_mid h _ = record { by = let a = h.by in (a.0, omega (arith, a.1), a.2, keeps_less g top key pr a.2 kt a.3, a.4) }
  turned_follows {top = top} {key} {pr = pr} z n1 n2 p (Gives (Jumps i) w) go le one' kt at_out no_do at_mid h _ = record { by = let a = h.by in (a.0, omega (arith, a.1), a.2, a.3, keeps_less g top key pr a.3 kt a.4, a.5) }
  turned_follows z n1 n2 p (Gives Backs w) go le one' kt at_out no_do at_mid h _ = record { by = let a = h.by in (a.0, omega (arith, a.1), a.2, a.3, a.4) }
  turned_follows z n1 n2 p (Halts (Ended e) w) go le one' kt at_out no_do at_mid h _ = record { by = let a = h.by in (a.0, omega (arith, a.1), a.2, a.3) }
  turned_follows z n1 n2 p (Halts GoesOn w) go le one' kt at_out no_do at_mid h _ = record { by = let a = h.by in (a.0, omega (arith, a.1), omega (arith, a.2), a.3, a.4) }
  turned_follows z n1 n2 p (Halts Lost w) go le one' kt at_out no_do at_mid h _ = record { by = tt }
