-- A whole unit: from what its statements do to what its run gives, and of a main unit, to what that shows.
use Rattle.std.proofs.Common.{◌≡◌, ℕ, zero, suc, ◌+◌, ◌*◌, ◌≤◌, ◌<◌, Bool, true, false, List, [], ◌∷◌, length, Some, None, inl, inr, refl, sym, ap, ◌∙◌, subst, arith}
use Rattle.std.specs.Prelude.{⊤}
use Rattle.ground.specs.declared.place.Place.{Place}
use Rattle.f66_tree.specs.Syntax.{Text, Stop, Return, Line, unlabelled_line}
use Rattle.f66_tree.specs.World.{Store, State, World, Ended, GoesOn, Lost, Out, Gives, Halts, bind, Shown, shown}
use Rattle.f66_tree.specs.Units.{is_main, moved_to}
use Rattle.f66_tree.specs.Statements.{returned}
use Rattle.f66_tree.specs.Execution.{runnable, no_loops, past_end, leads, fetch, exec}
use Rattle.f66_tree.specs.Agreement.{Same}
use Rattle.f66_tree.proofs.Agreement.{Ahead, IsOver, IsLost}
use Rattle.f66_tree.proofs.Comes.{at, Part, none_begun}
use Rattle.rat_tree.specs.Syntax.{Commands}
use Rattle.rat_tree.specs.Meaning.{Went, Jumps, Backs, Leave, Again, Flow, Continuation, landed, run_from, all_meaning, ended}
use Rattle.rat_tree.specs.Uses.{NamesOfCommandsBy}
use Rattle.rat_lower.specs.Code.{have_switch, all_code, end_unless}
use Rattle.rat_lower.specs.Checked.{AreBuilt}
use Rattle.rat_lower.proofs.Simulation.Spared.{Lowering, own_name, near, still_near, spared, Kept, own_rank, code, F, Own}
use Rattle.rat_lower.proofs.Simulation.Tracks.{IsPaid}
use Rattle.rat_lower.proofs.Simulation.Follows.{Extra, keeps_self, Run, Under, Calls, Follows, first}
use Rattle.rat_lower.proofs.Simulation.Counts.{occurs, occurs-all, ends, ends-all, all_heads, all_dos}
use Rattle.rat_lower.proofs.Simulation.Labels.{AreUnique, Within}
use Rattle.rat_lower.proofs.Simulation.Parts.{Src, HoldsValue}
use Rattle.rat_lower.proofs.Simulation.Idle.{all_idle}
use Rattle.rat_lower.proofs.Simulation.Words.{words}
use Rattle.rat_lower.proofs.Simulation.Lists.{landed_follows, all_idle_means}
use Rattle.rat_lower.proofs.Simulation.Switches.{all_right, from_right, active}

-- no loop is in progress
abbrev pub begins : Store → Extra
begins v = record { loops = no_loops; spare = v }

-- A unit's code, whose labels are those of the statements of ss, and which begins with them. A statement that ends the unit
-- stands behind them unless they end so.
pub record IsCode (g : Lowering) (ss : Commands) : Type 0 where
  pub made : ℕ → ℕ
  pub spare : Text
  pub added : Bool
  pub place : Place
  pub built : AreBuilt ss
  pub known : g.K g.unit (own_name g)
  pub used : NamesOfCommandsBy (Own g) ss
  pub may : have_switch ss ≡ true → HoldsValue g spare
  pub once : (l : ℕ) → all_heads made l ss 0 + all_dos made l ss 0 ≤ 1
  pub within : Within (all_code made spare (own_name g) ss 0 [] (end_unless (is_main (g.source.context g.unit).header) added place)) (code g)
  pub runs : runnable (code g) ≡ runnable (all_code made spare (own_name g) ss 0 [] (end_unless (is_main (g.source.context g.unit).header) added place))
  pub occur : (l : ℕ) → occurs l (code g) ≡ occurs l (all_code made spare (own_name g) ss 0 [] (end_unless (is_main (g.source.context g.unit).header) added place))
  pub end : (l : ℕ) → ends l (code g) ≡ ends l (all_code made spare (own_name g) ss 0 [] (end_unless (is_main (g.source.context g.unit).header) added place))

module _ (g : Lowering) (b : ℕ) where
  abbrev main : Bool
  main = is_main (g.source.context g.unit).header

  -- What a unit's run t gives, as its source does, from n of work and the state s on: it has paid for its statements, and for its
  -- RETURN, or has done nothing. The spare units of greater rank keep what they have.
  abbrev pub UnitBy : Store → State → ℕ → ℕ → Part → Out ⊤ → Type 0
  UnitBy v s n x t (Gives a w) = (d : ℕ) × IsPaid n d x s w × (v1 : Store) × Kept g (1 + own_rank g) v v1 × ((i k c : ℕ) → d + k < i → t i (near g v s (d + k) c) ≡ Gives a (near g v1 w.state k (c + d)))
  UnitBy v s n x t (Halts (Ended e) w) = (d : ℕ) × (d + x ≤ 1 + 32 * w.count) × (v1 : Store) × ((i k c : ℕ) → d + k < i → t i (near g v s (d + k) c) ≡ Halts (Ended e) (near g v1 w.state k (c + d)))
  UnitBy v s n x t (Halts GoesOn w) = (d : ℕ) × (d + x ≤ 1 + 32 * w.count) × (b ≤ d) × (v1 : Store) × ((i c : ℕ) → d < i → t i (near g v s d c) ≡ Halts GoesOn (near g v1 w.state 0 (c + d)))
  UnitBy v s n x t (Halts Lost w) = ⊤

  -- the unit's run
  abbrev pub Whole : Part
  Whole n w = exec g.target g.codes n (F g) (record { rest = code g; loops = no_loops }) w

  main_too : is_main (g.target.context g.unit).header ≡ main
  main_too = ap is_main (g.same.header g.unit)

  abbrev cost : Bool → ℕ
  cost true = 0
  cost false = 1

  -- the last statement ends the unit, or there is none left
  last_ends : (m v : Bool) → is_main (g.target.context g.unit).header ≡ m → (p : Place) (pr : Extra) (s : State) (n k c : ℕ) → cost v + k < n → Run g (end_unless m v p) pr n (at s (cost v + k) c) ≡ past_end m (near g pr.spare s k (c + cost v))
  last_ends m v is p pr s zero k c lt = absurd (omega arith)
  last_ends true true is p pr s (suc n) k c lt = ap (λ z. past_end z (near g pr.spare s (0 + k) c)) is ∙ ap (λ w. past_end true w) (still_near g pr.spare s k c)
  last_ends false true is p pr s (suc n) k c lt = ap (λ z. past_end z (near g pr.spare s (0 + k) c)) is ∙ ap (λ w. past_end false w) (still_near g pr.spare s k c)
  last_ends true false is p pr s (suc n) k c lt =
      let e : 1 + k ≡ suc k = omega arith in
      ap (λ z. Run g (unlabelled_line p (Stop None) ∷ []) pr (suc n) (at s z c)) e
  last_ends false false is p pr s (suc n) k c lt =
      let e : 1 + k ≡ suc k = omega arith in
      ap (λ z. Run g (unlabelled_line p Return ∷ []) pr (suc n) (at s z c)) e
      ∙ ap (λ z. bind (returned z (near g pr.spare s k (c + 1))) (λ y w1. leads (Under g n) (moved_to p (F g)) (code g) None [] (exec g.target g.codes n (F g)) pr.loops y w1)) is

  cost_small : (v : Bool) → cost v ≤ 1
  cost_small true = omega arith
  cost_small false = omega arith

  -- the statements have gone through
  went_by : (m v : Bool) → is_main (g.target.context g.unit).header ≡ m → (p : Place) (top : ℕ) (h : Store) (s : State) (n x x1 : ℕ) (w : World) (f : Follows g 1 b top [] (begins h) (Run g (code g) (begins h)) s x1 (end_unless m v p) (Gives Went w)) → IsPaid n (f.by.0 + cost v) x s w → f.by.0 + cost v + x ≤ 1 + 32 * w.count → UnitBy h s n x Whole (past_end m w)
  went_by m v is p top h s n x x1 w f paid few = by_main m refl
    where
      goes : (i k c : ℕ) → f.by.0 + cost v + k < i → Whole i (near g h s (f.by.0 + cost v + k) c) ≡ past_end m (near g f.by.2.spare w.state k (c + (f.by.0 + cost v)))
      goes i k c lt =
          let e : f.by.0 + cost v + k ≡ f.by.0 + (cost v + k) = omega arith in
          let e2 : c + f.by.0 + cost v ≡ c + (f.by.0 + cost v) = omega arith in
          let q = f.by.4.by i (cost v + k) c (omega arith) in
          ap (λ z. Whole i (near g h s z c)) e ∙ q.2 ∙ last_ends m v is p f.by.2 w.state q.0 k (c + f.by.0) q.1 ∙ ap (λ z. past_end m (near g f.by.2.spare w.state k z)) e2

      by_main : (z : Bool) → m ≡ z → UnitBy h s n x Whole (past_end z w)
      by_main true e = (f.by.0 + cost v, few, f.by.2.spare, λ i k c lt. goes i k c lt ∙ ap (λ z. past_end z (near g f.by.2.spare w.state k (c + (f.by.0 + cost v)))) e)
      by_main false e = (f.by.0 + cost v, paid, f.by.2.spare, f.by.3.kept, λ i k c lt. goes i k c lt ∙ ap (λ z. past_end z (near g f.by.2.spare w.state k (c + (f.by.0 + cost v)))) e)

  -- one statement more may have begun before
  ended_follows : (v : Bool) (p : Place) (top : ℕ) (h : Store) (s : State) (n x : ℕ) (o : Flow) → Follows g 1 b top [] (begins h) (Run g (code g) (begins h)) s (1 + x) (end_unless main v p) o → UnitBy h s n x Whole (ended main o)
  ended_follows v p top h s n x (Gives Went w) f = let small = cost_small v in went_by main v main_too p top h s n x (1 + x) w f (inl (omega (arith, f.by.1, small))) (omega (arith, f.by.1, small))
  ended_follows v p top h s n x (Gives Backs w) f = (f.by.0, inl (omega (arith, f.by.1)), f.by.2, f.by.3, f.by.4)
  ended_follows v p top h s n x (Gives (Jumps l) w) f = tt
  ended_follows v p top h s n x (Gives (Leave k) w) f = tt
  ended_follows v p top h s n x (Gives (Again k) w) f = tt
  ended_follows v p top h s n x (Halts (Ended e) w) f = (f.by.0, omega (arith, f.by.1), f.by.2, f.by.3)
  ended_follows v p top h s n x (Halts GoesOn w) f = (f.by.0, omega (arith, f.by.1), f.by.2, f.by.3, f.by.4)
  ended_follows v p top h s n x (Halts Lost w) f = tt

  -- nothing is executed: no statement of the source has counted, and the target has begun one at most
  idle_follows : (v : Bool) (p : Place) (top : ℕ) (h : Store) (w : World) (x : ℕ) → x ≤ 32 * w.count → Follows g 1 b top [] (begins h) (Run g (code g) (begins h)) w.state (32 * w.count) (end_unless main v p) (Gives Went w) → UnitBy h w.state w.count x Whole (ended main (Gives Went w))
  idle_follows v p top h w x le f = let small = cost_small v in went_by main v main_too p top h w.state w.count x (32 * w.count) w f (inr (omega (arith, f.by.1, small), omega arith, refl)) (omega (arith, f.by.1, small, le))

  last_none : (m v : Bool) (q : ℕ) (p : Place) → (occurs q (end_unless m v p) ≡ 0) × (ends q (end_unless m v p) ≡ 0)
  last_none true true q p = (refl, refl)
  last_none true false q p = (refl, refl)
  last_none false true q p = (refl, refl)
  last_none false false q p = (refl, refl)

  module _ (call : Calls g b) (ss : Commands) (is : IsCode g ss) where
    abbrev code1 : List Line
    code1 = all_code is.made is.spare (own_name g) ss 0 [] (end_unless main is.added is.place)

    unique : AreUnique (code g)
    unique l = omega (arith, is.occur l, occurs-all is.made is.spare (own_name g) l ss 0 [] (end_unless main is.added is.place) is.built, (last_none main is.added l is.place).0, is.once l)

    clear : (l : ℕ) → ends l (code g) + all_heads is.made l ss 0 ≤ 1
    clear l = omega (arith, is.end l, ends-all is.made is.spare (own_name g) l ss 0 [] (end_unless main is.added is.place) is.built, (last_none main is.added l is.place).1, is.once l)

    begins_so : (h : Store) (n : ℕ) (w : World) → Run g (code g) (begins h) n w ≡ Run g code1 (begins h) n w
    begins_so h zero w = refl
    begins_so h (suc n) w = ap (λ q. fetch (Under g n) (F g) (code g) q (exec g.target g.codes n (F g)) no_loops (spared g h w)) is.runs

    -- the statements in both, from any of their worlds on
    begins_right : (h : Store) (w : World) (x : ℕ) (o : Flow) → Follows g 1 b (length code1) [] (begins h) (Run g code1 (begins h)) w.state x (end_unless main is.added is.place) o → Follows g 1 b (length code1) [] (begins h) (Run g (code g) (begins h)) w.state x (end_unless main is.added is.place) o
    begins_right h w x o f =
        first g {j1 = 1} {b1 = b} {x1 = x} o (keeps_self g (length code1) (begins h)) (none_begun (Run g (code g) (begins h)) (Run g code1 (begins h)) w.state (λ n k c. begins_so h n (at w.state k c))) (omega arith) (omega arith) (omega arith) f

    abbrev from_start : World → Flow
    from_start w = run_from (Src g b call) (F g) b ss None w

    landing_went : (n : ℕ) (go : ℕ → Continuation) (w : World) → landed n ss go (Gives Went w) ≡ Gives Went w
    landing_went zero go w = refl
    landing_went (suc n) go w = refl

    pub unit_by : (h : Store) (w : World) (x : ℕ) → x ≤ 32 * w.count → UnitBy h w.state w.count x Whole (ended main (all_meaning (Src g b call) (F g) b ss w))
    unit_by h w x le = by (all_idle ss) refl
      where
        from : (words g b call is.made is.spare).FromRight ss
        from = from_right g b call is.made is.spare unique is.known ss is.built is.used is.may

        by : (v : Bool) → all_idle ss ≡ v → UnitBy h w.state w.count x Whole (ended main (all_meaning (Src g b call) (F g) b ss w))
        by true e =
            let nothing = all_idle_means g b call is.made is.spare unique ss e w in
            subst (λ o. UnitBy h w.state w.count x Whole (ended main o)) (sym (ap (landed b ss (λ l. run_from (Src g b call) (F g) b ss (Some l))) nothing ∙ landing_went b (λ l. run_from (Src g b call) (F g) b ss (Some l)) w))
            (idle_follows is.added is.place (length code1) h w x le
            (begins_right h w (32 * w.count) (Gives Went w) (subst (λ o. Follows g 1 b (length code1) [] (begins h) (Run g code1 (begins h)) w.state (32 * w.count) (end_unless main is.added is.place) o) nothing
            (all_right g b call is.made is.spare unique is.known ss is.built is.used is.may 0 [] (end_unless main is.added is.place) is.within clear (length code1) (omega arith) (begins h) w (32 * w.count) (omega arith)))))
        by false e =
            let o = all_meaning (Src g b call) (F g) b ss w in
            ended_follows is.added is.place (length code1) h w.state w.count x o
            (begins_right h w (1 + x) o
            (landed_follows g b call is.made is.spare unique ss 0 [] (end_unless main is.added is.place) is.within clear (length code1) (omega arith) from b (omega arith) (from_start w)
            (active g b call is.made is.spare unique is.known ss e is.built is.used is.may 0 [] (end_unless main is.added is.place) is.within clear (length code1) (omega arith) (begins h) w x le)))

  -- a main unit's run, from a state of the source, shows what its source does
  module _ (s0 : State) (h : Store) where
    abbrev pub Run_shows : ℕ → Shown
    Run_shows n = shown (Whole (suc n) (near g h s0 n 0))

    pub unit_ahead : (o : Out ⊤) → UnitBy h s0 0 0 Whole o → Ahead b (shown o) Run_shows
    unit_ahead (Gives a w) u = record {
      over = λ f e. (u.0, enough u.1, λ k. gives_same k);
      on = λ e. absurd (subst IsOver e tt);
    }
      where
        enough : IsPaid 0 u.0 0 s0 w → u.0 ≤ 32 * (w.count + 1)
        enough (inl q) = omega (arith, q)
        enough (inr q) = omega (arith, q.0)

        gives_same : (k : ℕ) → Same (shown (Gives a w)) (Run_shows (u.0 + k))
        gives_same k = let q = ap shown (u.4 (suc (u.0 + k)) k 0 (omega arith)) in record { records = sym (ap (λ z. z.records) q); end = sym (ap (λ z. z.end) q) }
    unit_ahead (Halts (Ended f1) w) u = record {
      over = λ f e. (u.0, omega (arith, u.1), λ k. let q = ap shown (u.3 (suc (u.0 + k)) k 0 (omega arith)) in record { records = sym (ap (λ z. z.records) q); end = sym (ap (λ z. z.end) q) });
      on = λ e. absurd (subst IsOver e tt);
    }
    unit_ahead (Halts GoesOn w) u = record {
      over = λ f e. absurd (subst IsOver (sym e) tt);
      on = λ e. let q = ap shown (u.4 (suc u.0) 0 (omega arith)) in (u.0, u.2, omega (arith, u.1), ap (λ z. z.end) q, sym (ap (λ z. z.records) q));
    }
    unit_ahead (Halts Lost w) u = record { over = λ f e. absurd (subst IsOver (sym e) tt); on = λ e. absurd (subst IsLost e tt) }
