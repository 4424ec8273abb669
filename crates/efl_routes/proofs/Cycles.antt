-- Loops follow: a loop of the source makes as many turns as its cycle.
use Rattle.std.proofs.Common.{◌≡◌, ℕ, zero, suc, ◌+◌, ◌≤◌, Bool, true, false, List, ◌∷◌, Option, None, Some, refl, sym, subst, arith}
use Rattle.std.specs.Prelude.{⊤}
use Rattle.ground.specs.declared.place.Place.{Place}
use Rattle.f66_tree.specs.Syntax.{Text}
use Rattle.f66_tree.specs.World.{Store, World, counted, Out, Gives, Halts, bind, choose}
use Rattle.f66_tree.specs.Units.{Setting}
use Rattle.efl_tree.specs.declared.statement.LoopKind.{LoopKind}
use Rattle.efl_program.specs.Typed.{Expr, Action}
use Rattle.efl_program.specs.Setting as efl
use Rattle.efl_program.specs.Values as values
use Rattle.efl_program.specs.Meaning as meaning
use Rattle.efl_program.specs.Meaning.{Went as EflWent}
use Rattle.routes.specs.Routes.{Route, Ring, Routes, NoRoute, AndRoute, only}
use Rattle.routes.specs.Running.{Course, Went, Jumps, Backs, Leave, Flow, Continuation, then_do, after_ring, ringed, cycles, stays, running}
use Rattle.efl_routes.specs.Statements.{Around, Behind, Next, ActIfAny, ConditionIfAny, Condition, unless, unless_any, where_so, if_any}
use Rattle.efl_routes.proofs.Like.{Post, Like, like_bind}
use Rattle.efl_routes.proofs.Near.{Sides, Target, here, run, Near, Same, same_on, near_less, near_counted, near_within}
use Rattle.efl_routes.proofs.Combined.{near_spent}
use Rattle.efl_routes.proofs.Procedures.{Agreed}
use Rattle.efl_routes.proofs.Expressions.{expression_right}
use Rattle.efl_routes.proofs.Flows.{Left, turn_left}
use Rattle.efl_routes.proofs.Conditions.{unless_right, where_right, act_right}

module _ (g : Sides) (c : Agreed g) (label : Text → ℕ) (own : Text) (gives : Type 0) where
  abbrev T : Setting
  T = Target g

  abbrev S : efl.Setting
  S = g.source

  -- the first list of a cycle: it goes on, or leaves the cycle
  pub record Opens (rs : List Around) (n z : ℕ) (st : Store) (top : meaning.Continuation → meaning.Continuation → meaning.Continuation) (list : Routes) : Type 0 where
    pub by : (y : ℕ) → z ≤ y → (yea : meaning.Continuation) (more : Continuation) (w w1 : World) → Near g (4 + y) w w1 → Same g n st w1.state.store →
        ((u u1 : World) → Near g y u u1 → Same g n st u1.state.store → Like (Left g label rs n z st) (yea u) (more u1)) → Like (Left g label rs n z st) (top yea meaning.went w) (ringed (run g list w1) more)

  -- what stands behind a turn: it comes back to the head, or leaves the cycle
  pub record Closes (rs : List Around) (n z : ℕ) (st : Store) (bottom : meaning.Continuation → meaning.Continuation → meaning.Continuation) (list : Routes) : Type 0 where
    pub by : (go : meaning.Continuation) (more : Continuation) (w w1 : World) → Near g (14 + z) w w1 → Same g n st w1.state.store →
        ((u u1 : World) → Near g (6 + z) u u1 → Same g n st u1.state.store → Like (Left g label rs n z st) (go u) (more u1)) → Like (Left g label rs n z st) (bottom go meaning.went w) (ringed (run g list w1) more)

  -- an answer as a course
  abbrev pub Asked : ℕ → ℕ → Store → Bool → Post Bool Course
  Asked n y st yes_leaves a u b u1 = (b ≡ choose a (choose yes_leaves (Leave 0) Went) (choose yes_leaves Went (Leave 0))) × Near g y u u1 × Same g n st u1.state.store

  plain_answer : (o : Out Bool) → bind o (λ holds u. choose holds (Gives true u) (Gives false u)) ≡ o
  plain_answer (Gives true u) = refl
  plain_answer (Gives false u) = refl
  plain_answer (Halts e u) = refl

  pub tested_opens : (rs : List Around) (n z : ℕ) (st : Store) (p : Place) (o : Option Expr) → ConditionIfAny g.M c.F c.C g.room gives o n → Opens rs n z st (meaning.tested S g.from p o) (unless_any g.home g.temp g.callee label own p o n NoRoute)
  tested_opens rs n z st p None ok = record { by = λ y le yea more w w1 near same h. h w w1 (near_less g (omega arith) near) same }
  tested_opens rs n z st p (Some e) ok = record {
    by = λ y le yea more w w1 near same h.
        like_bind (values.asks S (here g p) e w) (run g (unless g.home g.temp g.callee label own p e n 0 NoRoute) w1) (λ holds u. choose holds (yea u) (meaning.went u)) (after_ring more)
        (subst (λ q. Like (Asked n y st false) q (run g (unless g.home g.temp g.callee label own p e n 0 NoRoute) w1)) (plain_answer (values.asks S (here g p) e w))
        (unless_right g c label own gives p e n 0 ok.0 (expression_right g c e ok.1.0) ok.1.1 Bool (Asked n y st false) y w w1 (λ u. Gives true u) (λ u. Gives false u) NoRoute (near_less g (omega arith) near)
        (λ u u1 near1 same1. record { by = (Went, u1, refl, (refl, near1, same_on g same same1)) })
        (λ u u1 near1 same1. record { by = (Leave 0, u1, refl, (refl, near1, same_on g same same1)) })))
        (λ a u b u1 f. by_answer y le yea more a u b u1 f h);
  }
    where
      by_answer : (y : ℕ) → z ≤ y → (yea : meaning.Continuation) (more : Continuation) (a : Bool) (u : World) (b : Course) (u1 : World) → Asked n y st false a u b u1 → ((v v1 : World) → Near g y v v1 → Same g n st v1.state.store → Like (Left g label rs n z st) (yea v) (more v1)) →
          Like (Left g label rs n z st) (choose a (yea u) (meaning.went u)) (after_ring more b u1)
      by_answer y le yea more true u b u1 f h = subst (λ d. Like (Left g label rs n z st) (yea u) (after_ring more d u1)) (sym f.0) (h u u1 f.1 f.2)
      by_answer y le yea more false u b u1 f h = subst (λ d. Like (Left g label rs n z st) (meaning.went u) (after_ring more d u1)) (sym f.0) (record { by = (Went, u1, refl, (refl, near_less g le f.1, f.2)) })

  -- the first list of a cycle asks, and leaves where the answer is no
  pub asking_opens : (rs : List Around) (n z : ℕ) (st : Store) (ask : World → Out Bool) (top : meaning.Continuation → meaning.Continuation → meaning.Continuation) (list : Routes) → ((yea : meaning.Continuation) (w : World) → top yea meaning.went w ≡ bind (ask w) (λ holds u. choose holds (yea u) (meaning.went u))) →
      ((y : ℕ) (w w1 : World) → Near g (4 + y) w w1 → Same g n st w1.state.store → Like (Asked n y st false) (ask w) (run g list w1)) → Opens rs n z st top list
  asking_opens rs n z st ask top list is asks = record {
    by = λ y le yea more w w1 near same h.
        subst (λ q. Like (Left g label rs n z st) q (ringed (run g list w1) more)) (sym (is yea w)) (like_bind (ask w) (run g list w1) (λ holds u. choose holds (yea u) (meaning.went u)) (after_ring more) (asks y w w1 near same) (λ a u b u1 f. by_answer y le yea more a u b u1 f h));
  }
    where
      by_answer : (y : ℕ) → z ≤ y → (yea : meaning.Continuation) (more : Continuation) (a : Bool) (u : World) (b : Course) (u1 : World) → Asked n y st false a u b u1 → ((v v1 : World) → Near g y v v1 → Same g n st v1.state.store → Like (Left g label rs n z st) (yea v) (more v1)) →
          Like (Left g label rs n z st) (choose a (yea u) (meaning.went u)) (after_ring more b u1)
      by_answer y le yea more true u b u1 f h = subst (λ d. Like (Left g label rs n z st) (yea u) (after_ring more d u1)) (sym f.0) (h u u1 f.1 f.2)
      by_answer y le yea more false u b u1 f h = subst (λ d. Like (Left g label rs n z st) (meaning.went u) (after_ring more d u1)) (sym f.0) (record { by = (Went, u1, refl, (refl, near_less g le f.1, f.2)) })

  -- what stands behind a turn goes on
  abbrev pub Ends : ℕ → ℕ → Store → Post ⊤ Course
  Ends n z st t u b u1 = (b ≡ Went) × Near g (6 + z) u u1 × Same g n st u1.state.store

  pub going_closes : (rs : List Around) (n z : ℕ) (st : Store) (act : World → Out ⊤) (bottom : meaning.Continuation → meaning.Continuation → meaning.Continuation) (list : Routes) → ((go : meaning.Continuation) (w : World) → bottom go meaning.went w ≡ bind (act w) (λ _ u. go u)) →
      ((w w1 : World) → Near g (14 + z) w w1 → Same g n st w1.state.store → Like (Ends n z st) (act w) (run g list w1)) → Closes rs n z st bottom list
  going_closes rs n z st act bottom list is acts = record {
    by = λ go more w w1 near same h.
        subst (λ q. Like (Left g label rs n z st) q (ringed (run g list w1) more)) (sym (is go w)) (like_bind (act w) (run g list w1) (λ _ u. go u) (after_ring more) (acts w w1 near same)
        (λ _ u b u1 f. subst (λ d. Like (Left g label rs n z st) (go u) (after_ring more d u1)) (sym f.0) (h u u1 f.1 f.2)));
  }

  pub always_closes : (rs : List Around) (n z : ℕ) (st : Store) → Closes rs n z st (meaning.always S g.from) NoRoute
  always_closes rs n z st = record { by = λ go more w w1 near same h. h w w1 (near_less g (omega arith) near) same }

  pub stepped_closes : (rs : List Around) (n z : ℕ) (st : Store) (p : Place) (o : Option Action) → ActIfAny g.M c.F c.C g.room gives o n → Closes rs n z st (meaning.stepped S g.from p o) (if_any g.home g.temp g.callee label own p o n NoRoute)
  stepped_closes rs n z st p None ok = record { by = λ go more w w1 near same h. h w w1 (near_less g (omega arith) near) same }
  stepped_closes rs n z st p (Some a) ok = record {
    by = λ go more w w1 near same h.
        like_bind {P = λ _ u b u1. (b ≡ Went) × Near g (6 + z) u u1 × Same g n st u1.state.store} (meaning.acts S g.from p a w) (run g (if_any g.home g.temp g.callee label own p (Some a) n NoRoute) w1) (λ _ u. go u) (after_ring more)
        (subst (λ q. Like (λ _ u b u1. (b ≡ Went) × Near g (6 + z) u u1 × Same g n st u1.state.store) q (run g (if_any g.home g.temp g.callee label own p (Some a) n NoRoute) w1)) (plain_unit (meaning.acts S g.from p a w))
        (act_right g c label own gives p a n ok ⊤ (λ _ u b u1. (b ≡ Went) × Near g (6 + z) u u1 × Same g n st u1.state.store) (6 + z) w w1 (λ u. Gives tt u) NoRoute (near_less g (omega arith) near)
        (λ u u1 near1 same1. record { by = (Went, u1, refl, (refl, near1, same_on g same same1)) })))
        (λ _ u b u1 f. subst (λ d. Like (Left g label rs n z st) (go u) (after_ring more d u1)) (sym f.0) (h u u1 f.1 f.2));
  }
    where
      plain_unit : (o : Out ⊤) → bind o (λ _ u. Gives tt u) ≡ o
      plain_unit (Gives t u) = refl
      plain_unit (Halts e u) = refl

  pub until_closes : (rs : List Around) (n z : ℕ) (st : Store) (p : Place) (e : Expr) → Condition g.M c.F c.C g.room gives e n → Closes rs n z st (meaning.until S g.from p e) (where_so g.home g.temp g.callee label own p e n 0 NoRoute)
  until_closes rs n z st p e ok = record {
    by = λ go more w w1 near same h.
        like_bind (values.asks S (here g p) e w) (run g (where_so g.home g.temp g.callee label own p e n 0 NoRoute) w1) (λ holds u. choose holds (meaning.went u) (go u)) (after_ring more)
        (subst (λ q. Like (Asked n (6 + z) st true) q (run g (where_so g.home g.temp g.callee label own p e n 0 NoRoute) w1)) (plain_answer (values.asks S (here g p) e w))
        (where_right g c label own gives p e n 0 ok.0 (expression_right g c e ok.1.0) ok.1.1 Bool (Asked n (6 + z) st true) (6 + z) w w1 (λ u. Gives true u) (λ u. Gives false u) NoRoute (near_less g (omega arith) near)
        (λ u u1 near1 same1. record { by = (Leave 0, u1, refl, (refl, near1, same_on g same same1)) })
        (λ u u1 near1 same1. record { by = (Went, u1, refl, (refl, near1, same_on g same same1)) })))
        (λ a u b u1 f. by_answer go more a u b u1 f h);
  }
    where
      by_answer : (go : meaning.Continuation) (more : Continuation) (a : Bool) (u : World) (b : Course) (u1 : World) → Asked n (6 + z) st true a u b u1 → ((v v1 : World) → Near g (6 + z) v v1 → Same g n st v1.state.store → Like (Left g label rs n z st) (go v) (more v1)) →
          Like (Left g label rs n z st) (choose a (meaning.went u) (go u)) (after_ring more b u1)
      by_answer go more true u b u1 f h = subst (λ d. Like (Left g label rs n z st) (meaning.went u) (after_ring more d u1)) (sym f.0) (record { by = (Went, u1, refl, (refl, near_less g (omega arith) f.1, f.2)) })
      by_answer go more false u b u1 f h = subst (λ d. Like (Left g label rs n z st) (go u) (after_ring more d u1)) (sym f.0) (h u u1 f.1 f.2)

  pub then_none : (o : Flow) → then_do o (λ w. run g NoRoute w) ≡ o
  then_none (Gives Went w) = refl
  then_none (Gives (Jumps l) w) = refl
  then_none (Gives Backs w) = refl
  then_none (Gives (Leave k) w) = refl
  then_none (Halts e w) = refl

  -- a loop makes at most m turns
  module _ (rs : List Around) (n z : ℕ) (st : Store) (k : LoopKind) (p : Place) (top : meaning.Continuation → meaning.Continuation → meaning.Continuation) (list : Routes) (body : meaning.Continuation) (r : Route) (bottom : meaning.Continuation → meaning.Continuation → meaning.Continuation) (step : Routes)
      (opens : Opens rs n z st top list) (closes : Closes rs n z st bottom step)
      (runs : (w w1 : World) → Near g (14 + z) w w1 → Same g n st w1.state.store → Like (Left g label (Next k ∷ Behind k ∷ rs) n (14 + z) st) (body w) (running T g.to g.most r w1)) where
    abbrev rest : Routes
    rest = AndRoute (Ring p (only r)) step

    pub cycle_right : (m : ℕ) (w w1 : World) → Near g (6 + z) w w1 → Same g n st w1.state.store → Like (Left g label rs n z st) (meaning.turns k m top body bottom w) (cycles m (λ u. run g list u) (λ u. run g rest u) w1)
    cycle_right zero w w1 near same =
        opens.by z (omega arith) meaning.stays stays w (counted w1) (near_less g (omega arith) (near_spent g {z = 5 + z} (omega arith) near)) same (λ u u1 near1 same1. record { by = (u1, refl, near_within g near1) })
    cycle_right (suc m) w w1 near same =
        opens.by (1 + z) (omega arith) (λ u. meaning.turned k (body (counted u)) (bottom (meaning.turns k m top body bottom) meaning.went)) (λ u1. ringed (run g rest (counted u1)) (cycles m (λ v. run g list v) (λ v. run g rest v))) w (counted w1) (near_spent g (omega arith) near) same
        (λ u u1 near1 same1.
        let next : Near g (33 + z) (counted u) u1 = near_less g (omega arith) (near_counted g near1) in
        let once : Near g (32 + z) (counted u) (counted u1) = near_spent g (omega arith) next in
        let twice : Near g (31 + z) (counted u) (counted (counted u1)) = near_spent g (omega arith) once in
        turn_left g label rs n z (14 + z) st k (body (counted u)) (run g (only r) (counted (counted u1))) (bottom (meaning.turns k m top body bottom) meaning.went) (λ v. run g step v) (cycles m (λ v. run g list v) (λ v. run g rest v))
        (subst (λ q. Like (Left g label (Next k ∷ Behind k ∷ rs) n (14 + z) st) (body (counted u)) q) (sym (then_none (running T g.to g.most r (counted (counted u1))))) (runs (counted u) (counted (counted u1)) (near_less g (omega arith) twice) same1))
        (omega arith) (λ v v1 near2 same2. closes.by (meaning.turns k m top body bottom) (cycles m (λ x. run g list x) (λ x. run g rest x)) v v1 near2 same2 (λ x x1 near3 same3. cycle_right m x x1 near3 same3)))
