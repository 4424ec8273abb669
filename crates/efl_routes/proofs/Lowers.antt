-- What it means that routes lower a part of a source that gives a value: they and then any others do what the part and then what
-- comes of its value do. For constants, variables and unary operators, and for what an operator makes of two sides.
use Rattle.std.proofs.Common.{◌≡◌, ℕ, ◌+◌, ◌≤◌, ◌<◌, if◌then◌else◌, Bool, refl, sym, ap, ◌∙◌, subst, arith}
use Rattle.std.specs.Prelude.{ℤ}
use Rattle.ground.specs.declared.place.Place.{Place}
use Rattle.ground.specs.declared.trap.Trap.TheVariants.{Subscript}
use Rattle.ground.specs.declared.value.Kind.{Kind}
use Rattle.ground.specs.Content.{Content, Whole, Truth}
use Rattle.f66_tree.specs.Syntax as f66
use Rattle.f66_tree.specs.Syntax.{Text, Formula}
use Rattle.f66_tree.specs.World.{Store, World, counted, Out, Gives, bind, Try, Yields, Traps, IfYields, settle}
use Rattle.f66_tree.specs.Units.{kind_of, Spot, Held, Lent, Setting}
use Rattle.f66_tree.specs.Evaluation.{asked, held, load, value_of}
use Rattle.efl_program.specs.Typed.{Scalar, Expr, Int, At, Group, Variable, NoExpr}
use Rattle.efl_program.specs.Typed as typed
use Rattle.efl_program.specs.Setting as efl
use Rattle.efl_program.specs.Values as values
use Rattle.efl_program.specs.Values.{combine, settles, placed}
use Rattle.routes.specs.Routes.{Routes, AndRoute}
use Rattle.routes.specs.Running.{Course}
use Rattle.efl_routes.specs.Expressions.{sets, made, formula, routes, type_of}
use Rattle.efl_routes.specs.LoweredProgram.{SameSpot}
use Rattle.efl_routes.proofs.Like.{Post, Like, like_settle}
use Rattle.efl_routes.proofs.Near.{Sides, Target, there, here, run, Near, Same, Says, same_self, same_on, near_within, near_less, near_counted, near_begun, near_filled, same_filled, same_held}
use Rattle.efl_routes.proofs.Steps.{bind_assoc, Of, yields_of, asked_of, filled, sets_temp, says_temp}

module _ (g : Sides) where
  abbrev T : Setting
  T = Target g

  abbrev S : efl.Setting
  S = g.source

  -- a value of this type was found; the first n temporaries are as they were, and the first m keep the formula's value
  pub record After (n m z : ℕ) (k : Kind) (e : Formula) (st : Store) (v : Content) (w w1 : World) : Type 0 where
    pub near : Near g z w w1
    pub same : Same g n st w1.state.store
    pub says : Says g m e v w1.state.store
    pub of : Of k v

  -- the routes go, and then any others
  abbrev pub Lowers : (n m : ℕ) (k : Kind) (R : World → Out Content) (go : Routes → Routes) (e : Formula) → Type 1
  Lowers n m k R go e =
      (A : Type 0) (P : Post A Course) (z : ℕ) (w w1 : World) (K : Content → World → Out A) (rest : Routes) → Near g z w w1 →
      ((v : Content) (u u1 : World) → After n m z k e w1.state.store v u u1 → Like P (K v u) (run g rest u1)) → Like P (bind (R w) K) (run g (go rest) w1)

  -- what is proved of each expression
  abbrev pub Right : Expr → Type 1
  Right e = (p : Place) (n : ℕ) → n + made e ≤ g.room → Lowers n (n + made e) (type_of e) (values.value_of S (here g p) e) (routes g.home g.temp g.callee p e n) (formula g.home g.temp g.callee e n)

  pub number_right : (z : ℤ) → Right (Int z)
  number_right z p n fits A P y w w1 K rest near k = k (Whole z) (counted w) w1 (record { near = near_less g (omega arith) (near_counted g near); same = same_self g n w1.state.store; says = record { by = λ p1 u s. refl }; of = refl })

  pub fact_right : (b : Bool) → Right (typed.Truth b)
  fact_right b p n fits A P y w w1 K rest near k = k (Truth b) (counted w) w1 (record { near = near_less g (omega arith) (near_counted g near); same = same_self g n w1.state.store; says = record { by = λ p1 u s. refl }; of = refl })

  -- a temporary gets what an operation gives
  pub temp_gets : {A : Type 0} (P : Post A Course) (p : Place) (z n t : ℕ) (k : Kind) (o : Try Content) (e : Formula) (w w1 : World) (st : Store) (K : Content → World → Out A) (rest : Routes) → n ≤ t → t < g.room →
      value_of T (there g p) e (counted w1) ≡ settle p o (counted w1) → IfYields (Of k) o → Near g (1 + z) w w1 → Same g n st w1.state.store →
      ((v : Content) (u u1 : World) → After n (t + 1) z k (f66.Ref (g.temp k t)) st v u u1 → Like P (K v u) (run g rest u1)) → Like P (bind (settle p o w) K) (run g (AndRoute (sets p (f66.Ref (g.temp k t)) e) rest) w1)
  temp_gets P p z n t k o e w w1 st K rest le fits is of near same h =
      subst (λ q. Like P (bind (settle p o w) K) q) (sym (sets_temp g p k t fits e rest w1 ∙ ap (λ q. bind q (λ v u. run g rest (filled g k t v u))) is))
      (like_settle p o w (counted w1) K (λ v u. run g rest (filled g k t v u)) (near_within g (near_begun g near)) (λ v is1.
      h v w (filled g k t v (counted w1)) (record {
        near = near_filled g k t v fits (near_begun g near);
        same = same_on g same (same_filled g n k t v w1.state.store le fits);
        says = says_temp g (t + 1) k t v w1.state.store (omega arith) fits (yields_of (Of k) o v is1 of);
        of = yields_of (Of k) o v is1 of;
      })))

  -- a place that is there is its own first one
  pub moved_here : (a : efl.Spot) (b : Spot) → SameSpot g.cell g.Real S.linked g.linked a b → efl.moved S.linked a 0 ≡ Yields a
  moved_here (efl.Held v k) (Held u x o) s = let e : k + 0 ≡ k = omega arith in ap (λ t. if t then Yields (efl.Held v (k + 0)) else Traps Subscript) s.1 ∙ ap (λ i. Yields (efl.Held v i)) e
  moved_here (efl.Lent c) b s = refl
  moved_here (efl.Held v k) (Lent d) s = absurd s

  -- the place of a scalar variable is found, and what it holds
  pub site_found : {A : Type 0} (p : Place) (v : ℕ) (k : Kind) (m : g.M v k) (w : World) (go : efl.Spot → World → Out A) →
      bind (values.reach S (here g p) (Variable v (Scalar k) NoExpr) w) (λ r w1. bind (placed S (here g p) r w1) go) ≡ go (g.bases v k m).source (counted w)
  site_found p v k m w go =
      let a = g.bases v k m in
      ap (λ o. bind (bind (settle p o (counted w)) (λ q w2. Gives (record { from = q; on = 0 }) w2)) (λ r w1. bind (placed S (here g p) r w1) go)) a.is
      ∙ ap (λ o. bind (settle p o (counted w)) go) (moved_here a.source a.target a.same)

  -- the formula of a variable has what the variable holds
  pub variable_value : {z : ℕ} {w : World} (p : Place) (v : ℕ) (k : Kind) (m : g.M v k) (w1 : World) → Near g z w w1 →
      value_of T (there g p) (f66.Ref (g.home v)) w1 ≡ settle p (asked k (efl.held S.linked (g.bases v k m).source w.state.store)) w1
  variable_value {w = w} p v k m w1 near =
      let a = g.bases v k m in
      ap (λ o. bind (settle p o w1) (λ q w2. load T (there g p) (kind_of (g.linked.context g.to.unit) (g.home v)) q w2)) a.is1
      ∙ ap (λ j. settle p (asked j (held g.linked a.target w1.state.store)) w1) (g.home_kind v k m)
      ∙ ap (λ c. settle p (asked k c) w1) (same_held g a.source a.target a.same near)

  pub at_right : (v : ℕ) (k : Kind) → g.M v k → Right (At (Variable v (Scalar k) NoExpr))
  at_right v k m p n fits A P z w w1 K rest near h =
      let c = efl.held S.linked (g.bases v k m).source w.state.store in
      let spent : Near g (1 + z) (counted w) w1 = near_less g (omega arith) (near_counted g near) in
      subst (λ o. Like P (bind o K) (run g (AndRoute (sets p (f66.Ref (g.temp k n)) (f66.Ref (g.home v))) rest) w1)) (sym (site_found p v k m w (λ q w2. efl.load S (here g p) k q w2)))
      (temp_gets P p z n n k (asked k c) (f66.Ref (g.home v)) (counted w) w1 w1.state.store K rest (omega arith) (omega (fits, arith)) (variable_value p v k m (counted w1) (near_begun g spent)) (asked_of k c) spent (same_self g n w1.state.store) h)

  -- an operation on one value
  pub unary_right : (o : Content → Try Content) (k : Kind) (wrap : Formula → Formula) → ((v : Content) → IfYields (Of k) (o v)) →
      ((p : Place) (e : Formula) (w : World) → value_of T (there g p) (wrap e) w ≡ bind (value_of T (there g p) e w) (λ v w1. settle p (o v) w1)) → (a : Expr) → Right a → (p : Place) (n : ℕ) → n + (made a + 1) ≤ g.room →
      Lowers n (n + (made a + 1)) k (λ w. bind (values.value_of S (here g p) a (counted w)) (λ v w1. settle p (o v) w1))
      (λ rest. routes g.home g.temp g.callee p a n (AndRoute (sets p (f66.Ref (g.temp k (n + made a))) (wrap (formula g.home g.temp g.callee a n))) rest)) (f66.Ref (g.temp k (n + made a)))
  unary_right o k wrap of law a r p n fits A P z w w1 K rest near h =
      let t = n + made a in
      let e = formula g.home g.temp g.callee a n in
      let target = run g (routes g.home g.temp g.callee p a n (AndRoute (sets p (f66.Ref (g.temp k t)) (wrap e)) rest)) w1 in
      let more : t + 1 ≡ n + (made a + 1) = omega arith in
      subst (λ q. Like P q target) (sym (bind_assoc (values.value_of S (here g p) a (counted w)) (λ v u. settle p (o v) u) K))
      (r p n (omega (fits, arith)) A P (1 + z) (counted w) w1 (λ v u. bind (settle p (o v) u) K) (AndRoute (sets p (f66.Ref (g.temp k t)) (wrap e)) rest) (near_less g (omega arith) (near_counted g near))
      (λ v u u1 f.
      temp_gets P p z n t k (o v) (wrap e) u u1 w1.state.store K rest (omega arith) (omega (fits, arith)) (law p e (counted u1) ∙ ap (λ q. bind q (λ v1 u2. settle p (o v1) u2)) (f.says.by p (counted u1) (same_self g t u1.state.store))) (of v) f.near f.same
      (λ v1 u2 u3 f1. h v1 u2 u3 (subst (λ m. After n m z k (f66.Ref (g.temp k t)) w1.state.store v1 u2 u3) more f1))))

  pub grouped_right : (a : Expr) → Right a → Right (Group a)
  grouped_right a r p n fits A P z w w1 K rest near h = r p n fits A P z (counted w) w1 K rest (near_less g (omega arith) (near_counted g near)) h
