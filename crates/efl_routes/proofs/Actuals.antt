-- Actuals are lowered right: places are associated on both sides, and any others are values.
use Rattle.std.proofs.Common.{◌≡◌, ℕ, ◌+◌, ◌≤◌, List, [], ◌∷◌, refl, sym, ap, ◌∙◌, subst, arith}
use Rattle.std.specs.Prelude.{⊤}
use Rattle.ground.specs.declared.place.Place.{Place}
use Rattle.ground.specs.declared.value.Kind.{Kind}
use Rattle.ground.specs.Content.{Content}
use Rattle.f66_tree.specs.Syntax as f66
use Rattle.f66_tree.specs.Syntax.{Formula, Formulas, NoFormula, AndFormula}
use Rattle.f66_tree.specs.World.{Store, World, counted, Out, Gives, bind, settle}
use Rattle.f66_tree.specs.Units.{Spot, Lent, Setting}
use Rattle.f66_tree.specs.Evaluation.{spots_of}
use Rattle.efl_program.specs.Typed.{Scalar, Expr, Int, Truth, At, Call, Known, Group, Plus, Minus, Not, Up, Down, Pair, Assign, Exprs, NoExpr, AndExpr, Variable}
use Rattle.efl_program.specs.Setting as efl
use Rattle.efl_program.specs.Values as values
use Rattle.routes.specs.Routes.{Routes}
use Rattle.routes.specs.Running.{Course}
use Rattle.efl_routes.specs.Expressions.{count, made, made_for, formula, actuals, routes, actual_routes}
use Rattle.efl_routes.specs.LoweredProgram.{AllSame, SameSpot, size}
use Rattle.efl_routes.proofs.Like.{Post, Like}
use Rattle.efl_routes.proofs.Near.{Sides, Target, there, here, run, Near, Same, same_self, same_on, same_less, says_still, near_less, near_counted}
use Rattle.efl_routes.proofs.Steps.{bind_assoc}
use Rattle.efl_routes.proofs.Lowers.{Right, site_found}

abbrev pub count_of : Formulas → ℕ
count_of NoFormula = 0
count_of (AndFormula e es) = 1 + count_of es

module _ (g : Sides) where
  abbrev T : Setting
  T = Target g

  abbrev S : efl.Setting
  S = g.source

  abbrev pub One : efl.Spot → Spot → Type 0
  One a b = SameSpot g.cell g.Real S.linked g.linked a b

  -- spots were found, one for each formula
  pub record AfterActuals (n m z : ℕ) (es : Formulas) (st : Store) (ps : List efl.Spot) (w w1 : World) : Type 0 where
    pub near : Near g z w w1
    pub same : Same g n st w1.state.store
    pub spots : List Spot
    pub alike : AllSame One ps spots
    pub many : size ps ≡ count_of es
    pub says : (p : Place) (u : World) → Same g m w1.state.store u.state.store → spots_of T (there g p) es u ≡ Gives spots u

  abbrev Fs : Exprs → ℕ → Formulas
  Fs es n = actuals g.home g.temp g.callee es n

  abbrev Go : Place → Exprs → ℕ → Routes → Routes
  Go p es n rest = actual_routes g.home g.temp g.callee p es n rest

  abbrev pub ActualsRight : Exprs → Type 1
  ActualsRight es =
      (p : Place) (n : ℕ) → n + made_for es ≤ g.room → (A : Type 0) (P : Post A Course) (z : ℕ) (w w1 : World) (K : List efl.Spot → World → Out A) (rest : Routes) → Near g z w w1 →
      ((ps : List efl.Spot) (u u1 : World) → AfterActuals n (n + made_for es) z (Fs es n) w1.state.store ps u u1 → Like P (K ps u) (run g rest u1)) → Like P (bind (values.spots_of S (here g p) es w) K) (run g (Go p es n rest) w1)

  -- one formula for each actual
  pub counted_actuals : (es : Exprs) (n : ℕ) → count_of (Fs es n) ≡ count es
  counted_actuals NoExpr n = refl
  counted_actuals (AndExpr (At x) es) n = ap (λ i. 1 + i) (counted_actuals es n)
  counted_actuals (AndExpr (Int z) es) n = ap (λ i. 1 + i) (counted_actuals es (n + made (Int z)))
  counted_actuals (AndExpr (Truth b) es) n = ap (λ i. 1 + i) (counted_actuals es (n + made (Truth b)))
  counted_actuals (AndExpr (Call v k as') es) n = ap (λ i. 1 + i) (counted_actuals es (n + made (Call v k as')))
  counted_actuals (AndExpr (Known i as') es) n = ap (λ i. 1 + i) (counted_actuals es (n + made (Known i as')))
  counted_actuals (AndExpr (Group a) es) n = ap (λ i. 1 + i) (counted_actuals es (n + made (Group a)))
  counted_actuals (AndExpr (Plus a) es) n = ap (λ i. 1 + i) (counted_actuals es (n + made (Plus a)))
  counted_actuals (AndExpr (Minus a) es) n = ap (λ i. 1 + i) (counted_actuals es (n + made (Minus a)))
  counted_actuals (AndExpr (Not a) es) n = ap (λ i. 1 + i) (counted_actuals es (n + made (Not a)))
  counted_actuals (AndExpr (Up x) es) n = ap (λ i. 1 + i) (counted_actuals es (n + made (Up x)))
  counted_actuals (AndExpr (Down x) es) n = ap (λ i. 1 + i) (counted_actuals es (n + made (Down x)))
  counted_actuals (AndExpr (Pair op a b) es) n = ap (λ i. 1 + i) (counted_actuals es (n + made (Pair op a b)))
  counted_actuals (AndExpr (Assign op x a) es) n = ap (λ i. 1 + i) (counted_actuals es (n + made (Assign op x a)))

  pub no_actuals : ActualsRight NoExpr
  no_actuals p n fits A P z w w1 K rest near h = h [] w w1 (record { near = near; same = same_self g n w1.state.store; spots = []; alike = tt; many = refl; says = λ p1 u s. refl })

  pub place_actual : (v : ℕ) (k : Kind) → g.M v k → (es : Exprs) → ActualsRight es → ActualsRight (AndExpr (At (Variable v (Scalar k) NoExpr)) es)
  place_actual v k i es rs p n fits A P z w w1 K rest near h =
      let a = g.bases v k i in
      let x = Variable v (Scalar k) NoExpr in
      let later : efl.Spot → World → Out (List efl.Spot) = λ q u. bind (values.spots_of S (here g p) es u) (λ ps u1. Gives (q ∷ ps) u1) in
      let ww = counted w in
      let where_is = bind (values.reach S (here g p) x ww) (λ r u. values.placed S (here g p) r u) in
      let source : bind (bind where_is later) K ≡ bind (values.spots_of S (here g p) es (counted ww)) (λ ps u. K (a.source ∷ ps) u) =
      bind_assoc where_is later K
      ∙ bind_assoc (values.reach S (here g p) x ww) (λ r u. values.placed S (here g p) r u) (λ q u. bind (later q u) K)
      ∙ site_found g p v k i ww (λ q u. bind (later q u) K)
      ∙ bind_assoc (values.spots_of S (here g p) es (counted ww)) (λ ps u1. Gives (a.source ∷ ps) u1) K in
      let spent : Near g z (counted ww) w1 = near_less g (omega arith) (near_counted g (near_counted g near)) in
      subst (λ q. Like P q (run g (Go p es n rest) w1)) (sym source)
      (rs p n fits A P z (counted ww) w1 (λ ps u. K (a.source ∷ ps) u) rest spent
      (λ ps u u1 f. h (a.source ∷ ps) u u1 (record {
        near = f.near;
        same = f.same;
        spots = a.target ∷ f.spots;
        alike = (a.same, f.alike);
        many = ap (λ i. 1 + i) f.many;
        says = λ p1 u2 s.
            ap (λ o. bind (settle p1 o u2) (λ q u3. bind (spots_of T (there g p1) (Fs es n) u3) (λ qs u4. Gives (q ∷ qs) u4))) a.is1
            ∙ ap (λ o. bind o (λ qs u4. Gives (a.target ∷ qs) u4)) (f.says p1 u2 s);
      })))

  value_actual : (e : Expr) (es : Exprs) → Right g e → ActualsRight es → (p : Place) (n : ℕ) → n + (made e + made_for es) ≤ g.room → (A : Type 0) (P : Post A Course) (z : ℕ) (w w1 : World) (K : List efl.Spot → World → Out A) (rest : Routes) → Near g z w w1 →
      ((ps : List efl.Spot) (u u1 : World) → AfterActuals n (n + (made e + made_for es)) z (AndFormula (f66.Group (formula g.home g.temp g.callee e n)) (Fs es (n + made e))) w1.state.store ps u u1 → Like P (K ps u) (run g rest u1)) →
      Like P (bind (bind (bind (values.value_of S (here g p) e (counted w)) (λ v u. Gives (efl.Lent v) u)) (λ q u. bind (values.spots_of S (here g p) es u) (λ ps u1. Gives (q ∷ ps) u1))) K)
      (run g (routes g.home g.temp g.callee p e n (Go p es (n + made e) rest)) w1)
  value_actual e es r rs p n fits A P z w w1 K rest near h =
      let later : efl.Spot → World → Out (List efl.Spot) = λ q u. bind (values.spots_of S (here g p) es u) (λ ps u1. Gives (q ∷ ps) u1) in
      let lent : Content → World → Out efl.Spot = λ v u. Gives (efl.Lent v) u in
      let value = values.value_of S (here g p) e (counted w) in
      let source : bind (bind (bind value lent) later) K ≡ bind value (λ v u. bind (later (efl.Lent v) u) K) = bind_assoc (bind value lent) later K ∙ bind_assoc value lent (λ q u. bind (later q u) K) in
      let end : n + made e + made_for es ≡ n + (made e + made_for es) = omega arith in
      subst (λ q. Like P q (run g (routes g.home g.temp g.callee p e n (Go p es (n + made e) rest)) w1)) (sym source)
      (r p n (omega (fits, arith)) A P z (counted w) w1 (λ v u. bind (later (efl.Lent v) u) K) (Go p es (n + made e) rest) (near_less g (omega arith) (near_counted g near))
      (λ v u u1 f.
      subst (λ q. Like P q (run g (Go p es (n + made e) rest) u1)) (sym (bind_assoc (values.spots_of S (here g p) es u) (λ ps u2. Gives (efl.Lent v ∷ ps) u2) K))
      (rs p (n + made e) (omega (fits, arith)) A P z u u1 (λ ps u2. K (efl.Lent v ∷ ps) u2) rest f.near
      (λ ps u2 u3 f1. h (efl.Lent v ∷ ps) u2 u3 (record {
        near = f1.near;
        same = same_on g f.same (same_less g (omega arith) f1.same);
        spots = Lent v ∷ f1.spots;
        alike = (refl, f1.alike);
        many = ap (λ i. 1 + i) f1.many;
        says = λ p1 u4 s.
            let le : n + made e ≤ n + made e = omega arith in
            let first = (says_still g le f1.same f.says).by p1 u4 (same_less g (omega arith) s) in
            ap (λ q. bind (bind q (λ c u5. Gives (Lent c) u5)) (λ c u5. bind (spots_of T (there g p1) (Fs es (n + made e)) u5) (λ cs u6. Gives (c ∷ cs) u6))) first
            ∙ ap (λ q. bind q (λ cs u6. Gives (Lent v ∷ cs) u6)) (f1.says p1 u4 (subst (λ m. Same g m u3.state.store u4.state.store) (sym end) s));
      })))))

  -- an actual that is no place
  abbrev IsValue : Expr → Type 0
  IsValue (At x) = ⊥
  IsValue e = ⊤

  pub more_actuals : (e : Expr) (es : Exprs) → IsValue e → Right g e → ActualsRight es → ActualsRight (AndExpr e es)
  more_actuals (At x) es is r rs = absurd is
  more_actuals (Int z) es is r rs = value_actual (Int z) es r rs
  more_actuals (Truth b) es is r rs = value_actual (Truth b) es r rs
  more_actuals (Call v k as') es is r rs = value_actual (Call v k as') es r rs
  more_actuals (Known i as') es is r rs = value_actual (Known i as') es r rs
  more_actuals (Group a) es is r rs = value_actual (Group a) es r rs
  more_actuals (Plus a) es is r rs = value_actual (Plus a) es r rs
  more_actuals (Minus a) es is r rs = value_actual (Minus a) es r rs
  more_actuals (Not a) es is r rs = value_actual (Not a) es r rs
  more_actuals (Up x) es is r rs = value_actual (Up x) es r rs
  more_actuals (Down x) es is r rs = value_actual (Down x) es r rs
  more_actuals (Pair op a b) es is r rs = value_actual (Pair op a b) es r rs
  more_actuals (Assign op x a) es is r rs = value_actual (Assign op x a) es r rs
