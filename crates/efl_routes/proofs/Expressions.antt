-- Every expression over scalar variables is lowered right.
use Rattle.std.proofs.Common.{◌≡◌, ℕ, ◌+◌, ◌≤◌, ◌<◌, None, Some, refl, sym, ap, ◌∙◌, subst, arith}
use Rattle.std.specs.Prelude.{pos}
use Rattle.ground.specs.declared.place.Place.{Place}
use Rattle.ground.specs.declared.value.Kind.{Kind}
use Rattle.ground.specs.declared.value.Kind.TheVariants.{Integer, Logical}
use Rattle.ground.specs.Content.{Content, Whole}
use Rattle.f66_tree.specs.declared.expression.Operator.{Operator}
use Rattle.f66_tree.specs.declared.expression.Operator.TheVariants.{Add, Sub}
use Rattle.f66_tree.specs.Syntax as f66
use Rattle.f66_tree.specs.Syntax.{Formula}
use Rattle.f66_tree.specs.World.{World, counted, Out, Gives, bind}
use Rattle.f66_tree.specs.Evaluation.{opposite, denied, same_whole}
use Rattle.efl_program.specs.Typed.{Scalar, Op, Plain, Expr, Int, Truth, At, Call, Known, Group, Plus, Minus, Not, Up, Down, Pair, Assign, Exprs, NoExpr, AndExpr, Variable}
use Rattle.efl_program.specs.Places.{sort_of, kind_of}
use Rattle.efl_program.specs.Setting as efl
use Rattle.efl_program.specs.Values as values
use Rattle.efl_program.specs.Values.{combine, keeping, changes}
use Rattle.routes.specs.Routes.{Routes, AndRoute}
use Rattle.efl_routes.specs.Expressions.{made, kind_by, type_of, formula, routes, sets, combined, FitSides, Scalars, AllScalars}
use Rattle.efl_routes.proofs.Like.{Like}
use Rattle.efl_routes.proofs.Near.{Sides, here, run, Near, Says, same_self, same_on, same_less, near_less, near_counted}
use Rattle.efl_routes.proofs.Steps.{bind_assoc, opposite_of, denied_of, same_whole_of}
use Rattle.efl_routes.proofs.Lowers.{After, Lowers, Right, number_right, fact_right, at_right, grouped_right, unary_right, site_found}
use Rattle.efl_routes.proofs.Combined.{combined_right}
use Rattle.efl_routes.proofs.Changes.{kept_right, changes_right}
use Rattle.efl_routes.proofs.Calls.{scalar_site, ValuesRight, no_values, more_values, known_right}
use Rattle.efl_routes.proofs.Actuals.{ActualsRight, no_actuals, place_actual, more_actuals}
use Rattle.efl_routes.proofs.Procedures.{Agreed, calls_right}

module _ (g : Sides) (c : Agreed g) where
  abbrev S : efl.Setting
  S = g.source

  joined_right : (op : Op) (a b : Expr) → FitSides op (type_of a) (type_of b) → Right g a → Right g b → Right g (Pair op a b)
  joined_right op a b fit ra rb p n fits A P z w w1 K rest near h =
      let la = formula g.home g.temp g.callee a n in
      let lb = formula g.home g.temp g.callee b (n + made a) in
      let t = n + made a + made b in
      let x = f66.Ref (g.temp (kind_by op) t) in
      let right = values.value_of S (here g p) b in
      let go = routes g.home g.temp g.callee p b (n + made a) in
      let more : t + 1 ≡ n + (made a + made b + 1) = omega arith in
      let rest1 = combined p op la go lb x rest in
      subst (λ q. Like P q (run g (routes g.home g.temp g.callee p a n rest1) w1)) (sym (bind_assoc (values.value_of S (here g p) a (counted w)) (λ v u. combine S (here g p) op v right u) K))
      (ra p n (omega (fits, arith)) A P (6 + z) (counted w) w1 (λ v u. bind (combine S (here g p) op v right u) K) rest1 (near_less g (omega arith) (near_counted g near))
      (λ v u u1 f. combined_right g op (type_of a) (type_of b) fit p v f.of la (n + made a) t t right go lb (omega arith) (omega arith) (omega (fits, arith)) (rb p (n + made a) (omega (fits, arith))) A P z u u1 K rest f.near f.says
      (λ d u2 u3 f1. h d u2 u3 (record {
        near = f1.near;
        same = same_on g f.same (same_less g (omega arith) f1.same);
        says = subst (λ m. Says g m x d u3.state.store) more f1.says;
        of = f1.of;
      }))))

  assigned_right : (v : ℕ) (k : Kind) (i : g.M v k) (e : Expr) → Right g e → Right g (Assign None (Variable v (Scalar k) NoExpr) e)
  assigned_right v k i e r p n fits A P z w w1 K rest near h =
      let a = (g.bases v k i).source in
      let ww = counted w in
      let value = values.value_of S (here g p) e in
      let l = formula g.home g.temp g.callee e n in
      let rest1 = AndRoute (sets p (f66.Ref (g.home v)) l) rest in
      let keep : Content → World → Out Content = λ d u. keeping S (here g p) a d u in
      let spent : Near g (1 + z) (counted ww) w1 = near_less g (omega arith) (near_counted g (near_counted g near)) in
      subst (λ q. Like P q (run g (routes g.home g.temp g.callee p e n rest1) w1))
      (sym (ap (λ o. bind o K) (site_found g p v k i ww (λ q u. bind (value u) (λ d u1. keeping S (here g p) q d u1))) ∙ bind_assoc (value (counted ww)) keep K))
      (r p n fits A P (1 + z) (counted ww) w1 (λ d u. bind (keep d u) K) rest1 spent (λ d u u1 f. kept_right g P p v k i d n (n + made e) z (type_of e) l w1.state.store u u1 K rest f h))

  -- the routes and the source of a variable that gets what an operator makes of it and of something else
  abbrev changing : Op → ℕ → Kind → ℕ → ℕ → (Routes → Routes) → Formula → Place → Routes → Routes
  changing op v k n m go e p rest =
      AndRoute (sets p (f66.Ref (g.temp k n)) (f66.Ref (g.home v))) (combined p op (f66.Ref (g.temp k n)) go e (f66.Ref (g.temp (kind_by op) m)) (AndRoute (sets p (f66.Ref (g.home v)) (f66.Ref (g.temp (kind_by op) m))) rest))

  abbrev change : Op → ℕ → Kind → (World → Out Content) → Place → World → Out Content
  change op v k R p w = bind (values.reach S (here g p) (Variable v (Scalar k) NoExpr) (counted w)) (λ r u. bind (values.placed S (here g p) r u) (λ q u1. changes S (here g p) k op q R u1))

  changed_right : (op : Op) (v : ℕ) (k j : Kind) (i : g.M v k) → FitSides op k j → (n m : ℕ) (R : World → Out Content) (go : Routes → Routes) (e : Formula) → n + 1 ≤ m → m < g.room → Lowers g (n + 1) m j R go e → (p : Place) →
      Lowers g n (m + 1) (kind_by op) (change op v k R p) (changing op v k n m go e p) (f66.Ref (g.temp (kind_by op) m))
  changed_right op v k j i fit n m R go e le fits low p A P z w w1 K rest near h =
      let ww = counted w in
      let spent : Near g (8 + z) (counted ww) w1 = near_less g (omega arith) (near_counted g (near_counted g near)) in
      let target = run g (AndRoute (sets p (f66.Ref (g.temp k n)) (f66.Ref (g.home v))) (combined p op (f66.Ref (g.temp k n)) go e (f66.Ref (g.temp (kind_by op) m)) (AndRoute (sets p (f66.Ref (g.home v)) (f66.Ref (g.temp (kind_by op) m))) rest))) w1 in
      subst (λ o. Like P (bind o K) target) (sym (site_found g p v k i ww (λ q u1. changes S (here g p) k op q R u1)))
      (changes_right g op v k j i fit p n m R go e le fits low A P z (counted ww) w1 K rest spent h)

  -- the one that `++` and `--` add and take
  one_right : (n : ℕ) → Lowers g n n Integer (λ w. Gives (Whole (pos 1)) w) (λ r. r) (f66.Int (pos 1))
  one_right n A P z w w1 K rest near h = h (Whole (pos 1)) w w1 (record { near = near; same = same_self g n w1.state.store; says = record { by = λ p u s. refl }; of = refl })

  -- two numbers of temporaries that are the same
  up_to : (n m m1 : ℕ) (k : Kind) (R : World → Out Content) (go : Routes → Routes) (e : Formula) → m ≡ m1 → Lowers g n m k R go e → Lowers g n m1 k R go e
  up_to n m m1 k R go e is low A P z w w1 K rest near h = low A P z w w1 K rest near (λ d u u1 f. h d u u1 (subst (λ j. After g n j z k e w1.state.store d u u1) is f))

  abbrev one_more : World → Out Content
  one_more w = Gives (Whole (pos 1)) w

  abbrev as_is : Routes → Routes
  as_is rest = rest

  changes_one : (op : Operator) (v : ℕ) (k : Kind) → g.M v k → k ≡ Integer → (p : Place) (n : ℕ) → n + 2 ≤ g.room →
      Lowers g n (n + 2) (kind_by (Plain op)) (change (Plain op) v Integer one_more p) (changing (Plain op) v Integer n (n + 1) as_is (f66.Int (pos 1)) p) (f66.Ref (g.temp (kind_by (Plain op)) (n + 1)))
  changes_one op v k i is p n fits =
      let more : n + 1 + 1 ≡ n + 2 = omega arith in
      up_to n (n + 1 + 1) (n + 2) (kind_by (Plain op)) (change (Plain op) v Integer one_more p) (changing (Plain op) v Integer n (n + 1) as_is (f66.Int (pos 1)) p) (f66.Ref (g.temp (kind_by (Plain op)) (n + 1))) more
      (changed_right (Plain op) v Integer Integer (subst (g.M v) is i) tt n (n + 1) one_more as_is (f66.Int (pos 1)) (omega arith) (omega (fits, arith)) (one_right (n + 1)) p)

  with_operator : (op : Op) (v : ℕ) (k : Kind) → g.M v k → (e : Expr) → FitSides op k (type_of e) → Right g e → Right g (Assign (Some op) (Variable v (Scalar k) NoExpr) e)
  with_operator op v k i e fit r p n fits =
      let m = n + 1 + made e in
      let more : m + 1 ≡ n + (1 + made e + 1) = omega arith in
      up_to n (m + 1) (n + (1 + made e + 1)) (kind_by op) (change op v k (values.value_of S (here g p) e) p) (changing op v k n m (routes g.home g.temp g.callee p e (n + 1)) (formula g.home g.temp g.callee e (n + 1)) p) (f66.Ref (g.temp (kind_by op) m)) more (changed_right op v k (type_of e) i fit n m (values.value_of S (here g p) e) (routes g.home g.temp g.callee p e (n + 1)) (formula g.home g.temp g.callee e (n + 1)) (omega arith) (omega (fits, arith)) (r p (n + 1) (omega (fits, arith))) p)

  actual_right : (e : Expr) (es : Exprs) → Scalars g.M c.F e → Right g e → ActualsRight g es → ActualsRight g (AndExpr e es)
  actual_right (At x) es ok r rs = scalar_site g.M (λ y. ActualsRight g (AndExpr (At y) es)) x ok (λ v k i. place_actual g v k i es rs)
  actual_right (Int z) es ok r rs = more_actuals g (Int z) es tt r rs
  actual_right (Truth b) es ok r rs = more_actuals g (Truth b) es tt r rs
  actual_right (Call v k as') es ok r rs = more_actuals g (Call v k as') es tt r rs
  actual_right (Known i as') es ok r rs = more_actuals g (Known i as') es tt r rs
  actual_right (Group a) es ok r rs = more_actuals g (Group a) es tt r rs
  actual_right (Plus a) es ok r rs = more_actuals g (Plus a) es tt r rs
  actual_right (Minus a) es ok r rs = more_actuals g (Minus a) es tt r rs
  actual_right (Not a) es ok r rs = more_actuals g (Not a) es tt r rs
  actual_right (Up x) es ok r rs = more_actuals g (Up x) es tt r rs
  actual_right (Down x) es ok r rs = more_actuals g (Down x) es tt r rs
  actual_right (Pair op a b) es ok r rs = more_actuals g (Pair op a b) es tt r rs
  actual_right (Assign o x a) es ok r rs = more_actuals g (Assign o x a) es tt r rs

  mutual
    pub expression_right : (e : Expr) → Scalars g.M c.F e → Right g e
    expression_right (Int z) ok = number_right g z
    expression_right (Truth b) ok = fact_right g b
    expression_right (At x) ok = scalar_site g.M (λ y. Right g (At y)) x ok (λ v k i. at_right g v k i)
    expression_right (Call v k es) ok = calls_right g c v k es ok.0 (actuals_right es ok.1)
    expression_right (Known i es) ok = known_right g i es (c.intrinsics i) (values_right es ok)
    expression_right (Group a) ok = grouped_right g a (expression_right a ok)
    expression_right (Plus a) ok = unary_right g same_whole Integer f66.Plus same_whole_of (λ p e w. refl) a (expression_right a ok)
    expression_right (Minus a) ok = unary_right g opposite Integer f66.Minus opposite_of (λ p e w. refl) a (expression_right a ok)
    expression_right (Not a) ok = unary_right g denied Logical f66.Not denied_of (λ p e w. refl) a (expression_right a ok)
    expression_right (Up x) ok = scalar_site g.M (λ y. kind_of (sort_of y) ≡ Integer → Right g (Up y)) x ok.0 (λ v k i is. changes_one Add v k i is) ok.1
    expression_right (Down x) ok = scalar_site g.M (λ y. kind_of (sort_of y) ≡ Integer → Right g (Down y)) x ok.0 (λ v k i is. changes_one Sub v k i is) ok.1
    expression_right (Pair op a b) ok = joined_right op a b ok.0 (expression_right a ok.1) (expression_right b ok.2)
    expression_right (Assign None x e) ok = scalar_site g.M (λ y. Right g (Assign None y e)) x ok.0 (λ v k i. assigned_right v k i e (expression_right e ok.1))
    expression_right (Assign (Some op) x e) ok =
        scalar_site g.M (λ y. FitSides op (kind_of (sort_of y)) (type_of e) → Right g (Assign (Some op) y e)) x ok.1 (λ v k i fit. with_operator op v k i e fit (expression_right e ok.2)) ok.0

    pub values_right : (es : Exprs) → AllScalars g.M c.F es → ValuesRight g es
    values_right NoExpr ok = no_values g
    values_right (AndExpr e es) ok = more_values g e es (expression_right e ok.0) (values_right es ok.1)

    pub actuals_right : (es : Exprs) → AllScalars g.M c.F es → ActualsRight g es
    actuals_right NoExpr ok = no_actuals g
    actuals_right (AndExpr e es) ok = actual_right e es ok.0 (expression_right e ok.0) (actuals_right es ok.1)
