-- Conditions and acts are lowered right.
use Rattle.std.proofs.Common.{◌≡◌, ℕ, ◌+◌, ◌≤◌, Bool, true, false, List, refl, sym, ap, ◌∙◌, subst, arith}
use Rattle.std.specs.Prelude.{⊤, not}
use Rattle.ground.specs.declared.place.Place.{Place}
use Rattle.ground.specs.declared.value.Kind.TheVariants.{Logical}
use Rattle.ground.specs.Content.{Content, Truth}
use Rattle.f66_tree.specs.Syntax as f66
use Rattle.f66_tree.specs.Syntax.{Text, Formula, Formulas}
use Rattle.f66_tree.specs.World.{Store, World, counted, Out, Gives, Halts, bind, settle, choose}
use Rattle.f66_tree.specs.Units.{Spot, Setting}
use Rattle.f66_tree.specs.Evaluation.{denied, truth_in, asks, spots_of}
use Rattle.f66_tree.specs.Statements.{Normal, invoked}
use Rattle.efl_program.specs.Typed.{Expr, Action, Evaluate, Invoke}
use Rattle.efl_program.specs.Setting as efl
use Rattle.efl_program.specs.Values as values
use Rattle.efl_program.specs.Meaning as meaning
use Rattle.routes.specs.Routes.{Plain, BreakIf, Routes, AndRoute}
use Rattle.routes.specs.Running.{Course, Went, Leave, then_do, course_of}
use Rattle.efl_routes.specs.Expressions.{count, made, made_for, type_of, formula, actuals, routes, actual_routes}
use Rattle.efl_routes.specs.Statements.{FitAct, act_routes}
use Rattle.efl_routes.proofs.Like.{Post, Like, like_bind}
use Rattle.efl_routes.proofs.Near.{Sides, Target, there, here, run, Near, Same, same_self, same_on, near_less, near_counted}
use Rattle.efl_routes.proofs.Steps.{bind_assoc, Of}
use Rattle.efl_routes.proofs.Lowers.{After, Right}
use Rattle.efl_routes.proofs.Combined.{near_spent, truth_given}
use Rattle.efl_routes.proofs.Actuals.{counted_actuals}
use Rattle.efl_routes.proofs.Procedures.{Agreed}
use Rattle.efl_routes.proofs.Expressions.{expression_right, actuals_right}

module _ (g : Sides) (c : Agreed g) (label : Text → ℕ) (own : Text) (gives : Type 0) where
  abbrev T : Setting
  T = Target g

  abbrev S : efl.Setting
  S = g.source

  pub quits_step : (p : Place) (q : Formula) (k : ℕ) (rest : Routes) (w : World) (a : Bool) → asks T (there g p) q (counted w) ≡ Gives a (counted w) → run g (AndRoute (BreakIf p q k) rest) w ≡ choose a (Gives (Leave k) (counted (counted w))) (run g rest (counted w))
  quits_step p q k rest w a is = ap (λ o. then_do (bind o (λ holds u. choose holds (Gives (Leave k) (counted u)) (Gives Went u))) (λ u. run g rest u)) is ∙ by_answer a
    where
      by_answer : (b : Bool) → then_do (choose b (Gives (Leave k) (counted (counted w))) (Gives Went (counted w))) (λ u. run g rest u) ≡ choose b (Gives (Leave k) (counted (counted w))) (run g rest (counted w))
      by_answer true = refl
      by_answer false = refl

  abbrev answers : {A : Type 0} → (World → Out A) → (World → Out A) → Bool → World → Out A
  answers yea nay holds u = choose holds (yea u) (nay u)

  -- the truth of a condition
  pub truth_right : (p : Place) (e : Expr) (n : ℕ) → type_of e ≡ Logical → Right g e → n + made e ≤ g.room → (A : Type 0) (P : Post A Course) (z : ℕ) (w w1 : World) (J : Bool → World → Out A) (rest : Routes) → Near g z w w1 →
      ((t : Bool) (u u1 : World) → After g n (n + made e) z Logical (formula g.home g.temp g.callee e n) w1.state.store (Truth t) u u1 → Like P (J t u) (run g rest u1)) →
      Like P (bind (values.asks S (here g p) e w) J) (run g (routes g.home g.temp g.callee p e n rest) w1)
  truth_right p e n is r fits A P z w w1 J rest near h =
      subst (λ q. Like P q (run g (routes g.home g.temp g.callee p e n rest) w1)) (sym (bind_assoc (values.value_of S (here g p) e w) (λ v u. settle p (truth_in v) u) J))
      (r p n fits A P z w w1 (λ v u. bind (settle p (truth_in v) u) J) rest near (λ v u u1 f.
      let f1 = subst (λ i. After g n (n + made e) z i (formula g.home g.temp g.callee e n) w1.state.store v u u1) is f in
      truth_given (λ d. After g n (n + made e) z Logical (formula g.home g.temp g.callee e n) w1.state.store d u u1 → Like P (bind (settle p (truth_in d) u) J) (run g rest u1)) v f1.of (λ t f2. h t u u1 f2) f1))

  -- what a ring asks that is left where a condition does not hold
  pub denied_step : (p : Place) (e : Formula) (n m z : ℕ) (st : Store) (k : ℕ) (rest : Routes) (t : Bool) (w w1 w2 : World) → After g n m z Logical e st (Truth t) w w1 → w2.state.store ≡ w1.state.store →
      run g (AndRoute (BreakIf p (f66.Not e) k) rest) w2 ≡ choose (not t) (Gives (Leave k) (counted (counted w2))) (run g rest (counted w2))
  denied_step p e n m z st k rest t w w1 w2 f is =
      quits_step p (f66.Not e) k rest w2 (not t) (ap (λ o. bind (bind o (λ d u2. settle p (denied d) u2)) (λ d u2. settle p (truth_in d) u2)) (f.says.by p (counted w2) (subst (λ s. Same g m w1.state.store s) (sym is) (same_self g m w1.state.store))))

  -- a ring is left where a condition does not hold
  pub unless_right : (p : Place) (e : Expr) (n k : ℕ) → type_of e ≡ Logical → Right g e → n + made e ≤ g.room → (A : Type 0) (P : Post A Course) (z : ℕ) (w w1 : World) (yea nay : World → Out A) (rest : Routes) → Near g (2 + z) w w1 →
      ((u u1 : World) → Near g z u u1 → Same g n w1.state.store u1.state.store → Like P (yea u) (run g rest u1)) → ((u u1 : World) → Near g z u u1 → Same g n w1.state.store u1.state.store → Like P (nay u) (Gives (Leave k) u1)) →
      Like P (bind (values.asks S (here g p) e w) (answers yea nay)) (run g (routes g.home g.temp g.callee p e n (AndRoute (BreakIf p (f66.Not (formula g.home g.temp g.callee e n)) k) rest)) w1)
  unless_right p e n k is r fits A P z w w1 yea nay rest near hy hn =
      let l = formula g.home g.temp g.callee e n in
      let more = AndRoute (BreakIf p (f66.Not l) k) rest in
      subst (λ q. Like P q (run g (routes g.home g.temp g.callee p e n more) w1)) (sym (bind_assoc (values.value_of S (here g p) e w) (λ v u. settle p (truth_in v) u) (answers yea nay)))
      (r p n fits A P (2 + z) w w1 (λ v u. bind (settle p (truth_in v) u) (answers yea nay)) more near found)
    where
      found : (v : Content) (u u1 : World) → After g n (n + made e) (2 + z) (type_of e) (formula g.home g.temp g.callee e n) w1.state.store v u u1 → Like P (bind (settle p (truth_in v) u) (answers yea nay)) (run g (AndRoute (BreakIf p (f66.Not (formula g.home g.temp g.callee e n)) k) rest) u1)
      found v u u1 f =
          truth_given (λ d. Gives d (counted u1) ≡ Gives v (counted u1) → Like P (bind (settle p (truth_in d) u) (answers yea nay)) (run g (AndRoute (BreakIf p (f66.Not (formula g.home g.temp g.callee e n)) k) rest) u1)) v (subst (λ i. Of i v) is f.of) by_truth refl
        where
          by_truth : (t : Bool) → Gives (Truth t) (counted u1) ≡ Gives v (counted u1) → Like P (choose t (yea u) (nay u)) (run g (AndRoute (BreakIf p (f66.Not (formula g.home g.temp g.callee e n)) k) rest) u1)
          by_truth t e1 =
              subst (λ q. Like P (choose t (yea u) (nay u)) q)
              (sym (quits_step p (f66.Not (formula g.home g.temp g.callee e n)) k rest u1 (not t) (ap (λ o. bind (bind o (λ d u2. settle p (denied d) u2)) (λ d u2. settle p (truth_in d) u2)) (f.says.by p (counted u1) (same_self g (n + made e) u1.state.store) ∙ sym e1))))
              (by_answer t)
            where
              once : Near g (1 + z) u (counted u1)
              once = near_spent g (omega arith) f.near

              by_answer : (a : Bool) → Like P (choose a (yea u) (nay u)) (choose (not a) (Gives (Leave k) (counted (counted u1))) (run g rest (counted u1)))
              by_answer true = hy u (counted u1) (near_less g (omega arith) once) f.same
              by_answer false = hn u (counted (counted u1)) (near_spent g (omega arith) once) f.same

  -- a ring is left where a condition holds
  pub where_right : (p : Place) (e : Expr) (n k : ℕ) → type_of e ≡ Logical → Right g e → n + made e ≤ g.room → (A : Type 0) (P : Post A Course) (z : ℕ) (w w1 : World) (yea nay : World → Out A) (rest : Routes) → Near g (2 + z) w w1 →
      ((u u1 : World) → Near g z u u1 → Same g n w1.state.store u1.state.store → Like P (yea u) (Gives (Leave k) u1)) → ((u u1 : World) → Near g z u u1 → Same g n w1.state.store u1.state.store → Like P (nay u) (run g rest u1)) →
      Like P (bind (values.asks S (here g p) e w) (answers yea nay)) (run g (routes g.home g.temp g.callee p e n (AndRoute (BreakIf p (formula g.home g.temp g.callee e n) k) rest)) w1)
  where_right p e n k is r fits A P z w w1 yea nay rest near hy hn =
      let l = formula g.home g.temp g.callee e n in
      let more = AndRoute (BreakIf p l k) rest in
      subst (λ q. Like P q (run g (routes g.home g.temp g.callee p e n more) w1)) (sym (bind_assoc (values.value_of S (here g p) e w) (λ v u. settle p (truth_in v) u) (answers yea nay)))
      (r p n fits A P (2 + z) w w1 (λ v u. bind (settle p (truth_in v) u) (answers yea nay)) more near found)
    where
      found : (v : Content) (u u1 : World) → After g n (n + made e) (2 + z) (type_of e) (formula g.home g.temp g.callee e n) w1.state.store v u u1 → Like P (bind (settle p (truth_in v) u) (answers yea nay)) (run g (AndRoute (BreakIf p (formula g.home g.temp g.callee e n) k) rest) u1)
      found v u u1 f =
          truth_given (λ d. Gives d (counted u1) ≡ Gives v (counted u1) → Like P (bind (settle p (truth_in d) u) (answers yea nay)) (run g (AndRoute (BreakIf p (formula g.home g.temp g.callee e n) k) rest) u1)) v (subst (λ i. Of i v) is f.of) by_truth refl
        where
          by_truth : (t : Bool) → Gives (Truth t) (counted u1) ≡ Gives v (counted u1) → Like P (choose t (yea u) (nay u)) (run g (AndRoute (BreakIf p (formula g.home g.temp g.callee e n) k) rest) u1)
          by_truth t e1 =
              subst (λ q. Like P (choose t (yea u) (nay u)) q)
              (sym (quits_step p (formula g.home g.temp g.callee e n) k rest u1 t (ap (λ o. bind o (λ d u2. settle p (truth_in d) u2)) (f.says.by p (counted u1) (same_self g (n + made e) u1.state.store) ∙ sym e1))))
              (by_answer t)
            where
              once : Near g (1 + z) u (counted u1)
              once = near_spent g (omega arith) f.near

              by_answer : (a : Bool) → Like P (choose a (yea u) (nay u)) (choose a (Gives (Leave k) (counted (counted u1))) (run g rest (counted u1)))
              by_answer true = hy u (counted (counted u1)) (near_spent g (omega arith) once) f.same
              by_answer false = hn u (counted u1) (near_less g (omega arith) once) f.same

  -- a CALL, and what comes after it
  called_step : (p : Place) (v n1 : ℕ) (i : c.C v n1) (es : Formulas) (qs : List Spot) (rest : Routes) (w : World) → spots_of T (there g p) es (counted w) ≡ Gives qs (counted w) → run g (AndRoute (Plain p (f66.Invoke (g.callee v) es)) rest) w ≡ bind (g.call (c.unit_of v) qs (counted w)) (λ _ u. run g rest u)
  called_step p v n1 i es qs rest w is =
      ap (λ o. then_do (bind (invoked T o (spots_of T (there g p) es) (counted w)) (λ y u. Gives (course_of y) u)) (λ u. run g rest u)) (c.found_too v n1 i)
      ∙ ap (λ o. then_do (bind (bind o (λ ps u. bind (g.call (c.unit_of v) ps u) (λ _ u1. Gives Normal u1))) (λ y u. Gives (course_of y) u)) (λ u. run g rest u)) is
      ∙ by_call (g.call (c.unit_of v) qs (counted w))
    where
      by_call : (o : Out ⊤) → then_do (bind (bind o (λ _ u1. Gives Normal u1)) (λ y u. Gives (course_of y) u)) (λ u. run g rest u) ≡ bind o (λ _ u. run g rest u)
      by_call (Gives t u) = refl
      by_call (Halts d u) = refl

  -- an act, and what comes after it
  pub act_right : (p : Place) (a : Action) (n : ℕ) → FitAct g.M c.F c.C g.room gives a n → (A : Type 0) (P : Post A Course) (z : ℕ) (w w1 : World) (go : World → Out A) (rest : Routes) → Near g z w w1 →
      ((u u1 : World) → Near g z u u1 → Same g n w1.state.store u1.state.store → Like P (go u) (run g rest u1)) →
      Like P (bind (meaning.acts S g.from p a w) (λ _ u. go u)) (run g (act_routes g.home g.temp g.callee label own p a n rest) w1)
  act_right p (Evaluate e) n ok A P z w w1 go rest near h =
      subst (λ q. Like P q (run g (routes g.home g.temp g.callee p e n rest) w1)) (sym (bind_assoc (values.value_of S (here g p) e w) (λ _ u. Gives tt u) (λ _ u. go u)))
      (expression_right g c e ok.0 p n ok.1 A P z w w1 (λ _ u. go u) rest (near_less g (omega arith) near) (λ v u u1 f. h u u1 f.near f.same))
  act_right p (Invoke v es) n ok A P z w w1 go rest near h =
      let fs = actuals g.home g.temp g.callee es n in
      let more = AndRoute (Plain p (f66.Invoke (g.callee v) fs)) rest in
      subst (λ q. Like P q (run g (actual_routes g.home g.temp g.callee p es n more) w1)) (sym (bind_assoc (values.spots_of S (here g p) es (counted w)) (λ ps u. S.call v ps u) (λ _ u. go u)))
      (actuals_right g c es ok.1 p n ok.2 A P (9 + z) (counted w) w1 (λ ps u. bind (S.call v ps u) (λ _ u1. go u1)) more (near_less g (omega arith) (near_counted g near)) (λ ps u u1 f.
      let once : Near g (8 + z) u (counted u1) = near_spent g (omega arith) f.near in
      subst (λ q. Like P (bind (S.call v ps u) (λ _ u2. go u2)) q) (sym (called_step p v (count es) ok.0 fs f.spots rest u1 (f.says p (counted u1) (same_self g (n + made_for es) u1.state.store))))
      (like_bind (S.call v ps u) (g.call (c.unit_of v) f.spots (counted u1)) (λ _ u2. go u2) (λ _ u2. run g rest u2) (c.calls_too v (count es) ok.0 ps f.spots f.alike (f.many ∙ counted_actuals g es n) z u (counted u1) once) (λ _ u2 _ u3 f1. h u2 u3 f1.0 (same_on g f.same (f1.1 n))))))
