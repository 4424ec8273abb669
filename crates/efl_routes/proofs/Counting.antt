-- A `do` follows.
use Rattle.std.proofs.Common.{◌≡◌, ℕ, ◌+◌, ◌≤◌, Bool, true, false, List, ◌∷◌, Option, None, Some, refl, sym, ap, ◌∙◌, subst, arith}
use Rattle.std.specs.Prelude.{⊤, nat_eq, pos, not}
use Rattle.std.specs.Str.{bytes_eq}
use Rattle.ground.specs.declared.place.Place.{Place}
use Rattle.ground.specs.declared.value.Kind.{Kind}
use Rattle.ground.specs.declared.value.Kind.TheVariants.{Integer, Logical}
use Rattle.ground.specs.Content.{Content, Whole, Truth}
use Rattle.f66_tree.specs.declared.expression.Operator.{Operator}
use Rattle.f66_tree.specs.declared.expression.Operator.TheVariants.{Add, Le}
use Rattle.f66_tree.specs.Syntax as f66
use Rattle.f66_tree.specs.Syntax.{Text, Formula}
use Rattle.f66_tree.specs.World.{Store, World, counted, Out, Gives, Halts, IfYields, bind, choose, settle}
use Rattle.f66_tree.specs.Units.{Setting}
use Rattle.f66_tree.specs.Evaluation.{base as f66base, asked, operate, truth_in, value_of, store_at}
use Rattle.efl_tree.specs.declared.statement.LoopKind.TheVariants as loop_kinds
use Rattle.efl_program.specs.Typed.{Expr, Stmt, Do}
use Rattle.efl_program.specs.Setting as world
use Rattle.efl_program.specs.Values as values
use Rattle.efl_program.specs.Meaning as meaning
use Rattle.routes.specs.Routes.{Route, Ring, Cycle, BreakIf, Routes, NoRoute, AndRoute, only}
use Rattle.routes.specs.Running as running
use Rattle.routes.specs.Running.{Course, Went, Leave, Flow, then_do}
use Rattle.efl_routes.specs.Expressions.{made, type_of, sets, formula, routes}
use Rattle.efl_routes.specs.Statements.{Around, Behind, Next, route, made_if_any, first_if_any, value_or_one, limit_routes, step_routes, FitIfAny, Ready}
use Rattle.efl_routes.specs.LoweredProgram.{Based}
use Rattle.efl_routes.proofs.Like.{Post, Like}
use Rattle.efl_routes.proofs.Near.{Sides, Target, there, here, run, Near, Same, Says, same_self, same_on, same_less, says_still, says_more, near_less, near_counted, near_begun}
use Rattle.efl_routes.proofs.Steps.{bind_assoc, Of, asked_of, operate_of, sets_at}
use Rattle.efl_routes.proofs.Lowers.{After, temp_gets, variable_value}
use Rattle.efl_routes.proofs.Combined.{near_spent, truth_given}
use Rattle.efl_routes.proofs.Changes.{store_right}
use Rattle.efl_routes.proofs.Procedures.{Agreed}
use Rattle.efl_routes.proofs.Expressions.{expression_right}
use Rattle.efl_routes.proofs.Flows.{Left, like_as}
use Rattle.efl_routes.proofs.Conditions.{denied_step}
use Rattle.efl_routes.proofs.Cycles.{Asked, Ends, Opens, Closes, asking_opens, going_closes, cycle_right, then_none}
use Rattle.efl_routes.proofs.Lists as lists

module _ (g : Sides) (c : Agreed g) (label : Text → ℕ) (own : Text) (gives : Type 0) (same_label : (m l : Text) → nat_eq (label m) (label l) ≡ bytes_eq m l) where
  abbrev T : Setting
  T = Target g

  abbrev S : world.Setting
  S = g.source

  module _ (p : Place) (v : ℕ) (i : g.M v Integer) where
    abbrev X : Formula
    X = f66.Ref (g.home v)

    abbrev a : world.Spot
    a = (g.bases v Integer i).source

    -- an operator with the variable's value and another one
    abbrev found : Operator → Content → World → Out Content
    found op k w = bind (settle p (asked Integer (world.held S.linked a w.state.store)) w) (λ x u. settle p (operate op x k) u)

    with_value_is : (op : Operator) (k : Content) (w : World) → meaning.with_value S g.from p v (λ x u. settle p (operate op x k) u) w ≡ found op k w
    with_value_is op k w = ap (λ o. bind (settle p o w) (λ q u. bind (world.load S (here g p) Integer q u) (λ x u1. settle p (operate op x k) u1))) (g.bases v Integer i).is

    -- a temporary gets what the operator makes of them
    found_like : {A : Type 0} (P : Post A Course) (op : Operator) (j : Kind) (k : Content) (e : Formula) (n z : ℕ) (st : Store) (w w1 : World) (K : Content → World → Out A) (rest : Routes) → n + 2 ≤ g.room → Near g (2 + z) w w1 → Same g n st w1.state.store → Says g n e k w1.state.store →
        ((x : Content) → IfYields (Of j) (operate op x k)) → ((d : Content) (u u1 : World) → After g n (n + 2) z j (f66.Ref (g.temp j (n + 1))) st d u u1 → Like P (K d u) (run g rest u1)) →
        Like P (bind (found op k w) K) (run g (AndRoute (sets p (f66.Ref (g.temp Integer n)) X) (AndRoute (sets p (f66.Ref (g.temp j (n + 1))) (f66.Pair op (f66.Ref (g.temp Integer n)) e)) rest)) w1)
    found_like P op j k e n z st w w1 K rest fits near same says of h =
        let old = world.held S.linked a w.state.store in
        let t = f66.Ref (g.temp Integer n) in
        let t1 = f66.Ref (g.temp j (n + 1)) in
        let more = AndRoute (sets p t1 (f66.Pair op t e)) rest in
        let once : Near g (1 + z) w (counted w1) = near_spent g (omega arith) near in
        let ends : n + 1 + 1 ≡ n + 2 = omega arith in
        subst (λ q. Like P q (run g (AndRoute (sets p t X) more) w1)) (sym (bind_assoc (settle p (asked Integer old) w) (λ x u. settle p (operate op x k) u) K))
        (temp_gets g P p (1 + z) n n Integer (asked Integer old) X w w1 w1.state.store (λ x u. bind (settle p (operate op x k) u) K) more (omega arith) (omega (fits, arith)) (variable_value g p v Integer i (counted w1) once) (asked_of Integer old) (near_less g (omega arith) near) (same_self g n w1.state.store)
        (λ x u u1 f.
        let le : n ≤ n = omega arith in
        let other = (says_still g le f.same says).by p (counted u1) (same_self g n u1.state.store) in
        temp_gets g P p z n (n + 1) j (operate op x k) (f66.Pair op t e) u u1 w1.state.store K rest (omega arith) (omega (fits, arith))
        (ap (λ q. bind q (λ y u2. bind (value_of T (there g p) e u2) (λ k1 u3. settle p (operate op y k1) u3))) (f.says.by p (counted u1) (same_self g (n + 1) u1.state.store)) ∙ ap (λ q. bind q (λ k1 u3. settle p (operate op x k1) u3)) other)
        (of x) f.near f.same (λ d u2 u3 f1. h d u2 u3 (record { near = f1.near; same = same_on g same f1.same; says = subst (λ m. Says g m t1 d u3.state.store) ends f1.says; of = f1.of }))))

    -- the test before a turn
    limit_opens : (rs : List Around) (n z : ℕ) (st : Store) (limit : Content) (e : Formula) → n + 2 ≤ g.room → Says g n e limit st → Opens g c label own gives rs n z st (meaning.in_limit S g.from p v limit) (limit_routes g.home g.temp g.callee label own p v e n)
    limit_opens rs n z st limit e fits says =
        asking_opens g c label own gives rs n z st ask (meaning.in_limit S g.from p v limit) (limit_routes g.home g.temp g.callee label own p v e n)
        (λ yea w. sym (bind_assoc (meaning.with_value S g.from p v (λ x u. settle p (operate Le x limit) u) w) (λ t u. settle p (truth_in t) u) (λ holds u. choose holds (yea u) (meaning.went u)))) asks
      where
        ask : World → Out Bool
        ask w = bind (meaning.with_value S g.from p v (λ x u. settle p (operate Le x limit) u) w) (λ t u. settle p (truth_in t) u)

        by_truth : (y : ℕ) (u u1 : World) (t : Bool) → After g n (n + 2) (2 + y) Logical (f66.Ref (g.temp Logical (n + 1))) st (Truth t) u u1 → Like (Asked g c label own gives n y st false) (Gives t u) (run g (only (BreakIf p (f66.Not (f66.Ref (g.temp Logical (n + 1)))) 0)) u1)
        by_truth y u u1 t f =
            let once : Near g (1 + y) u (counted u1) = near_spent g (omega arith) f.near in
            subst (λ q. Like (Asked g c label own gives n y st false) (Gives t u) q) (sym (denied_step g c label own gives p (f66.Ref (g.temp Logical (n + 1))) n (n + 2) (2 + y) st 0 NoRoute t u u1 u1 f refl))
            (by_answer t (near_less g (omega arith) once) (near_begun g once) f.same)
          where
            by_answer : (b : Bool) → Near g y u (counted u1) → Near g y u (counted (counted u1)) → Same g n st u1.state.store → Like (Asked g c label own gives n y st false) (Gives b u) (choose (not b) (Gives (Leave 0) (counted (counted u1))) (run g NoRoute (counted u1)))
            by_answer true near1 near2 same1 = record { by = (Went, counted u1, refl, (refl, near1, same1)) }
            by_answer false near1 near2 same1 = record { by = (Leave 0, counted (counted u1), refl, (refl, near2, same1)) }

        asks : (y : ℕ) (w w1 : World) → Near g (4 + y) w w1 → Same g n st w1.state.store → Like (Asked g c label own gives n y st false) (ask w) (run g (limit_routes g.home g.temp g.callee label own p v e n) w1)
        asks y w w1 near same =
            let le : n ≤ n = omega arith in
            subst (λ q. Like (Asked g c label own gives n y st false) (bind q (λ t u. settle p (truth_in t) u)) (run g (limit_routes g.home g.temp g.callee label own p v e n) w1)) (sym (with_value_is Le limit w))
            (found_like (Asked g c label own gives n y st false) Le Logical limit e n (2 + y) st w w1 (λ t u. settle p (truth_in t) u) (only (BreakIf p (f66.Not (f66.Ref (g.temp Logical (n + 1)))) 0)) fits (near_less g (omega arith) near) same (says_still g le same says) (λ x. operate_of Le x limit)
            (λ d u u1 f. truth_given (λ b. After g n (n + 2) (2 + y) Logical (f66.Ref (g.temp Logical (n + 1))) st b u u1 → Like (Asked g c label own gives n y st false) (settle p (truth_in b) u) (run g (only (BreakIf p (f66.Not (f66.Ref (g.temp Logical (n + 1)))) 0)) u1)) d f.of (λ t f1. by_truth y u u1 t f1) f))

    -- the step behind a turn
    step_closes : (rs : List Around) (n z : ℕ) (st : Store) (by : Content) (e : Formula) → n + 2 ≤ g.room → Says g n e by st → Closes g c label own gives rs n z st (meaning.counts_on S g.from p v by) (step_routes g.home g.temp g.callee label own p v e n)
    step_closes rs n z st by e fits says = going_closes g c label own gives rs n z st act (meaning.counts_on S g.from p v by) (step_routes g.home g.temp g.callee label own p v e n) same_act acts
      where
        act : World → Out ⊤
        act w = bind (meaning.with_value S g.from p v (λ x u. settle p (operate Add x by) u) w) (λ d u. world.store_at S (here g p) (g.bases v Integer i).source d u)

        same_act : (go : meaning.Continuation) (w : World) → meaning.counts_on S g.from p v by go meaning.went w ≡ bind (act w) (λ _ u. go u)
        same_act go w =
            ap (λ o. bind (meaning.with_value S g.from p v (λ x u. settle p (operate Add x by) u) w) (λ d u. bind (settle p o u) (λ q u1. bind (world.store_at S (here g p) q d u1) (λ _ u2. go u2)))) (g.bases v Integer i).is
            ∙ sym (bind_assoc (meaning.with_value S g.from p v (λ x u. settle p (operate Add x by) u) w) (λ d u. world.store_at S (here g p) (g.bases v Integer i).source d u) (λ _ u. go u))

        acts : (w w1 : World) → Near g (14 + z) w w1 → Same g n st w1.state.store → Like (Ends g c label own gives n z st) (act w) (run g (step_routes g.home g.temp g.callee label own p v e n) w1)
        acts w w1 near same =
            let le : n ≤ n = omega arith in
            let t = f66.Ref (g.temp Integer (n + 1)) in
            let base = g.bases v Integer i in
            subst (λ q. Like (Ends g c label own gives n z st) (bind q (λ d u. world.store_at S (here g p) base.source d u)) (run g (step_routes g.home g.temp g.callee label own p v e n) w1)) (sym (with_value_is Add by w))
            (found_like (Ends g c label own gives n z st) Add Integer by e n (7 + z) st w w1 (λ d u. world.store_at S (here g p) base.source d u) (only (sets p X t)) fits (near_less g (omega arith) near) same (says_still g le same says) (λ x. operate_of Add x by)
            (λ d u u1 f.
            let once : Near g (6 + z) u (counted u1) = near_spent g (omega arith) f.near in
            subst (λ q. Like (Ends g c label own gives n z st) (world.store_at S (here g p) base.source d u) q)
            (sym (sets_at g p (g.home v) base.target t NoRoute u1 base.is1 ∙ ap (λ q. bind q (λ k x. bind (store_at T (there g p) base.target k x) (λ _ x1. run g NoRoute x1))) (f.says.by p (counted u1) (same_self g (n + 2) u1.state.store))))
            (subst (λ q. Like (Ends g c label own gives n z st) q (bind (store_at T (there g p) base.target d (counted u1)) (λ _ x1. run g NoRoute x1))) (as_it_is (world.store_at S (here g p) base.source d u))
            (store_right g (Ends g c label own gives n z st) p base.source base.target base.same d (6 + z) u (counted u1) (λ x. Gives tt x) NoRoute once (λ x x1 near1 same1. record { by = (Went, x1, refl, (refl, near1, same_on g f.same (same1 n))) })))))
          where
            as_it_is : (o : Out ⊤) → bind o (λ _ x. Gives tt x) ≡ o
            as_it_is (Gives t x) = refl
            as_it_is (Halts d x) = refl

    -- the third part, which is one where it is missing
    by_like : {A : Type 0} (P : Post A Course) (o : Option Expr) (n z : ℕ) (w w1 : World) (K : Content → World → Out A) (rest : Routes) → FitIfAny g.M c.F c.C g.room gives o n → Near g z w w1 →
        ((k : Content) (u u1 : World) → After g n (n + made_if_any o) z Integer (value_or_one g.home g.temp g.callee label own o n) w1.state.store k u u1 → Like P (K k u) (run g rest u1)) →
        Like P (bind (meaning.value_or_one S g.from p o w) K) (run g (first_if_any g.home g.temp g.callee label own p o n rest) w1)
    by_like P None n z w w1 K rest ok near h = h (Whole (pos 1)) w w1 (record { near = near; same = same_self g n w1.state.store; says = record { by = λ q u s. refl }; of = refl })
    by_like {A} P (Some e) n z w w1 K rest ok near h =
        expression_right g c e ok.1.0 p n ok.1.1 A P z w w1 K rest near (λ k u u1 f. h k u u1 (subst (λ j. After g n (n + made e) z j (formula g.home g.temp g.callee e n) w1.state.store k u u1) ok.0 f))

  module _ (p : Place) (v : ℕ) (a z : Expr) (d : Option Expr) (s : Stmt) (r : lists.Follows g c label own gives same_label s) (rs : List Around) (n : ℕ) (ok : Ready g.M c.F c.C g.room gives (Do p v a z d s) n) (z0 : ℕ) (st : Store) where
    abbrev n1 : ℕ
    n1 = n + made z

    abbrev n2 : ℕ
    n2 = n1 + made_if_any d

    abbrev P : Post meaning.Course Course
    P = Left g label rs n z0 st

    abbrev base : Based g.cell g.Real g.source.linked g.linked (world.base g.source g.from v) (f66base T g.to (g.home v))
    base = g.bases v Integer ok.0

    abbrev inner : List Around
    inner = Next loop_kinds.Do ∷ Behind loop_kinds.Do ∷ rs

    abbrev limit_e : Formula
    limit_e = formula g.home g.temp g.callee z n

    abbrev by_e : Formula
    by_e = value_or_one g.home g.temp g.callee label own d n1

    abbrev top : Routes
    top = limit_routes g.home g.temp g.callee label own p v limit_e n2

    abbrev step : Routes
    step = step_routes g.home g.temp g.callee label own p v by_e n2

    abbrev body : Route
    body = route g.home g.temp g.callee label own s inner n2

    abbrev cycle : Routes
    cycle = only (Cycle p top (AndRoute (Ring p (only body)) step))

    abbrev does : World → meaning.Flow
    does w = lists.does g c label own gives same_label s w

    abbrev turns : Content → Content → World → meaning.Flow
    turns limit by u = meaning.turns loop_kinds.Do g.most (meaning.in_limit S g.from p v limit) does (meaning.counts_on S g.from p v by) u

    cycle_like : (limit by : Content) (x x1 : World) → Near g (7 + z0) x x1 → Same g n st x1.state.store → Says g n2 limit_e limit x1.state.store → Says g n2 by_e by x1.state.store → Like P (turns limit by x) (run g cycle x1)
    cycle_like limit by x x1 near same says says1 =
        let st1 = x1.state.store in
        subst (λ q. Like P (turns limit by x) q) (sym (then_none g c label own gives (running.running T g.to g.most (Cycle p top (AndRoute (Ring p (only body)) step)) x1)))
        (like_as (turns limit by x) (running.running T g.to g.most (Cycle p top (AndRoute (Ring p (only body)) step)) x1)
        (cycle_right g c label own gives rs n2 z0 st1 loop_kinds.Do p (meaning.in_limit S g.from p v limit) top does body (meaning.counts_on S g.from p v by) step (limit_opens p v ok.0 rs n2 z0 st1 limit limit_e ok.4 says) (step_closes p v ok.0 rs n2 z0 st1 by by_e ok.4 says1)
        (λ y y1 near2 same2. r inner n2 ok.5 (14 + z0) st1 y y1 near2 same2) g.most x (counted x1) (near_spent g (omega arith) near) (same_self g n2 st1))
        (λ e y e1 y1 f. (f.0, f.1, same_on g same (same_less g (omega arith) f.2))))

    stored_like : (limit by first : Content) (u u1 : World) (m : ℕ) (j : Kind) (e : Formula) (st3 : Store) → After g n2 m (8 + z0) j e st3 first u u1 → Same g n st u1.state.store → Says g n2 limit_e limit u1.state.store → Says g n2 by_e by u1.state.store →
        Like P (bind (world.store_at S (here g p) base.source first u) (λ _ x. turns limit by x)) (run g (AndRoute (sets p (f66.Ref (g.home v)) e) cycle) u1)
    stored_like limit by first u u1 m j e st3 f same says says1 =
        let once : Near g (7 + z0) u (counted u1) = near_begun_by f.near in
        let le : n2 ≤ n2 = omega arith in
        subst (λ q. Like P (bind (world.store_at S (here g p) base.source first u) (λ _ x. turns limit by x)) q)
        (sym (sets_at g p (g.home v) base.target e cycle u1 base.is1 ∙ ap (λ q. bind q (λ k x. bind (store_at T (there g p) base.target k x) (λ _ x1. run g cycle x1))) (f.says.by p (counted u1) (same_self g m u1.state.store))))
        (store_right g P p base.source base.target base.same first (7 + z0) u (counted u1) (λ x. turns limit by x) cycle once (λ x x1 near1 same1. cycle_like limit by x x1 near1 (same_on g same (same1 n)) (says_still g le (same1 n2) says) (says_still g le (same1 n2) says1)))
      where
        near_begun_by : Near g (8 + z0) u u1 → Near g (7 + z0) u (counted u1)
        near_begun_by h = near_spent g (omega arith) h

  pub counts_follow : (p : Place) (v : ℕ) (a z : Expr) (d : Option Expr) (s : Stmt) → lists.Follows g c label own gives same_label s → lists.Follows g c label own gives same_label (Do p v a z d s)
  counts_follow p v a z d s r rs n ok z0 st w w1 near same =
      let m1 = n + made z in
      let m2 = m1 + made_if_any d in
      let at_v = g.bases v Integer ok.0 in
      let store = AndRoute (sets p (f66.Ref (g.home v)) (formula g.home g.temp g.callee a m2)) (cycle p v a z d s r rs n ok z0 st) in
      let Q = Left g label rs n z0 st in
      let after_a : Content → Content → World → Content → World → meaning.Flow = λ limit by u first u1. bind (world.store_at S (here g p) at_v.source first u1) (λ _ x. turns p v a z d s r rs n ok z0 st limit by x) in
      let after_by : Content → Content → World → meaning.Flow = λ limit by u. bind (settle p (world.base S g.from v) u) (λ q u1. bind (values.value_of S (here g p) a u1) (λ first u2. bind (world.store_at S (here g p) q first u2) (λ _ x. turns p v a z d s r rs n ok z0 st limit by x))) in
      expression_right g c z ok.1.1.0 p n ok.1.1.1 meaning.Course Q (8 + z0) (counted w) w1 (λ limit u. bind (meaning.value_or_one S g.from p d u) (after_by limit)) (first_if_any g.home g.temp g.callee label own p d m1 (routes g.home g.temp g.callee p a m2 store)) (near_less g (omega arith) (near_counted g near))
      (λ limit u u1 f.
      let l1 : m1 ≤ m1 = omega arith in
      let l2 : m1 ≤ m2 = omega arith in
      let l3 : m2 ≤ m2 = omega arith in
      by_like p v ok.0 Q d m1 (8 + z0) u u1 (after_by limit) (routes g.home g.temp g.callee p a m2 store) ok.2 f.near (λ by u2 u3 f1.
      subst (λ o. Like Q (bind (settle p o u2) (λ q u4. bind (values.value_of S (here g p) a u4) (λ first u5. bind (world.store_at S (here g p) q first u5) (λ _ x. turns p v a z d s r rs n ok z0 st limit by x)))) (run g (routes g.home g.temp g.callee p a m2 store) u3)) (sym at_v.is)
      (expression_right g c a ok.3.0 p m2 ok.3.1 meaning.Course Q (8 + z0) u2 u3 (after_a limit by u2) store f1.near (λ first u4 u5 f2.
      stored_like p v a z d s r rs n ok z0 st limit by first u4 u5 (m2 + made a) (type_of a) (formula g.home g.temp g.callee a m2) u3.state.store f2 (same_on g same (same_on g f.same (same_on g (same_less g (omega arith) f1.same) (same_less g (omega arith) f2.same)))) (says_still g l3 f2.same (says_more g l2 (says_still g l1 f1.same f.says))) (says_still g l3 f2.same f1.says)))))
