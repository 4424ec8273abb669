-- A switch follows.
use Rattle.std.proofs.Common.{◌≡◌, ℕ, ◌+◌, ◌≤◌, Bool, true, false, List, [], ◌∷◌, refl, sym, ap, ◌∙◌, subst, arith, ◌&&◌, if◌then◌else◌}
use Rattle.std.specs.Prelude.{⊤, ℤ, negsuc, pos, neg_ℤ, nat_eq, int_le, int_lt}
use Rattle.std.proofs.Math.IntN.{neg_ℤ-neg_ℤ}
use Rattle.std.specs.Str.{bytes_eq}
use Rattle.ground.specs.declared.place.Place.{Place}
use Rattle.ground.specs.declared.value.Kind.TheVariants.{Integer}
use Rattle.ground.specs.Content.{Content, Nothing, Whole, Truth}
use Rattle.f66_tree.specs.declared.expression.Operator.TheVariants.{Eq}
use Rattle.f66_tree.specs.Syntax as f66
use Rattle.f66_tree.specs.Syntax.{Text, Formula}
use Rattle.f66_tree.specs.World.{Store, World, counted, Gives, Halts, bind, choose, settle}
use Rattle.f66_tree.specs.Units.{Setting}
use Rattle.f66_tree.specs.Evaluation.{value_of, operate, truth_in}
use Rattle.efl_tree.specs.declared.statement.LoopKind.TheVariants as loop_kinds
use Rattle.efl_program.specs.Typed.{Expr, Switch, Stmts, Clauses, NoClause, AndClause}
use Rattle.efl_program.specs.Setting as world
use Rattle.efl_program.specs.Meaning as meaning
use Rattle.efl_program.specs.Meaning.{Leave as EflLeave, Again as EflAgain, Went as EflWent, Jumps as EflJumps, Backs as EflBacks}
use Rattle.routes.specs.Routes as route_tree
use Rattle.routes.specs.Routes.{Route, Ring, BreakIf, Routes, NoRoute, AndRoute, only}
use Rattle.routes.specs.Running as running
use Rattle.routes.specs.Running.{Course, Went, Jumps, Backs, Leave, Flow, then_do, after_ring, ringed}
use Rattle.efl_routes.specs.Expressions.{made, type_of, formula}
use Rattle.efl_routes.specs.Statements.{Around, Other, Behind, leave_depth, again_depth, signed, case_routes, clause_route, default_route, ClausesReady}
use Rattle.efl_routes.proofs.Like.{Post, Like}
use Rattle.efl_routes.proofs.Near.{Sides, Target, there, run, Near, Same, Says, same_self, same_on, same_less, near_less, near_counted, near_begun}
use Rattle.efl_routes.proofs.Steps.{Of}
use Rattle.efl_routes.proofs.Lowers.{After}
use Rattle.efl_routes.proofs.Combined.{near_spent, no_trap}
use Rattle.efl_routes.proofs.Procedures.{Agreed}
use Rattle.efl_routes.proofs.Expressions.{expression_right}
use Rattle.efl_routes.proofs.Flows.{Left, like_as, like_on, ring_left, switch_left}
use Rattle.efl_routes.proofs.Conditions.{quits_step}
use Rattle.efl_routes.proofs.Cycles.{then_none}
use Rattle.efl_routes.proofs.Lists as lists
use Rattle.efl_routes.proofs.Lists.{list_follows}

-- an integer is one
pub whole_given : (P : Content → Type 0) (v : Content) → Of Integer v → ((z : ℤ) → P (Whole z)) → P v
whole_given P (Whole z) e h = h z
whole_given P Nothing e h = absurd (no_trap e)
whole_given P (Truth t) e h = absurd (no_trap e)

module _ (g : Sides) (c : Agreed g) (label : Text → ℕ) (own : Text) (gives : Type 0) (same_label : (m l : Text) → nat_eq (label m) (label l) ≡ bytes_eq m l) where
  abbrev T : Setting
  T = Target g

  abbrev S : world.Setting
  S = g.source

  abbrev Cases : Place → Formula → List ℤ → Routes
  Cases q e cs = case_routes g.home g.temp g.callee label own q e cs

  abbrev fits : Place → Content → List ℤ → meaning.Continuation → meaning.Continuation → meaning.Continuation
  fits q v es yea nay w = meaning.fits_constant S g.from q v es yea nay w

  abbrev equal : ℤ → ℤ → Bool
  equal x k = int_le x k && int_le k x

  -- a constant is its value, with a sign or without
  signed_gives : (q : Place) (k : ℤ) (w : World) → value_of T (there g q) (signed k) w ≡ Gives (Whole k) w
  signed_gives q k w = either (int_le (negsuc 2147483646) k && int_lt k (pos 0))
    where
      either : (b : Bool) → value_of T (there g q) (if b then (f66.Minus (f66.Int (neg_ℤ k))) else (f66.Int k)) w ≡ Gives (Whole k) w
      either true = ap (λ z. Gives (Whole z) w) (neg_ℤ-neg_ℤ k)
      either false = refl

  case_step : (q : Place) (x k : ℤ) (e : Formula) (m : ℕ) (es : List ℤ) (w1 : World) → Says g m e (Whole x) w1.state.store → run g (Cases q e (k ∷ es)) w1 ≡ choose (equal x k) (Gives (Leave 0) (counted (counted w1))) (run g (Cases q e es) (counted w1))
  case_step q x k e m es w1 says =
      quits_step g c label own gives q (f66.Pair Eq e (signed k)) 0 (Cases q e es) w1 (equal x k)
      (ap (λ o. bind (bind o (λ y u. bind (value_of T (there g q) (signed k) u) (λ i u1. settle q (operate Eq y i) u1))) (λ y u. settle q (truth_in y) u)) (says.by q (counted w1) (same_self g m w1.state.store))
      ∙ ap (λ o. bind (bind o (λ i u. settle q (operate Eq (Whole x) i) u)) (λ y u. settle q (truth_in y) u)) (signed_gives q k (counted w1)))

  -- a constant of a clause, and the ones behind it
  case_like : (P : Post meaning.Course Course) (q : Place) (x : ℤ) (e : Formula) (m z : ℕ) (J : Course → World → Flow) (yea nay : meaning.Continuation) (k : ℤ) (es : List ℤ) (w w1 : World) (st : Store) → w1.state.store ≡ st → Near g (3 + z) (counted w) w1 → Says g m e (Whole x) st →
      ((u u1 : World) → Near g z u u1 → u1.state.store ≡ st → Like P (yea u) (J (Leave 0) u1)) → ((u u1 : World) → Near g (1 + z) u u1 → u1.state.store ≡ st → Like P (fits q (Whole x) es yea nay u) (bind (run g (Cases q e es) u1) J)) →
      Like P (fits q (Whole x) (k ∷ es) yea nay w) (bind (run g (Cases q e (k ∷ es)) w1) J)
  case_like P q x e m z J yea nay k es w w1 st is near says hit later =
      let once : Near g (2 + z) (counted w) (counted w1) = near_spent g (omega arith) near in
      subst (λ o. Like P (choose (equal x k) (yea (counted w)) (fits q (Whole x) es yea nay (counted w))) (bind o J)) (sym (case_step q x k e m es w1 (subst (λ s. Says g m e (Whole x) s) (sym is) says)))
      (either (equal x k) (hit (counted w) (counted (counted w1)) (near_less g (omega arith) (near_spent g {z = 1 + z} (omega arith) once)) is) (later (counted w) (counted w1) (near_less g (omega arith) once) is))
    where
      either : (b : Bool) → Like P (yea (counted w)) (J (Leave 0) (counted (counted w1))) → Like P (fits q (Whole x) es yea nay (counted w)) (bind (run g (Cases q e es) (counted w1)) J) →
          Like P (choose b (yea (counted w)) (fits q (Whole x) es yea nay (counted w))) (bind (choose b (Gives (Leave 0) (counted (counted w1))) (run g (Cases q e es) (counted w1))) J)
      either true h j = h
      either false h j = j

  -- the constants of a clause
  cases_like : (P : Post meaning.Course Course) (q : Place) (x : ℤ) (e : Formula) (m z : ℕ) (J : Course → World → Flow) (yea nay : meaning.Continuation) (es : List ℤ) (w w1 : World) (st : Store) → w1.state.store ≡ st → Near g (1 + z) w w1 → Says g m e (Whole x) st →
      ((u u1 : World) → Near g z u u1 → u1.state.store ≡ st → Like P (yea u) (J (Leave 0) u1)) → ((u u1 : World) → Near g z u u1 → u1.state.store ≡ st → Like P (nay u) (J (Leave 1) u1)) → Like P (fits q (Whole x) es yea nay w) (bind (run g (Cases q e es) w1) J)
  cases_like P q x e m z J yea nay [] w w1 st is near says hit miss = miss w (counted w1) (near_begun g near) is
  cases_like P q x e m z J yea nay (k ∷ es) w w1 st is near says hit miss =
      case_like P q x e m z J yea nay k es w w1 st is (near_less g (omega arith) (near_counted g near)) says hit (λ u u1 near1 is1. cases_like P q x e m z J yea nay es u u1 st is1 near1 says hit miss)

  -- behind the statements of a clause, where the other clauses stand
  abbrev outside : Routes → Flow → Flow
  outside others o = ringed (then_do o (λ v. run g others v)) (λ v. Gives Went v)

  abbrev over : Place → Routes → Course → World → Flow
  over q others d v = outside others (ringed (then_do (Gives d v) (λ x. run g (only (route_tree.Break q 1)) x)) (λ x. Gives Went x))

  over_bind : (q : Place) (others : Routes) (o : Flow) → bind o (over q others) ≡ outside others (ringed (then_do o (λ x. run g (only (route_tree.Break q 1)) x)) (λ x. Gives Went x))
  over_bind q others (Gives d v) = refl
  over_bind q others (Halts d v) = refl

  side_left : (rs : List Around) (n z : ℕ) (st : Store) (q : Place) (others : Routes) (o : meaning.Flow) (t : Flow) → Like (Left g label (Other ∷ Other ∷ rs) n (1 + z) st) o t → Like (Left g label rs n z st) o (outside others (ringed (then_do t (λ x. run g (only (route_tree.Break q 1)) x)) (λ x. Gives Went x)))
  side_left rs n z st q others o t h = subst (λ r. Like (Left g label rs n z st) o r) (over_bind q others t) (like_on o t (over q others) h by_course)
    where
      by_course : (d : meaning.Course) (w : World) (d1 : Course) (w1 : World) → Left g label (Other ∷ Other ∷ rs) n (1 + z) st d w d1 w1 → Like (Left g label rs n z st) (Gives d w) (over q others d1 w1)
      by_course EflWent w d1 w1 f = record { by = (Went, counted w1, ap (λ e. over q others e w1) f.0, (refl, near_begun g f.1, f.2)) }
      by_course (EflJumps l) w d1 w1 f = record { by = (Jumps (label l), w1, ap (λ e. over q others e w1) f.0, (refl, near_less g (omega arith) f.1, f.2)) }
      by_course EflBacks w d1 w1 f = record { by = (Backs, w1, ap (λ e. over q others e w1) f.0, (refl, near_less g (omega arith) f.1, f.2)) }
      by_course (EflLeave i o1) w d1 w1 f = record { by = (Leave (leave_depth rs o1 i), w1, ap (λ e. over q others e w1) f.0, (refl, near_less g (omega arith) f.1, f.2)) }
      by_course (EflAgain i o1) w d1 w1 f = record { by = (Leave (again_depth rs o1 i), w1, ap (λ e. over q others e w1) f.0, (refl, near_less g (omega arith) f.1, f.2)) }

  alone : (rs : List Around) (n z : ℕ) (st : Store) (o : meaning.Flow) (t : Flow) → Like (Left g label rs n z st) o t → Like (Left g label rs n z st) o (then_do t (λ w. run g NoRoute w))
  alone rs n z st o t h = subst (λ q. Like (Left g label rs n z st) o q) (sym (then_none g c label own gives t)) h

  -- ---- clauses ----

  abbrev pub BodiesFollow : Clauses → Type 0
  BodiesFollow NoClause = ⊤
  BodiesFollow (AndClause es fallback ss p cs) = lists.AllFollow g c label own gives same_label ss × lists.FromFollow g c label own gives same_label ss × BodiesFollow cs

  abbrev goes : Route → World → Flow
  goes r w = running.running T g.to g.most r w

  abbrev clause_way : Place → Formula → Clauses → (List Around → ℕ → Route) → List Around → ℕ → Route
  clause_way q e cs other rs n = clause_route g.home g.temp g.callee label own q e cs other rs n

  abbrev default_way : Clauses → List Around → ℕ → Route
  default_way cs rs n = default_route g.home g.temp g.callee label own cs rs n

  abbrev body_way : Stmts → List Around → ℕ → Route
  body_way ss rs n = route_tree.Block (lists.routes_of g c label own gives same_label ss rs n)

  abbrev picked : Place → Content → Clauses → meaning.Continuation → World → meaning.Flow
  picked q v cs other w = meaning.picked S g.from g.most q v cs other w

  pub default_follows : (cs : Clauses) → BodiesFollow cs → (rs : List Around) (n : ℕ) → ClausesReady g.M c.F c.C g.room gives cs n → (z : ℕ) (st : Store) (w w1 : World) → Near g z w w1 → Same g n st w1.state.store → Like (Left g label rs n z st) (meaning.defaulted S g.from g.most cs w) (goes (default_way cs rs n) w1)
  default_follows NoClause all rs n ok z st w w1 near same = record { by = (Went, w1, refl, (refl, near, same)) }
  default_follows (AndClause es fallback ss p cs) all rs n ok z st w w1 near same = either fallback (list_follows g c label own gives same_label ss all.0 all.1 rs n ok.0 z st w w1 near same) (default_follows cs all.2 rs n ok.1 z st w w1 near same)
    where
      either : (b : Bool) → Like (Left g label rs n z st) (meaning.all_meaning S g.from g.most ss w) (goes (body_way ss rs n) w1) → Like (Left g label rs n z st) (meaning.defaulted S g.from g.most cs w) (goes (default_way cs rs n) w1) →
          Like (Left g label rs n z st) (if b then (meaning.all_meaning S g.from g.most ss w) else (meaning.defaulted S g.from g.most cs w)) (goes (if b then (body_way ss rs n) else (default_way cs rs n)) w1)
      either true h j = h
      either false h j = j

  -- behind the constants of a clause
  abbrev behind : Place → Routes → Routes → Course → World → Flow
  behind q inside others d v = outside others (ringed (then_do (after_ring (λ x. Gives Went x) d v) (λ x. run g inside x)) (λ x. Gives Went x))

  behind_bind : (q : Place) (inside others : Routes) (o : Flow) → bind o (behind q inside others) ≡ outside others (ringed (then_do (ringed o (λ x. Gives Went x)) (λ x. run g inside x)) (λ x. Gives Went x))
  behind_bind q inside others (Gives d v) = refl
  behind_bind q inside others (Halts d v) = refl

  -- what comes where no constant is the value
  abbrev OtherFollows : ℕ → meaning.Continuation → (List Around → ℕ → Route) → Type 0
  OtherFollows n other other1 = (rs : List Around) (z : ℕ) (st : Store) (w w1 : World) → Near g z w w1 → Same g n st w1.state.store → Like (Left g label rs n z st) (other w) (goes (other1 rs n) w1)

  clauses_follow : (cs : Clauses) → BodiesFollow cs → (q : Place) (x : ℤ) (e : Formula) (m n : ℕ) (other : meaning.Continuation) (other1 : List Around → ℕ → Route) → OtherFollows n other other1 → (rs : List Around) → ClausesReady g.M c.F c.C g.room gives cs n →
      (z : ℕ) (st : Store) (w w1 : World) → Near g z w w1 → Same g n st w1.state.store → Says g m e (Whole x) w1.state.store → Like (Left g label rs n z st) (picked q (Whole x) cs other w) (goes (clause_way q e cs other1 rs n) w1)
  clauses_follow NoClause all q x e m n other other1 others rs ok z st w w1 near same says = others rs z st w w1 near same
  clauses_follow (AndClause [] fallback ss p cs) all q x e m n other other1 others rs ok z st w w1 near same says = clauses_follow cs all.2 q x e m n other other1 others rs ok.1 z st w w1 near same says
  clauses_follow (AndClause (k ∷ es) fallback ss p cs) all q x e m n other other1 others rs ok z st w w1 near same says =
      let inside = AndRoute (body_way ss (Other ∷ Other ∷ rs) n) (only (route_tree.Break q 1)) in
      let rest = only (clause_way q e cs other1 (Other ∷ rs) n) in
      let w4 = counted (counted (counted w1)) in
      let spent : Near g (31 + z) (counted w) (counted w1) = near_spent g (omega arith) (near_counted g near) in
      let twice : Near g (30 + z) (counted w) (counted (counted w1)) = near_spent g (omega arith) spent in
      let thrice : Near g (29 + z) (counted w) w4 = near_spent g (omega arith) twice in
      subst (λ o. Like (Left g label rs n z st) (picked q (Whole x) (AndClause (k ∷ es) fallback ss p cs) other w) o) (behind_bind q inside rest (run g (Cases q e (k ∷ es)) w4))
      (case_like (Left g label rs n z st) q x e m (1 + z) (behind q inside rest) (λ u. meaning.all_meaning S g.from g.most ss u) (picked q (Whole x) cs other) k es w w4 w1.state.store refl (near_less g (omega arith) thrice) says
      (λ u u1 near1 is1. side_left rs n z st q rest (meaning.all_meaning S g.from g.most ss u) (goes (body_way ss (Other ∷ Other ∷ rs) n) u1) (list_follows g c label own gives same_label ss all.0 all.1 (Other ∷ Other ∷ rs) n ok.0 (1 + z) st u u1 near1 (subst (λ s. Same g n st s) (sym is1) same)))
      (λ u u1 near1 is1. cases_like (Left g label rs n z st) q x e m (1 + z) (behind q inside rest) (λ v. meaning.all_meaning S g.from g.most ss v) (picked q (Whole x) cs other) es u u1 w1.state.store is1 near1 says
      (λ v v1 near2 is2. side_left rs n z st q rest (meaning.all_meaning S g.from g.most ss v) (goes (body_way ss (Other ∷ Other ∷ rs) n) v1) (list_follows g c label own gives same_label ss all.0 all.1 (Other ∷ Other ∷ rs) n ok.0 (1 + z) st v v1 near2 (subst (λ s. Same g n st s) (sym is2) same)))
      (λ v v1 near2 is2. ring_left g label rs n z st (picked q (Whole x) cs other v) (run g rest v1) (alone (Other ∷ rs) n z st (picked q (Whole x) cs other v) (goes (clause_way q e cs other1 (Other ∷ rs) n) v1)
      (clauses_follow cs all.2 q x e m n other other1 others (Other ∷ rs) ok.1 z st v v1 (near_less g (omega arith) near2) (subst (λ s. Same g n st s) (sym is2) same) (subst (λ s. Says g m e (Whole x) s) (sym is2) says))))))

  pub switch_follows : (p : Place) (e : Expr) (cs : Clauses) → BodiesFollow cs → lists.Follows g c label own gives same_label (Switch p e cs)
  switch_follows p e cs all rs n ok z st w w1 near same =
      expression_right g c e ok.0.1.0 p n ok.0.1.1 meaning.Course (Left g label rs n z st) (1 + z) (counted w) w1 (λ v u. meaning.turned loop_kinds.Switch (picked p v cs (meaning.defaulted S g.from g.most cs) u) meaning.went)
      (only (Ring p (only (clause_way p (formula g.home g.temp g.callee e n) cs (default_way cs) (Behind loop_kinds.Switch ∷ rs) (n + made e))))) (near_less g (omega arith) (near_counted g near)) found
    where
      found : (v : Content) (u u1 : World) → After g n (n + made e) (1 + z) (type_of e) (formula g.home g.temp g.callee e n) w1.state.store v u u1 →
          Like (Left g label rs n z st) (meaning.turned loop_kinds.Switch (picked p v cs (meaning.defaulted S g.from g.most cs) u) meaning.went) (run g (only (Ring p (only (clause_way p (formula g.home g.temp g.callee e n) cs (default_way cs) (Behind loop_kinds.Switch ∷ rs) (n + made e))))) u1)
      found v u u1 f =
          let once : Near g z u (counted u1) = near_begun g f.near in
          let way = clause_way p (formula g.home g.temp g.callee e n) cs (default_way cs) (Behind loop_kinds.Switch ∷ rs) (n + made e) in
          let m = n + made e in
          let full : m ≤ m = omega arith in
          whole_given (λ d. Says g (n + made e) (formula g.home g.temp g.callee e n) d u1.state.store → Like (Left g label rs n z st) (meaning.turned loop_kinds.Switch (picked p d cs (meaning.defaulted S g.from g.most cs) u) meaning.went) (run g (only (Ring p (only way))) u1)) v (subst (λ i. Of i v) ok.0.0 f.of)
          (λ x says.
          alone rs n z st (meaning.turned loop_kinds.Switch (picked p (Whole x) cs (meaning.defaulted S g.from g.most cs) u) meaning.went) (ringed (run g (only way) (counted u1)) (λ y. Gives Went y))
          (switch_left g label rs n z st (picked p (Whole x) cs (meaning.defaulted S g.from g.most cs) u) (run g (only way) (counted u1))
          (alone (Behind loop_kinds.Switch ∷ rs) n z st (picked p (Whole x) cs (meaning.defaulted S g.from g.most cs) u) (goes way (counted u1))
          (lower (Behind loop_kinds.Switch ∷ rs) (picked p (Whole x) cs (meaning.defaulted S g.from g.most cs) u) (goes way (counted u1)) u1 (same_on g same f.same)
          (clauses_follow cs all p x (formula g.home g.temp g.callee e n) (n + made e) (n + made e) (meaning.defaulted S g.from g.most cs) (default_way cs) (λ rs1 z1 st1 v1 v2 near1 same1. default_follows cs all rs1 (n + made e) ok.1 z1 st1 v1 v2 near1 same1) (Behind loop_kinds.Switch ∷ rs) ok.1 z u1.state.store u (counted u1) once (same_self g (n + made e) u1.state.store) says)))))
          f.says
        where
          -- with fewer temporaries that hold the same
          lower : (rs1 : List Around) (o : meaning.Flow) (t : Flow) (x1 : World) → Same g n st x1.state.store → Like (Left g label rs1 (n + made e) z x1.state.store) o t → Like (Left g label rs1 n z st) o t
          lower rs1 o t x1 s h = like_as o t h (λ d y d1 y1 j. (j.0, j.1, same_on g s (same_less g (omega arith) j.2)))
