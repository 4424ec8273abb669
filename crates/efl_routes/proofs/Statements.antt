-- Each statement but a list, a `do` and a switch follows.
use Rattle.std.proofs.Common.{◌≡◌, ℕ, ◌+◌, Bool, true, false, List, ◌∷◌, Option, None, Some, refl, sym, ap, subst, arith}
use Rattle.std.specs.Prelude.{nat_eq, not}
use Rattle.std.specs.Str.{bytes_eq}
use Rattle.ground.specs.declared.place.Place.{Place}
use Rattle.ground.specs.declared.value.Kind.TheVariants.{Logical}
use Rattle.ground.specs.Content.{Truth}
use Rattle.f66_tree.specs.Syntax as f66
use Rattle.f66_tree.specs.Syntax.{Text}
use Rattle.f66_tree.specs.World.{Store, World, counted, Gives, Halts, bind, choose}
use Rattle.f66_tree.specs.Units.{Setting}
use Rattle.efl_tree.specs.declared.statement.LoopKind.{LoopKind}
use Rattle.efl_tree.specs.declared.statement.LoopKind.TheVariants as loop_kinds
use Rattle.efl_program.specs.Typed.{Expr, Action, Stmt, Empty, Act, If, IfElse, While, For, Repeat, RepeatUntil, Break, Goto, Labelled}
use Rattle.efl_program.specs.Typed as typed
use Rattle.efl_program.specs.Setting as world
use Rattle.efl_program.specs.Meaning as meaning
use Rattle.efl_program.specs.Meaning.{Leave as EflLeave, Again as EflAgain, Went as EflWent, Jumps as EflJumps, Backs as EflBacks}
use Rattle.routes.specs.Routes as route_tree
use Rattle.routes.specs.Routes.{Route, Ring, Cycle, BreakIf, Routes, NoRoute, AndRoute, only}
use Rattle.routes.specs.Running as running
use Rattle.routes.specs.Running.{Course, Went, Jumps, Backs, Leave, Flow, then_do, ringed}
use Rattle.efl_routes.specs.Expressions.{made, formula}
use Rattle.efl_routes.specs.Statements.{route, unless_any, where_so, if_any, ActIfAny, Around, Other, Behind, Next, leave_depth, again_depth, Ready}
use Rattle.efl_routes.proofs.Like.{Like}
use Rattle.efl_routes.proofs.Near.{Sides, Target, run, Near, Same, same_on, near_less, near_counted, near_begun}
use Rattle.efl_routes.proofs.Lowers.{After}
use Rattle.efl_routes.proofs.Combined.{near_spent}
use Rattle.efl_routes.proofs.Procedures.{Agreed}
use Rattle.efl_routes.proofs.Expressions.{expression_right}
use Rattle.efl_routes.proofs.Flows.{Left, like_on, ring_left}
use Rattle.efl_routes.proofs.Conditions.{truth_right, denied_step, act_right}
use Rattle.efl_routes.proofs.Cycles.{then_none, cycle_right, tested_opens, always_closes, stepped_closes, until_closes}
use Rattle.efl_routes.proofs.Lists as lists

module _ (g : Sides) (c : Agreed g) (label : Text → ℕ) (own : Text) (gives : Type 0) (same_label : (m l : Text) → nat_eq (label m) (label l) ≡ bytes_eq m l) where
  abbrev T : Setting
  T = Target g

  abbrev S : world.Setting
  S = g.source

  abbrev Follows : Stmt → Type 0
  Follows s = lists.Follows g c label own gives same_label s

  abbrev does : Stmt → World → meaning.Flow
  does s w = lists.does g c label own gives same_label s w

  abbrev goes : Stmt → List Around → ℕ → World → Flow
  goes s rs n w = lists.goes g c label own gives same_label s rs n w

  abbrev way : Stmt → List Around → ℕ → Route
  way s rs n = route g.home g.temp g.callee label own s rs n

  abbrev guarded : Place → Expr → ℕ → Routes → Routes
  guarded p e n rest = AndRoute (BreakIf p (f66.Not (formula g.home g.temp g.callee e n)) 0) rest

  abbrev around : Place → Option Expr → Option Action → Stmt → List Around → ℕ → Route
  around p e b s rs n =
      Cycle p (unless_any g.home g.temp g.callee label own p e n NoRoute) (AndRoute (Ring p (only (way s (Next loop_kinds.For ∷ Behind loop_kinds.For ∷ rs) n))) (if_any g.home g.temp g.callee label own p b n NoRoute))

  -- a node of the source more
  spent : {z : ℕ} {w w1 : World} → Near g z w w1 → Near g (z + 32) (counted w) w1
  spent near = near_counted g near

  pub empty_follows : (p : Place) → Follows (Empty p)
  empty_follows p rs n ok z st w w1 near same = record { by = (Went, w1, refl, (refl, near_less g (omega arith) (spent near), same)) }

  pub acts_follow : (p : Place) (a : Action) → Follows (Act p a)
  acts_follow p a rs n ok z st w w1 near same =
      act_right g c label own gives p a n ok meaning.Course (Left g label rs n z st) z (counted w) w1 (λ u. Gives EflWent u) NoRoute (near_less g (omega arith) (spent near))
      (λ u u1 near1 same1. record { by = (Went, u1, refl, (refl, near1, same_on g same same1)) })

  -- a list of one
  alone : (rs : List Around) (n z : ℕ) (st : Store) (o : meaning.Flow) (t : Flow) → Like (Left g label rs n z st) o t → Like (Left g label rs n z st) o (then_do t (λ w. run g NoRoute w))
  alone rs n z st o t h = subst (λ q. Like (Left g label rs n z st) o q) (sym (then_none g c label own gives t)) h

  pub when_follows : (p : Place) (e : Expr) (s : Stmt) → Follows s → Follows (If p e s)
  when_follows p e s r rs n ok z st w w1 near same =
      truth_right g c label own gives p e n ok.0.0 (expression_right g c e ok.0.1.0) ok.0.1.1 meaning.Course (Left g label rs n z st) (z + 32) (counted w) w1 (λ t u. choose t (does s u) (meaning.went u)) (only (Ring p (guarded p e n (only (way s (Other ∷ rs) n))))) (spent near) found
    where
      found : (t : Bool) (u u1 : World) → After g n (n + made e) (z + 32) Logical (formula g.home g.temp g.callee e n) w1.state.store (Truth t) u u1 →
          Like (Left g label rs n z st) (choose t (does s u) (meaning.went u)) (run g (only (Ring p (guarded p e n (only (way s (Other ∷ rs) n))))) u1)
      found t u u1 f =
          let once : Near g (z + 31) u (counted u1) = near_spent g (omega arith) f.near in
          let twice : Near g (z + 30) u (counted (counted u1)) = near_spent g (omega arith) once in
          let thrice : Near g (z + 29) u (counted (counted (counted u1))) = near_spent g (omega arith) twice in
          alone rs n z st (choose t (does s u) (meaning.went u)) (ringed (run g (guarded p e n (only (way s (Other ∷ rs) n))) (counted u1)) (λ v. Gives Went v))
          (subst (λ q. Like (Left g label rs n z st) (choose t (does s u) (meaning.went u)) (ringed q (λ v. Gives Went v)))
          (sym (denied_step g c label own gives p (formula g.home g.temp g.callee e n) n (n + made e) (z + 32) w1.state.store 0 (only (way s (Other ∷ rs) n)) t u u1 (counted u1) f refl))
          (by_truth t (near_less g (omega arith) twice) (near_less g (omega arith) thrice) (same_on g same f.same)))
        where
          by_truth : (a : Bool) → Near g z u (counted (counted u1)) → Near g z u (counted (counted (counted u1))) → Same g n st u1.state.store →
              Like (Left g label rs n z st) (choose a (does s u) (meaning.went u)) (ringed (choose (not a) (Gives (Leave 0) (counted (counted (counted u1)))) (run g (only (way s (Other ∷ rs) n)) (counted (counted u1)))) (λ v. Gives Went v))
          by_truth true near2 near3 same2 = ring_left g label rs n z st (does s u) (run g (only (way s (Other ∷ rs) n)) (counted (counted u1))) (alone (Other ∷ rs) n z st (does s u) (goes s (Other ∷ rs) n (counted (counted u1))) (r (Other ∷ rs) n ok.1 z st u (counted (counted u1)) near2 same2))
          by_truth false near2 near3 same2 = record { by = (Went, counted (counted (counted u1)), refl, (refl, near3, same2)) }

  -- behind the first side of an `if` with `else`, where the other side stands
  abbrev outside : Stmt → List Around → ℕ → Place → Flow → Flow
  outside t rs n p o = ringed (then_do o (λ v. run g (only (way t (Other ∷ rs) n)) v)) (λ v. Gives Went v)

  abbrev over : Stmt → List Around → ℕ → Place → Course → World → Flow
  over t rs n p d v = outside t rs n p (ringed (then_do (Gives d v) (λ x. run g (only (route_tree.Break p 1)) x)) (λ x. Gives Went x))

  over_bind : (t : Stmt) (rs : List Around) (n : ℕ) (p : Place) (o : Flow) → bind o (over t rs n p) ≡ outside t rs n p (ringed (then_do o (λ x. run g (only (route_tree.Break p 1)) x)) (λ x. Gives Went x))
  over_bind t rs n p (Gives d v) = refl
  over_bind t rs n p (Halts d v) = refl

  first_side : (s t : Stmt) → Follows s → (rs : List Around) (n z : ℕ) (st : Store) (p : Place) (u v1 : World) → Ready g.M c.F c.C g.room gives s n → Near g (1 + z) u v1 → Same g n st v1.state.store →
      Like (Left g label rs n z st) (does s u) (outside t rs n p (ringed (run g (AndRoute (way s (Other ∷ Other ∷ rs) n) (only (route_tree.Break p 1))) v1) (λ v. Gives Went v)))
  first_side s t r rs n z st p u v1 ok near same =
      subst (λ q. Like (Left g label rs n z st) (does s u) q) (over_bind t rs n p (goes s (Other ∷ Other ∷ rs) n v1))
      (like_on (does s u) (goes s (Other ∷ Other ∷ rs) n v1) (over t rs n p) (r (Other ∷ Other ∷ rs) n ok (1 + z) st u v1 near same) by_course)
    where
      by_course : (d : meaning.Course) (w : World) (d1 : Course) (w1 : World) → Left g label (Other ∷ Other ∷ rs) n (1 + z) st d w d1 w1 → Like (Left g label rs n z st) (Gives d w) (over t rs n p d1 w1)
      by_course EflWent w d1 w1 f = record { by = (Went, counted w1, ap (λ e. over t rs n p e w1) f.0, (refl, near_begun g f.1, f.2)) }
      by_course (EflJumps l) w d1 w1 f = record { by = (Jumps (label l), w1, ap (λ e. over t rs n p e w1) f.0, (refl, near_less g (omega arith) f.1, f.2)) }
      by_course EflBacks w d1 w1 f = record { by = (Backs, w1, ap (λ e. over t rs n p e w1) f.0, (refl, near_less g (omega arith) f.1, f.2)) }
      by_course (EflLeave i o1) w d1 w1 f = record { by = (Leave (leave_depth rs o1 i), w1, ap (λ e. over t rs n p e w1) f.0, (refl, near_less g (omega arith) f.1, f.2)) }
      by_course (EflAgain i o1) w d1 w1 f = record { by = (Leave (again_depth rs o1 i), w1, ap (λ e. over t rs n p e w1) f.0, (refl, near_less g (omega arith) f.1, f.2)) }

  pub either_follows : (p : Place) (e : Expr) (s t : Stmt) → Follows s → Follows t → Follows (IfElse p e s t)
  either_follows p e s t rs1 rs2 rs n ok z st w w1 near same =
      truth_right g c label own gives p e n ok.0.0 (expression_right g c e ok.0.1.0) ok.0.1.1 meaning.Course (Left g label rs n z st) (z + 32) (counted w) w1 (λ a u. choose a (does s u) (does t u)) (only (Ring p (AndRoute (Ring p (guarded p e n (AndRoute (way s (Other ∷ Other ∷ rs) n) (only (route_tree.Break p 1))))) (only (way t (Other ∷ rs) n))))) (spent near) found
    where
      found : (a : Bool) (u u1 : World) → After g n (n + made e) (z + 32) Logical (formula g.home g.temp g.callee e n) w1.state.store (Truth a) u u1 → Like (Left g label rs n z st) (choose a (does s u) (does t u)) (run g (only (Ring p (AndRoute (Ring p (guarded p e n (AndRoute (way s (Other ∷ Other ∷ rs) n) (only (route_tree.Break p 1))))) (only (way t (Other ∷ rs) n))))) u1)
      found a u u1 f =
          let one : Near g (z + 31) u (counted u1) = near_spent g (omega arith) f.near in
          let two : Near g (z + 30) u (counted (counted u1)) = near_spent g (omega arith) one in
          let three : Near g (z + 29) u (counted (counted (counted u1))) = near_spent g (omega arith) two in
          let four : Near g (z + 28) u (counted (counted (counted (counted u1)))) = near_spent g (omega arith) three in
          alone rs n z st (choose a (does s u) (does t u)) (outside t rs n p (ringed (run g (guarded p e n (AndRoute (way s (Other ∷ Other ∷ rs) n) (only (route_tree.Break p 1)))) (counted (counted u1))) (λ v. Gives Went v)))
          (subst (λ q. Like (Left g label rs n z st) (choose a (does s u) (does t u)) (outside t rs n p (ringed q (λ v. Gives Went v))))
          (sym (denied_step g c label own gives p (formula g.home g.temp g.callee e n) n (n + made e) (z + 32) w1.state.store 0 (AndRoute (way s (Other ∷ Other ∷ rs) n) (only (route_tree.Break p 1))) a u u1 (counted (counted u1)) f refl))
          (by_truth a (counted (counted (counted u1))) (near_less g (omega arith) three) (near_less g (omega arith) four) (same_on g same f.same)))
        where
          by_truth : (b : Bool) (v1 : World) → Near g (1 + z) u v1 → Near g z u (counted v1) → Same g n st v1.state.store →
              Like (Left g label rs n z st) (choose b (does s u) (does t u)) (outside t rs n p (ringed (choose (not b) (Gives (Leave 0) (counted v1)) (run g (AndRoute (way s (Other ∷ Other ∷ rs) n) (only (route_tree.Break p 1))) v1)) (λ v. Gives Went v)))
          by_truth true v1 near3 near4 same2 = first_side s t rs1 rs n z st p u v1 ok.1 near3 same2
          by_truth false v1 near3 near4 same2 = ring_left g label rs n z st (does t u) (run g (only (way t (Other ∷ rs) n)) (counted v1)) (alone (Other ∷ rs) n z st (does t u) (goes t (Other ∷ rs) n (counted v1)) (rs2 (Other ∷ rs) n ok.2 z st u (counted v1) near4 same2))

  -- ---- loops ----

  begun : {z : ℕ} {w w1 : World} → Near g z w w1 → Near g (6 + z) (counted w) (counted w1)
  begun near = near_spent g (omega arith) (spent near)

  pub whilst_follows : (p : Place) (e : Expr) (s : Stmt) → Follows s → Follows (While p e s)
  whilst_follows p e s r rs n ok z st w w1 near same =
      cycle_right g c label own gives rs n z st loop_kinds.While p (meaning.tested S g.from p (Some e)) (unless_any g.home g.temp g.callee label own p (Some e) n NoRoute) (does s) (way s (Next loop_kinds.While ∷ Behind loop_kinds.While ∷ rs) n) (meaning.always S g.from) NoRoute
      (tested_opens g c label own gives rs n z st p (Some e) ok.0) (always_closes g c label own gives rs n z st)
      (λ u u1 near1 same1. r (Next loop_kinds.While ∷ Behind loop_kinds.While ∷ rs) n ok.1 (14 + z) st u u1 near1 same1) g.most (counted w) (counted w1) (begun near) same

  pub repeats_follow : (p : Place) (s : Stmt) → Follows s → Follows (Repeat p s)
  repeats_follow p s r rs n ok z st w w1 near same =
      cycle_right g c label own gives rs n z st loop_kinds.Repeat p (meaning.tested S g.from p None) NoRoute (does s) (way s (Next loop_kinds.Repeat ∷ Behind loop_kinds.Repeat ∷ rs) n) (meaning.always S g.from) NoRoute (tested_opens g c label own gives rs n z st p None tt) (always_closes g c label own gives rs n z st)
      (λ u u1 near1 same1. r (Next loop_kinds.Repeat ∷ Behind loop_kinds.Repeat ∷ rs) n ok (14 + z) st u u1 near1 same1) g.most (counted w) (counted w1) (begun near) same

  pub until_follows : (p : Place) (s : Stmt) (e : Expr) (q : Place) → Follows s → Follows (RepeatUntil p s e q)
  until_follows p s e q r rs n ok z st w w1 near same =
      cycle_right g c label own gives rs n z st loop_kinds.Repeat p (meaning.tested S g.from p None) NoRoute (does s) (way s (Next loop_kinds.Repeat ∷ Behind loop_kinds.Repeat ∷ rs) n) (meaning.until S g.from q e) (where_so g.home g.temp g.callee label own q e n 0 NoRoute)
      (tested_opens g c label own gives rs n z st p None tt) (until_closes g c label own gives rs n z st q e ok.0) (λ u u1 near1 same1. r (Next loop_kinds.Repeat ∷ Behind loop_kinds.Repeat ∷ rs) n ok.1 (14 + z) st u u1 near1 same1) g.most (counted w) (counted w1) (begun near) same

  pub through_follows : (p : Place) (a : Option Action) (e : Option Expr) (b : Option Action) (s : Stmt) → Follows s → Follows (For p a e b s)
  through_follows p a e b s r rs n ok z st w w1 near same = by_first a ok.0
    where
      cycle : (u u1 : World) → Near g (7 + z) u u1 → Same g n st u1.state.store → Like (Left g label rs n z st) (meaning.turns loop_kinds.For g.most (meaning.tested S g.from p e) (does s) (meaning.stepped S g.from p b) u) (run g (only (around p e b s rs n)) u1)
      cycle u u1 near1 same1 =
          alone rs n z st (meaning.turns loop_kinds.For g.most (meaning.tested S g.from p e) (does s) (meaning.stepped S g.from p b) u) (running.running T g.to g.most (around p e b s rs n) u1)
          (cycle_right g c label own gives rs n z st loop_kinds.For p (meaning.tested S g.from p e) (unless_any g.home g.temp g.callee label own p e n NoRoute) (does s) (way s (Next loop_kinds.For ∷ Behind loop_kinds.For ∷ rs) n) (meaning.stepped S g.from p b) (if_any g.home g.temp g.callee label own p b n NoRoute)
          (tested_opens g c label own gives rs n z st p e ok.1) (stepped_closes g c label own gives rs n z st p b ok.2)
          (λ v v1 near2 same2. r (Next loop_kinds.For ∷ Behind loop_kinds.For ∷ rs) n ok.3 (14 + z) st v v1 near2 same2) g.most u (counted u1) (near_spent g (omega arith) near1) same1)

      by_first : (o : Option Action) → ActIfAny g.M c.F c.C g.room gives o n →
          Like (Left g label rs n z st) (meaning.performed S g.from p o (meaning.turns loop_kinds.For g.most (meaning.tested S g.from p e) (does s) (meaning.stepped S g.from p b)) (counted w)) (run g (if_any g.home g.temp g.callee label own p o n (only (around p e b s rs n))) w1)
      by_first None is = cycle (counted w) w1 (near_less g (omega arith) (spent near)) same
      by_first (Some d) is =
          act_right g c label own gives p d n is meaning.Course (Left g label rs n z st) (7 + z) (counted w) w1 (meaning.turns loop_kinds.For g.most (meaning.tested S g.from p e) (does s) (meaning.stepped S g.from p b)) (only (around p e b s rs n)) (near_less g (omega arith) (spent near))
          (λ u u1 near1 same1. cycle u u1 near1 (same_on g same same1))

  -- ---- jumps ----

  pub leaves_follow : (p : Place) (i : ℕ) (o : Option LoopKind) → Follows (Break p i o)
  leaves_follow p i o rs n ok z st w w1 near same = record { by = (Leave (leave_depth rs o (meaning.pred_of i)), counted w1, refl, (refl, near_spent g (omega arith) (spent near), same)) }

  pub turns_follow : (p : Place) (i : ℕ) (o : Option LoopKind) → Follows (typed.Next p i o)
  turns_follow p i o rs n ok z st w w1 near same = record { by = (Leave (again_depth rs o (meaning.pred_of i)), counted w1, refl, (refl, near_spent g (omega arith) (spent near), same)) }

  pub goes_follow : (p : Place) (l : Text) → Follows (Goto p l)
  goes_follow p l rs n ok z st w w1 near same = record { by = (Jumps (label l), counted w1, refl, (refl, near_spent g (omega arith) (spent near), same)) }

  pub marked_follows : (l : Text) (p : Place) (s : Stmt) → Follows s → Follows (Labelled l p s)
  marked_follows l p s r rs n ok z st w w1 near same = r rs n ok z st (counted w) (counted w1) (near_spent g (omega arith) (spent near)) same
