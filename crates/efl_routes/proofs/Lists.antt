-- Lists of statements follow, from their starts and from the labels that stand directly in them, with the jumps within them.
use Rattle.std.proofs.Common.{◌≡◌, ℕ, zero, suc, Bool, true, false, List, Option, None, Some, refl, sym, ap, ◌∙◌, subst, arith, if◌then◌else◌, ◌||◌}
use Rattle.std.specs.Prelude.{nat_eq}
use Rattle.std.specs.Str.{bytes_eq}
use Rattle.f66_tree.specs.Syntax.{Text}
use Rattle.f66_tree.specs.World.{Store, World, counted, GoesOn, Gives, Halts, bind}
use Rattle.f66_tree.specs.Units.{Setting}
use Rattle.efl_program.specs.Typed.{Stmt, Empty, Block, Act, If, IfElse, While, For, Repeat, RepeatUntil, Do, Switch, Break, Next, Return, Goto, Write, Read, Labelled, Stmts, NoStmt, AndStmt}
use Rattle.efl_program.specs.Setting as world
use Rattle.efl_program.specs.Meaning as meaning
use Rattle.efl_program.specs.Meaning.{Leave as EflLeave, Again as EflAgain, Went as EflWent, Jumps as EflJumps, Backs as EflBacks}
use Rattle.routes.specs.Routes as route_tree
use Rattle.routes.specs.Routes.{Routes}
use Rattle.routes.specs.Running as running
use Rattle.routes.specs.Running.{Course, Went, Jumps, Backs, Leave, Flow, then_do, after}
use Rattle.efl_routes.specs.Statements.{Around, leave_depth, again_depth, route, all_route, Ready, AllReady}
use Rattle.efl_routes.proofs.Like.{Post, Like, like_bind}
use Rattle.efl_routes.proofs.Near.{Sides, Target, Near, Same, near_less, near_counted, near_within}
use Rattle.efl_routes.proofs.Procedures.{Agreed}
use Rattle.efl_routes.proofs.Flows.{CourseLike, Left}

module _ (g : Sides) (c : Agreed g) (label : Text → ℕ) (own : Text) (gives : Type 0) (same_label : (m l : Text) → nat_eq (label m) (label l) ≡ bytes_eq m l) where
  abbrev T : Setting
  T = Target g

  abbrev S : world.Setting
  S = g.source

  abbrev pub routes_of : Stmts → List Around → ℕ → Routes
  routes_of ss rs n = all_route g.home g.temp g.callee label own ss rs n

  abbrev pub does : Stmt → World → meaning.Flow
  does s w = meaning.meaning S g.from g.most s w

  abbrev pub does_all : Stmts → Option Text → World → meaning.Flow
  does_all ss o w = meaning.run_from S g.from g.most ss o w

  abbrev pub goes : Stmt → List Around → ℕ → World → Flow
  goes s rs n w = running.running T g.to g.most (route g.home g.temp g.callee label own s rs n) w

  abbrev pub goes_all : Stmts → List Around → ℕ → Option ℕ → World → Flow
  goes_all ss rs n o w = running.run_from T g.to g.most (routes_of ss rs n) o w

  -- what is proved of each statement, of each list, and of each list from a label
  abbrev pub Follows : Stmt → Type 0
  Follows s = (rs : List Around) (n : ℕ) → Ready g.M c.F c.C g.room gives s n → (z : ℕ) (st : Store) (w w1 : World) → Near g z w w1 → Same g n st w1.state.store → Like (Left g label rs n z st) (does s w) (goes s rs n w1)

  abbrev pub AllFollow : Stmts → Type 0
  AllFollow ss = (rs : List Around) (n : ℕ) → AllReady g.M c.F c.C g.room gives ss n → (z : ℕ) (st : Store) (w w1 : World) → Near g z w w1 → Same g n st w1.state.store → Like (Left g label rs n z st) (does_all ss None w) (goes_all ss rs n None w1)

  abbrev pub FromFollow : Stmts → Type 0
  FromFollow ss =
      (l : Text) → meaning.stands l ss ≡ true → (rs : List Around) (n : ℕ) → AllReady g.M c.F c.C g.room gives ss n → (z : ℕ) (st : Store) (w w1 : World) → Near g z w w1 → Same g n st w1.state.store →
      Like (Left g label rs n z st) (does_all ss (Some l) w) (goes_all ss rs n (Some (label l)) w1)

  marks_same : (l : Text) (s : Stmt) (rs : List Around) (n : ℕ) → running.has_own_label (label l) (route g.home g.temp g.callee label own s rs n) ≡ meaning.has_own_label l s
  marks_same l (Labelled m p s) rs n = ap (λ b. b || running.has_own_label (label l) (route g.home g.temp g.callee label own s rs n)) (same_label m l) ∙ ap (λ b. bytes_eq m l || b) (marks_same l s rs n)
  marks_same l (Empty p) rs n = refl
  marks_same l (Block p ss) rs n = refl
  marks_same l (Act p a) rs n = refl
  marks_same l (If p e s) rs n = refl
  marks_same l (IfElse p e s t) rs n = refl
  marks_same l (While p e s) rs n = refl
  marks_same l (For p a e b s) rs n = refl
  marks_same l (Repeat p s) rs n = refl
  marks_same l (RepeatUntil p s e q) rs n = refl
  marks_same l (Do p v a z d s) rs n = refl
  marks_same l (Switch p e cs) rs n = refl
  marks_same l (Break p i o) rs n = refl
  marks_same l (Next p i o) rs n = refl
  marks_same l (Return p None) rs n = refl
  marks_same l (Return p (Some e)) rs n = refl
  marks_same l (Goto p m) rs n = refl
  marks_same l (Write p u items) rs n = refl
  marks_same l (Read p u items) rs n = refl

  stands_same : (l : Text) (ss : Stmts) (rs : List Around) (n : ℕ) → running.stands (label l) (routes_of ss rs n) ≡ meaning.stands l ss
  stands_same l NoStmt rs n = refl
  stands_same l (AndStmt s ss) rs n = ap (λ b. b || running.stands (label l) (routes_of ss rs n)) (marks_same l s rs n) ∙ ap (λ b. meaning.has_own_label l s || b) (stands_same l ss rs n)

  -- one statement behind another
  then_follow : (rs : List Around) (n z : ℕ) (st : Store) (o : meaning.Flow) (t : Flow) (go : meaning.Continuation) (go1 : running.Continuation) → Like (Left g label rs n z st) o t →
      ((w w1 : World) → Near g z w w1 → Same g n st w1.state.store → Like (Left g label rs n z st) (go w) (go1 w1)) → Like (Left g label rs n z st) (meaning.then_do o go) (then_do t go1)
  then_follow rs n z st o t go go1 h k = like_bind o t (meaning.after go) (after go1) h by_course
    where
      by_course : (d : meaning.Course) (w : World) (d1 : Course) (w1 : World) → Left g label rs n z st d w d1 w1 → Like (Left g label rs n z st) (meaning.after go d w) (after go1 d1 w1)
      by_course EflWent w d1 w1 f = subst (λ e. Like (Left g label rs n z st) (go w) (after go1 e w1)) (sym f.0) (k w w1 f.1 f.2)
      by_course (EflJumps l) w d1 w1 f = record { by = (Jumps (label l), w1, ap (λ e. after go1 e w1) f.0, (refl, f.1, f.2)) }
      by_course EflBacks w d1 w1 f = record { by = (Backs, w1, ap (λ e. after go1 e w1) f.0, (refl, f.1, f.2)) }
      by_course (EflLeave i o1) w d1 w1 f = record { by = (Leave (leave_depth rs o1 i), w1, ap (λ e. after go1 e w1) f.0, (refl, f.1, f.2)) }
      by_course (EflAgain i o1) w d1 w1 f = record { by = (Leave (again_depth rs o1 i), w1, ap (λ e. after go1 e w1) f.0, (refl, f.1, f.2)) }

  pub none_follow : AllFollow NoStmt
  none_follow rs n ok z st w w1 near same = record { by = (Went, w1, refl, (refl, near, same)) }

  pub more_follow : (s : Stmt) (ss : Stmts) → Follows s → AllFollow ss → AllFollow (AndStmt s ss)
  more_follow s ss r rest rs n ok z st w w1 near same =
      then_follow rs n z st (does s w) (goes s rs n w1) (does_all ss None) (goes_all ss rs n None) (r rs n ok.0 z st w w1 near same) (λ u u1 near1 same1. rest rs n ok.1 z st u u1 near1 same1)

  pub from_none : FromFollow NoStmt
  from_none l is rs n ok z st w w1 near same = record { by = (Went, w1, refl, (refl, near, same)) }

  pub from_more : (s : Stmt) (ss : Stmts) → Follows s → AllFollow ss → FromFollow ss → FromFollow (AndStmt s ss)
  from_more s ss r rest from l is rs n ok z st w w1 near same = by_mark (meaning.has_own_label l s) refl
    where
      by_mark : (b : Bool) → meaning.has_own_label l s ≡ b →
          Like (Left g label rs n z st) (if (meaning.has_own_label l s) then (meaning.then_do (does s w) (does_all ss None)) else (does_all ss (Some l) w)) (if (running.has_own_label (label l) (route g.home g.temp g.callee label own s rs n)) then (then_do (goes s rs n w1) (goes_all ss rs n None)) else (goes_all ss rs n (Some (label l)) w1))
      by_mark true e =
          subst (λ b. Like (Left g label rs n z st) (if b then (meaning.then_do (does s w) (does_all ss None)) else (does_all ss (Some l) w)) (if (running.has_own_label (label l) (route g.home g.temp g.callee label own s rs n)) then (then_do (goes s rs n w1) (goes_all ss rs n None)) else (goes_all ss rs n (Some (label l)) w1))) (sym e)
          (subst (λ b. Like (Left g label rs n z st) (meaning.then_do (does s w) (does_all ss None)) (if b then (then_do (goes s rs n w1) (goes_all ss rs n None)) else (goes_all ss rs n (Some (label l)) w1))) (sym (marks_same l s rs n ∙ e)) (more_follow s ss r rest rs n ok z st w w1 near same))
      by_mark false e =
          let is1 : meaning.stands l ss ≡ true = sym (ap (λ b. b || meaning.stands l ss) e) ∙ is in
          subst (λ b. Like (Left g label rs n z st) (if b then (meaning.then_do (does s w) (does_all ss None)) else (does_all ss (Some l) w)) (if (running.has_own_label (label l) (route g.home g.temp g.callee label own s rs n)) then (then_do (goes s rs n w1) (goes_all ss rs n None)) else (goes_all ss rs n (Some (label l)) w1))) (sym e)
          (subst (λ b. Like (Left g label rs n z st) (does_all ss (Some l) w) (if b then (then_do (goes s rs n w1) (goes_all ss rs n None)) else (goes_all ss rs n (Some (label l)) w1))) (sym (marks_same l s rs n ∙ e)) (from l is1 rs n ok.1 z st w w1 near same))

  -- at most k jumps within a list
  module _ (ss : Stmts) (from : FromFollow ss) (rs : List Around) (n : ℕ) (ok : AllReady g.M c.F c.C g.room gives ss n) (z : ℕ) (st : Store) where
    abbrev L : Post meaning.Course Course
    L = Left g label rs n z st

    abbrev land : ℕ → meaning.Course → World → meaning.Flow
    land k d w = meaning.landing k ss (λ l. does_all ss (Some l)) d w

    abbrev land1 : ℕ → Course → World → Flow
    land1 k d w = running.landing k (routes_of ss rs n) (λ l. goes_all ss rs n (Some l)) d w

    -- what a jump does, and what any course does
    abbrev Jump : ℕ → Type 0
    Jump k = (l : Text) (w w1 : World) → Near g z w w1 → Same g n st w1.state.store → Like L (land k (EflJumps l) w) (land1 k (Jumps (label l)) w1)

    stops : Jump zero
    stops l w w1 near same =
        subst (λ b. Like L (if (meaning.stands l ss) then (Halts GoesOn w) else (Gives (EflJumps l) w)) (if b then (Halts GoesOn w1) else (Gives (Jumps (label l)) w1))) (sym (stands_same l ss rs n)) (by_answer (meaning.stands l ss))
      where
        by_answer : (b : Bool) → Like L (if b then (Halts GoesOn w) else (Gives (EflJumps l) w)) (if b then (Halts GoesOn w1) else (Gives (Jumps (label l)) w1))
        by_answer true = record { by = (w1, refl, near_within g near) }
        by_answer false = record { by = (Jumps (label l), w1, refl, (refl, near, same)) }

    by_course : (k : ℕ) → Jump k → (d : meaning.Course) (w : World) (d1 : Course) (w1 : World) → CourseLike label rs d d1 → Near g z w w1 → Same g n st w1.state.store → Like L (land k d w) (land1 k d1 w1)
    by_course k jumps (EflJumps l) w d1 w1 is near same = subst (λ q. Like L (land k (EflJumps l) w) (land1 k q w1)) (sym is) (jumps l w w1 near same)
    by_course zero jumps (EflWent) w d1 w1 is near same = subst (λ q. Like L (land zero (EflWent) w) (land1 zero q w1)) (sym is) (record { by = (Went, w1, refl, (refl, near, same)) })
    by_course (suc k) jumps (EflWent) w d1 w1 is near same = subst (λ q. Like L (land (suc k) (EflWent) w) (land1 (suc k) q w1)) (sym is) (record { by = (Went, w1, refl, (refl, near, same)) })
    by_course zero jumps (EflBacks) w d1 w1 is near same = subst (λ q. Like L (land zero (EflBacks) w) (land1 zero q w1)) (sym is) (record { by = (Backs, w1, refl, (refl, near, same)) })
    by_course (suc k) jumps (EflBacks) w d1 w1 is near same = subst (λ q. Like L (land (suc k) (EflBacks) w) (land1 (suc k) q w1)) (sym is) (record { by = (Backs, w1, refl, (refl, near, same)) })
    by_course zero jumps (EflLeave i o) w d1 w1 is near same = subst (λ q. Like L (land zero (EflLeave i o) w) (land1 zero q w1)) (sym is) (record { by = (Leave (leave_depth rs o i), w1, refl, (refl, near, same)) })
    by_course (suc k) jumps (EflLeave i o) w d1 w1 is near same = subst (λ q. Like L (land (suc k) (EflLeave i o) w) (land1 (suc k) q w1)) (sym is) (record { by = (Leave (leave_depth rs o i), w1, refl, (refl, near, same)) })
    by_course zero jumps (EflAgain i o) w d1 w1 is near same = subst (λ q. Like L (land zero (EflAgain i o) w) (land1 zero q w1)) (sym is) (record { by = (Leave (again_depth rs o i), w1, refl, (refl, near, same)) })
    by_course (suc k) jumps (EflAgain i o) w d1 w1 is near same = subst (λ q. Like L (land (suc k) (EflAgain i o) w) (land1 (suc k) q w1)) (sym is) (record { by = (Leave (again_depth rs o i), w1, refl, (refl, near, same)) })

    goes_on : (k : ℕ) → ((d : meaning.Course) (w : World) (d1 : Course) (w1 : World) → L d w d1 w1 → Like L (land k d w) (land1 k d1 w1)) → Jump (suc k)
    goes_on k ih l w w1 near same =
        subst (λ b. Like L (if (meaning.stands l ss) then (bind (does_all ss (Some l) (counted w)) (land k)) else (Gives (EflJumps l) w)) (if b then (bind (goes_all ss rs n (Some (label l)) w1) (land1 k)) else (Gives (Jumps (label l)) w1))) (sym (stands_same l ss rs n)) (by_answer (meaning.stands l ss) refl)
      where
        by_answer : (b : Bool) → meaning.stands l ss ≡ b → Like L (if b then (bind (does_all ss (Some l) (counted w)) (land k)) else (Gives (EflJumps l) w)) (if b then (bind (goes_all ss rs n (Some (label l)) w1) (land1 k)) else (Gives (Jumps (label l)) w1))
        by_answer true e = like_bind (does_all ss (Some l) (counted w)) (goes_all ss rs n (Some (label l)) w1) (land k) (land1 k) (from l e rs n ok z st (counted w) w1 (near_less g (omega arith) (near_counted g near)) same) ih
        by_answer false e = record { by = (Jumps (label l), w1, refl, (refl, near, same)) }

    pub landing_follows : (k : ℕ) (d : meaning.Course) (w : World) (d1 : Course) (w1 : World) → L d w d1 w1 → Like L (land k d w) (land1 k d1 w1)
    landing_follows zero d w d1 w1 f = by_course zero stops d w d1 w1 f.0 f.1 f.2
    landing_follows (suc k) d w d1 w1 f = by_course (suc k) (goes_on k (landing_follows k)) d w d1 w1 f.0 f.1 f.2

  -- a list with the jumps within it
  pub list_follows : (ss : Stmts) → AllFollow ss → FromFollow ss → (rs : List Around) (n : ℕ) → AllReady g.M c.F c.C g.room gives ss n → (z : ℕ) (st : Store) (w w1 : World) → Near g z w w1 → Same g n st w1.state.store →
      Like (Left g label rs n z st) (meaning.all_meaning S g.from g.most ss w) (running.running T g.to g.most (route_tree.Block (routes_of ss rs n)) w1)
  list_follows ss all from rs n ok z st w w1 near same =
      like_bind (does_all ss None w) (goes_all ss rs n None w1) (land ss from rs n ok z st g.most) (land1 ss from rs n ok z st g.most) (all rs n ok z st w w1 near same) (landing_follows ss from rs n ok z st g.most)
