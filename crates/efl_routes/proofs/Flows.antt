-- What it means that a route is left as the source's statement is, and what rings and lists with labels make of it.
use Rattle.std.proofs.Common.{◌≡◌, ℕ, zero, suc, ◌≤◌, Bool, true, false, List, ◌∷◌, refl, sym, ap, subst, if◌then◌else◌}
use Rattle.f66_tree.specs.Syntax.{Text}
use Rattle.f66_tree.specs.World.{Store, World, Ended, GoesOn, Lost, Out, Gives, Halts, bind}
use Rattle.efl_tree.specs.declared.statement.LoopKind.{LoopKind}
use Rattle.efl_tree.specs.declared.statement.LoopKind.TheVariants as loop_kinds
use Rattle.efl_program.specs.Meaning as efl
use Rattle.efl_program.specs.Meaning.{Leave as EflLeave, Again as EflAgain, Went as EflWent, Jumps as EflJumps, Backs as EflBacks, leaves, turns_one, turned, after_turn}
use Rattle.routes.specs.Running.{Course, Went, Jumps, Backs, Leave, Flow, Continuation, then_do, ringed, after_ring}
use Rattle.efl_routes.specs.Statements.{Around, Other, Behind, Next, on_match, leave_depth, again_depth}
use Rattle.efl_routes.proofs.Like.{Post, Like, like_bind}
use Rattle.efl_routes.proofs.Near.{Sides, Near, Same, near_less}

-- the courses of the source, and those of the routes within these rings
abbrev pub CourseLike : (Text → ℕ) → List Around → efl.Course → Course → Type 0
CourseLike label rs EflWent c = c ≡ Went
CourseLike label rs (EflJumps l) c = c ≡ Jumps (label l)
CourseLike label rs EflBacks c = c ≡ Backs
CourseLike label rs (EflLeave n o) c = c ≡ Leave (leave_depth rs o n)
CourseLike label rs (EflAgain n o) c = c ≡ Leave (again_depth rs o n)

-- the results of the source come on as they are
pub like_on : {A C D : Type 0} {P : Post A C} {Q : Post A D} (o : Out A) (t : Out C) (J : C → World → Out D) → Like P o t → ((a : A) (w : World) (c : C) (w1 : World) → P a w c w1 → Like Q (Gives a w) (J c w1)) → Like Q o (bind t J)
like_on {Q = Q} (Gives a w) t J h k = subst (λ q. Like Q (Gives a w) (bind q J)) (sym h.by.2) (k a w h.by.0 h.by.1 h.by.3)
like_on (Halts (Ended e) w) t J h k = record { by = (h.by.0, ap (λ q. bind q J) h.by.1, h.by.2) }
like_on (Halts GoesOn w) t J h k = record { by = (h.by.0, ap (λ q. bind q J) h.by.1, h.by.2) }
like_on (Halts Lost w) t J h k = record { by = tt }

-- what more is known of the results
pub like_as : {A C : Type 0} {P Q : Post A C} (o : Out A) (t : Out C) → Like P o t → ((a : A) (w : World) (c : C) (w1 : World) → P a w c w1 → Q a w c w1) → Like Q o t
like_as (Gives a w) t h k = record { by = (h.by.0, h.by.1, h.by.2, k a w h.by.0 h.by.1 h.by.3) }
like_as (Halts (Ended e) w) t h k = record { by = (h.by.0, h.by.1, h.by.2) }
like_as (Halts GoesOn w) t h k = record { by = (h.by.0, h.by.1, h.by.2) }
like_as (Halts Lost w) t h k = record { by = tt }

module _ (g : Sides) (label : Text → ℕ) where
  -- left so, with z more statements that may begin, and with n temporaries that hold the same
  abbrev pub Left : List Around → ℕ → ℕ → Store → Post efl.Course Course
  Left rs n z st c w c1 w1 = CourseLike label rs c c1 × Near g z w w1 × Same g n st w1.state.store

  pub went_on : Continuation
  went_on w = Gives Went w

  -- behind a ring of no statement
  pub ring_course : (rs : List Around) (n z : ℕ) (st : Store) (c : efl.Course) (w : World) (c1 : Course) (w1 : World) → Left (Other ∷ rs) n z st c w c1 w1 → Like (Left rs n z st) (Gives c w) (after_ring (λ u. Gives Went u) c1 w1)
  ring_course rs n z st EflWent w c1 w1 f = record { by = (Went, w1, ap (λ d. after_ring (λ u. Gives Went u) d w1) f.0, (refl, f.1, f.2)) }
  ring_course rs n z st (EflJumps l) w c1 w1 f = record { by = (Jumps (label l), w1, ap (λ d. after_ring (λ u. Gives Went u) d w1) f.0, (refl, f.1, f.2)) }
  ring_course rs n z st EflBacks w c1 w1 f = record { by = (Backs, w1, ap (λ d. after_ring (λ u. Gives Went u) d w1) f.0, (refl, f.1, f.2)) }
  ring_course rs n z st (EflLeave i o1) w c1 w1 f = record { by = (Leave (leave_depth rs o1 i), w1, ap (λ d. after_ring (λ u. Gives Went u) d w1) f.0, (refl, f.1, f.2)) }
  ring_course rs n z st (EflAgain i o1) w c1 w1 f = record { by = (Leave (again_depth rs o1 i), w1, ap (λ d. after_ring (λ u. Gives Went u) d w1) f.0, (refl, f.1, f.2)) }

  pub ring_left : (rs : List Around) (n z : ℕ) (st : Store) (o : efl.Flow) (t : Flow) → Like (Left (Other ∷ rs) n z st) o t → Like (Left rs n z st) o (ringed t (λ w. Gives Went w))
  ring_left rs n z st o t h = like_on o t (after_ring (λ w. Gives Went w)) h (ring_course rs n z st)

  -- The statements of a loop, what stands behind each turn, and the next turn.
  pub turn_left : (rs : List Around) (n z y : ℕ) (st : Store) (k : LoopKind) (o : efl.Flow) (t : Flow) (go : efl.Continuation) (step more : Continuation) → Like (Left (Next k ∷ Behind k ∷ rs) n y st) o t → z ≤ y →
      ((w w1 : World) → Near g y w w1 → Same g n st w1.state.store → Like (Left rs n z st) (go w) (ringed (step w1) more)) → Like (Left rs n z st) (turned k o go) (ringed (then_do (ringed t (λ w. Gives Went w)) step) more)
  turn_left rs n z y st k o t go step more h le j =
      subst (λ q. Like (Left rs n z st) (turned k o go) q) (spread t)
      (like_bind o t (after_turn k go) (λ c w1. ringed (then_do (after_ring (λ u. Gives Went u) c w1) step) more) h by_course)
    where
      spread : (q : Flow) → bind q (λ c w1. ringed (then_do (after_ring (λ u. Gives Went u) c w1) step) more) ≡ ringed (then_do (ringed q (λ w. Gives Went w)) step) more
      spread (Gives c w) = refl
      spread (Halts e w) = refl

      by_course : (c : efl.Course) (w : World) (c1 : Course) (w1 : World) → Left (Next k ∷ Behind k ∷ rs) n y st c w c1 w1 → Like (Left rs n z st) (after_turn k go c w) (ringed (then_do (after_ring (λ u. Gives Went u) c1 w1) step) more)
      by_course EflWent w c1 w1 f = subst (λ d. Like (Left rs n z st) (go w) (ringed (then_do (after_ring (λ u. Gives Went u) d w1) step) more)) (sym f.0) (j w w1 f.1 f.2)
      by_course (EflJumps l) w c1 w1 f = record { by = (Jumps (label l), w1, ap (λ d. ringed (then_do (after_ring (λ u. Gives Went u) d w1) step) more) f.0, (refl, near_less g le f.1, f.2)) }
      by_course EflBacks w c1 w1 f = record { by = (Backs, w1, ap (λ d. ringed (then_do (after_ring (λ u. Gives Went u) d w1) step) more) f.0, (refl, near_less g le f.1, f.2)) }
      by_course (EflLeave i o1) w c1 w1 f = by_match (leaves o1 k) i f.0
        where
          by_match : (b : Bool) (i1 : ℕ) → c1 ≡ Leave (suc (on_match b i1 (leave_depth rs o1))) → Like (Left rs n z st) (if b then (efl.left i1 o1 w) else (Gives (EflLeave i1 o1) w)) (ringed (then_do (after_ring (λ u. Gives Went u) c1 w1) step) more)
          by_match true zero e = record { by = (Went, w1, ap (λ d. ringed (then_do (after_ring (λ u. Gives Went u) d w1) step) more) e, (refl, near_less g le f.1, f.2)) }
          by_match true (suc i1) e = record { by = (Leave (leave_depth rs o1 i1), w1, ap (λ d. ringed (then_do (after_ring (λ u. Gives Went u) d w1) step) more) e, (refl, near_less g le f.1, f.2)) }
          by_match false i1 e = record { by = (Leave (leave_depth rs o1 i1), w1, ap (λ d. ringed (then_do (after_ring (λ u. Gives Went u) d w1) step) more) e, (refl, near_less g le f.1, f.2)) }
      by_course (EflAgain i o1) w c1 w1 f = by_match (turns_one o1 k) i f.0
        where
          by_match : (b : Bool) (i1 : ℕ) → c1 ≡ Leave (on_match b i1 (λ i2. suc (again_depth rs o1 i2))) → Like (Left rs n z st) (if b then (efl.again go i1 o1 w) else (Gives (EflAgain i1 o1) w)) (ringed (then_do (after_ring (λ u. Gives Went u) c1 w1) step) more)
          by_match true zero e = subst (λ d. Like (Left rs n z st) (go w) (ringed (then_do (after_ring (λ u. Gives Went u) d w1) step) more)) (sym e) (j w w1 f.1 f.2)
          by_match true (suc i1) e = record { by = (Leave (again_depth rs o1 i1), w1, ap (λ d. ringed (then_do (after_ring (λ u. Gives Went u) d w1) step) more) e, (refl, near_less g le f.1, f.2)) }
          by_match false i1 e = record { by = (Leave (again_depth rs o1 i1), w1, ap (λ d. ringed (then_do (after_ring (λ u. Gives Went u) d w1) step) more) e, (refl, near_less g le f.1, f.2)) }

  -- behind a switch
  pub switch_left : (rs : List Around) (n z : ℕ) (st : Store) (o : efl.Flow) (t : Flow) → Like (Left (Behind loop_kinds.Switch ∷ rs) n z st) o t → Like (Left rs n z st) (turned loop_kinds.Switch o efl.went) (ringed t (λ w. Gives Went w))
  switch_left rs n z st o t h = like_bind o t (after_turn loop_kinds.Switch efl.went) (after_ring (λ w. Gives Went w)) h by_course
    where
      by_course : (c : efl.Course) (w : World) (c1 : Course) (w1 : World) → Left (Behind loop_kinds.Switch ∷ rs) n z st c w c1 w1 → Like (Left rs n z st) (after_turn loop_kinds.Switch efl.went c w) (after_ring (λ u. Gives Went u) c1 w1)
      by_course EflWent w c1 w1 f = record { by = (Went, w1, ap (λ d. after_ring (λ u. Gives Went u) d w1) f.0, (refl, f.1, f.2)) }
      by_course (EflJumps l) w c1 w1 f = record { by = (Jumps (label l), w1, ap (λ d. after_ring (λ u. Gives Went u) d w1) f.0, (refl, f.1, f.2)) }
      by_course EflBacks w c1 w1 f = record { by = (Backs, w1, ap (λ d. after_ring (λ u. Gives Went u) d w1) f.0, (refl, f.1, f.2)) }
      by_course (EflLeave i o1) w c1 w1 f = by_match (leaves o1 loop_kinds.Switch) i f.0
        where
          by_match : (b : Bool) (i1 : ℕ) → c1 ≡ Leave (on_match b i1 (leave_depth rs o1)) → Like (Left rs n z st) (if b then (efl.left i1 o1 w) else (Gives (EflLeave i1 o1) w)) (after_ring (λ u. Gives Went u) c1 w1)
          by_match true zero e = record { by = (Went, w1, ap (λ d. after_ring (λ u. Gives Went u) d w1) e, (refl, f.1, f.2)) }
          by_match true (suc i1) e = record { by = (Leave (leave_depth rs o1 i1), w1, ap (λ d. after_ring (λ u. Gives Went u) d w1) e, (refl, f.1, f.2)) }
          by_match false i1 e = record { by = (Leave (leave_depth rs o1 i1), w1, ap (λ d. after_ring (λ u. Gives Went u) d w1) e, (refl, f.1, f.2)) }
      by_course (EflAgain i o1) w c1 w1 f = record { by = (Leave (again_depth rs o1 i), w1, ap (λ d. after_ring (λ u. Gives Went u) d w1) f.0, (refl, f.1, f.2)) }
