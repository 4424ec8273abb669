-- No statement is lost whose jumps, `break` and `next` have where to go, where no call is.
use Rattle.std.proofs.Common.{◌≡◌, ℕ, zero, suc, Bool, true, false, List, [], ◌∷◌, Option, None, Some, sym, true≢false, ⊎_elim, if◌then◌else◌}
use Rattle.std.specs.Prelude.{⊤, ◌⊎◌, pos, ℤ, nat_eq}
use Rattle.ground.specs.declared.place.Place.{Place}
use Rattle.ground.specs.declared.value.Kind.{Kind}
use Rattle.ground.specs.declared.value.Kind.TheVariants.{Integer}
use Rattle.ground.specs.Content.{Content, Whole}
use Rattle.f66_tree.specs.declared.editing.Way.TheVariants.{Reading, Writing}
use Rattle.f66_tree.specs.declared.expression.Operator.TheVariants.{Add, Le, Eq}
use Rattle.f66_tree.specs.Syntax.{Text}
use Rattle.f66_tree.specs.World.{Tape, World, Ended, GoesOn, Lost, Out, Gives, Halts, bind, Move, Moves, Breaks, Misses, moving, choose, counted}
use Rattle.f66_tree.specs.Records.{opened, due, put, take, closed}
use Rattle.f66_tree.specs.Evaluation.{asked, operate, truth_in}
use Rattle.f66_tree.specs.Statements.{taped, on_unit}
use Rattle.efl_tree.specs.declared.statement.LoopKind.{LoopKind}
use Rattle.efl_tree.specs.declared.statement.LoopKind.TheVariants as loop_kinds
use Rattle.efl_program.specs.Typed.{Expr, Action, Evaluate, Invoke, WriteItem, Value, Skip, Chars, ReadItem, Take, Pass, Stmt, Empty, Block, Act, If, IfElse, While, For, Repeat, RepeatUntil, Do, Switch, Break, Next, Return, Goto, Write, Read, Labelled, Stmts, NoStmt, AndStmt, Clauses, NoClause, AndClause}
use Rattle.efl_program.specs.Setting.{Spot, Setting, Frame, moved_to, base, moved, held, stored, store_at}
use Rattle.efl_program.specs.Meaning.{Course, Went, Jumps, Backs, Leave, Again, Flow, Continuation, after, then_do, leaves, turns_one, left, again, after_turn, turned, turns, stands, has_own_label, landing, decides, tested, performed, acts, returned, gives_back, in_limit, counts_on, fits_constant, put_all, take_all, run_from, meaning, all_meaning, picked, defaulted, writes, reads, values_in, spots_in, unit_of, store_all, value_or_one, written_by, read_by}
use Rattle.efl_program.specs.Scoped.{can_on, CanLeave, CanTurn, Down_any, Down_items, Down_taken, Act_any, Down_act, Down_in, Scoped, AllScoped, ClausesScoped}
use Rattle.efl_program.proofs.Kept.{KeptBy, Kept, Any, kept_settle, kept_gives, kept_then, value_kept, reach_kept, spots_kept, asks_kept}

-- a course that has where to go
abbrev pub Fine : List LoopKind → (Text → Type 0) → Course → Type 0
Fine ks R Went = ⊤
Fine ks R (Jumps l) = R l
Fine ks R Backs = ⊤
Fine ks R (Leave n o) = CanLeave ks o n
Fine ks R (Again n o) = CanTurn ks o n

-- a flow that is not lost, and has where to go
pub record Safe (ks : List LoopKind) (R : Text → Type 0) (o : Flow) : Type 0 where
  pub by : KeptBy (Fine ks R) o

safe_bind : {ks js : List LoopKind} {R Q : Text → Type 0} (o : Flow) {go : Course → World → Flow} → Safe ks R o → ((c : Course) (w : World) → Fine ks R c → Safe js Q (go c w)) → Safe js Q (bind o go)
safe_bind (Gives c w) h k = k c w h.by
safe_bind (Halts (Ended e) w) h k = record { by = tt }
safe_bind (Halts GoesOn w) h k = record { by = tt }
safe_bind (Halts Lost w) h k = absurd h.by

-- a part that gives something else, and a flow behind it
bind_safe : {ks : List LoopKind} {R : Text → Type 0} {A : Type 0} {o : Out A} {go : A → World → Flow} → Kept Any o → ((a : A) (w : World) → Safe ks R (go a w)) → Safe ks R (bind o go)
bind_safe {o = Gives a w} h k = k a w
bind_safe {o = Halts (Ended e) w} h k = record { by = tt }
bind_safe {o = Halts GoesOn w} h k = record { by = tt }
bind_safe {o = Halts Lost w} h k = absurd h.by

went_kept : {ks : List LoopKind} {R : Text → Type 0} {w : World} → Safe ks R (Gives Went w)
went_kept = record { by = tt }

choice_kept : {ks : List LoopKind} {R : Text → Type 0} (b : Bool) {x y : Flow} → Safe ks R x → Safe ks R y → Safe ks R (choose b x y)
choice_kept true h k = h
choice_kept false h k = k

if_safe : {ks : List LoopKind} {R : Text → Type 0} (b : Bool) {x y : Flow} → Safe ks R x → Safe ks R y → Safe ks R (if b then x else y)
if_safe true h k = h
if_safe false h k = k

then_kept : {ks : List LoopKind} {R : Text → Type 0} (o : Flow) {go : Continuation} → Safe ks R o → ((w : World) → Safe ks R (go w)) → Safe ks R (then_do o go)
then_kept {ks} {R} o {go} h k = safe_bind o h by_course
  where
    by_course : (c : Course) (w : World) → Fine ks R c → Safe ks R (after go c w)
    by_course Went w is = k w
    by_course (Jumps l) w is = record { by = is }
    by_course Backs w is = record { by = tt }
    by_course (Leave n o1) w is = record { by = is }
    by_course (Again n o1) w is = record { by = is }

turned_kept : {ks : List LoopKind} {R : Text → Type 0} (k : LoopKind) (o : Flow) {go : Continuation} → Safe (k ∷ ks) R o → ((w : World) → Safe ks R (go w)) → Safe ks R (turned k o go)
turned_kept {ks} {R} k o {go} h j = safe_bind o h by_course
  where
    by_leave : (b : Bool) (n : ℕ) (o1 : Option LoopKind) (w : World) → can_on b n (CanLeave ks o1) → Safe ks R (if b then (left n o1 w) else (Gives (Leave n o1) w))
    by_leave true zero o1 w is = record { by = tt }
    by_leave true (suc n) o1 w is = record { by = is }
    by_leave false n o1 w is = record { by = is }

    by_again : (b : Bool) (n : ℕ) (o1 : Option LoopKind) (w : World) → can_on b n (CanTurn ks o1) → Safe ks R (if b then (again go n o1 w) else (Gives (Again n o1) w))
    by_again true zero o1 w is = j w
    by_again true (suc n) o1 w is = record { by = is }
    by_again false n o1 w is = record { by = is }

    by_course : (c : Course) (w : World) → Fine (k ∷ ks) R c → Safe ks R (after_turn k go c w)
    by_course Went w is = j w
    by_course (Jumps l) w is = record { by = is }
    by_course Backs w is = record { by = tt }
    by_course (Leave n o1) w is = by_leave (leaves o1 k) n o1 w is
    by_course (Again n o1) w is = by_again (turns_one o1 k) n o1 w is

-- at most n turns of a loop
turns_kept : {ks : List LoopKind} {R : Text → Type 0} (k : LoopKind) (n : ℕ) {top : Continuation → Continuation → Continuation} {body : Continuation} {bottom : Continuation → Continuation → Continuation} → ((yea nay : Continuation) → ((w : World) → Safe ks R (yea w)) → ((w : World) → Safe ks R (nay w)) → (w : World) → Safe ks R (top yea nay w)) →
    ((w : World) → Safe (k ∷ ks) R (body w)) → ((go out : Continuation) → ((w : World) → Safe ks R (go w)) → ((w : World) → Safe ks R (out w)) → (w : World) → Safe ks R (bottom go out w)) → (w : World) → Safe ks R (turns k n top body bottom w)
turns_kept k zero t h c w = t _ _ (λ u. record { by = tt }) (λ u. went_kept) w
turns_kept k (suc n) t h c w = t _ _ (λ u. turned_kept k _ (h (counted u)) (λ u1. c _ _ (turns_kept k n t h c) (λ u2. went_kept) u1)) (λ u. went_kept) w

-- a list with the jumps within it
landing_kept : {ks : List LoopKind} {R : Text → Type 0} (n : ℕ) (ss : Stmts) (go : Text → Continuation) → ((l : Text) (w : World) → Safe ks (λ m. (stands m ss ≡ true) ⊎ R m) (go l w)) → (c : Course) (w : World) → Fine ks (λ m. (stands m ss ≡ true) ⊎ R m) c → Safe ks R (landing n ss go c w)
landing_kept {ks} {R} zero ss go h (Jumps l) w is = by_answer (stands l ss) is
  where
    by_answer : (b : Bool) → (b ≡ true) ⊎ R l → Safe ks R (if b then (Halts GoesOn w) else (Gives (Jumps l) w))
    by_answer true e = record { by = tt }
    by_answer false e = record { by = ⊎_elim (λ (x : false ≡ true). absurd (true≢false (sym x))) (λ (x : R l). x) e }
landing_kept {ks} {R} (suc n) ss go h (Jumps l) w is = by_answer (stands l ss) is (safe_bind (go l (counted w)) (h l (counted w)) (landing_kept n ss go h))
  where
    by_answer : (b : Bool) → (b ≡ true) ⊎ R l → Safe ks R (bind (go l (counted w)) (landing n ss go)) → Safe ks R (if b then (bind (go l (counted w)) (landing n ss go)) else (Gives (Jumps l) w))
    by_answer true e k = k
    by_answer false e k = record { by = ⊎_elim (λ (x : false ≡ true). absurd (true≢false (sym x))) (λ (x : R l). x) e }
landing_kept zero ss go h Went w is = record { by = tt }
landing_kept (suc n) ss go h Went w is = record { by = tt }
landing_kept zero ss go h Backs w is = record { by = tt }
landing_kept (suc n) ss go h Backs w is = record { by = tt }
landing_kept zero ss go h (Leave i o) w is = record { by = is }
landing_kept (suc n) ss go h (Leave i o) w is = record { by = is }
landing_kept zero ss go h (Again i o) w is = record { by = is }
landing_kept (suc n) ss go h (Again i o) w is = record { by = is }

kept_taped : (p : Place) (h : Tape → Move) (w : World) → Kept Any (taped p h w)
kept_taped p h w = by_move (h w.state.tape)
  where
    by_move : (m : Move) → Kept Any (moving p m w)
    by_move (Moves t) = record { by = tt }
    by_move (Breaks e t) = record { by = tt }
    by_move Misses = record { by = tt }

kept_puts : (p : Place) (vs : List (Kind × Content)) (w : World) → Kept Any (put_all p vs w)
kept_puts p [] w = record { by = tt }
kept_puts p (v ∷ vs) w = kept_then (kept_taped p (due v.0) w) (λ _ u. kept_then (kept_taped p (put v.1) u) (λ _ u1. kept_puts p vs u1))

kept_takes : (p : Place) (xs : List (Kind × Spot)) (w : World) → Kept Any (take_all p xs w)
kept_takes p [] w = record { by = tt }
kept_takes p (x ∷ xs) w =
    kept_then (kept_taped p (due x.0) w) (λ _ u. kept_then (kept_then (kept_settle p _ (take u.state.tape)) (λ r u1. kept_gives)) (λ k u1. kept_then (kept_takes p xs u1) (λ ks u2. kept_gives)))

module _ (s : Setting) (D : ℕ → Type 0) (calls : (v : ℕ) → D v → (ps : List Spot) (w : World) → Kept Any (s.call v ps w)) (f : Frame) (b : ℕ) where
  abbrev at : Place → Frame
  at p = moved_to p f

  acts_kept : (p : Place) (a : Action) → Down_act D a → (w : World) → Kept Any (acts s f p a w)
  acts_kept p (Evaluate e) ok w = kept_then (value_kept s D calls (at p) e ok w) (λ v u. kept_gives)
  acts_kept p (Invoke v es) ok w = kept_then (spots_kept s D calls (at p) es ok.1 (counted w)) (λ ps u. calls v ok.0 ps u)

  stored_kept : (p : Place) (q : Spot) (x : Content) (w : World) → Kept Any (store_at s (at p) q x w)
  stored_kept p q x w = kept_then (kept_settle p w (stored s.linked q x w.state.store)) (λ st u. kept_gives)

  items_kept : (p : Place) (xs : List WriteItem) → Down_items D xs → (w : World) → Kept Any (values_in s f p xs w)
  items_kept p [] ok w = kept_gives
  items_kept p (Value e d ∷ xs) ok w = kept_then (value_kept s D calls (at p) e ok.0 (counted (counted w))) (λ v u. kept_then (items_kept p xs ok.1 u) (λ vs u1. kept_gives))
  items_kept p (Skip i ∷ xs) ok w = items_kept p xs ok (counted w)
  items_kept p (Chars t ∷ xs) ok w = items_kept p xs ok (counted w)

  taken_kept : (p : Place) (xs : List ReadItem) → Down_taken D xs → (w : World) → Kept Any (spots_in s f p xs w)
  taken_kept p [] ok w = kept_gives
  taken_kept p (Take x d ∷ xs) ok w = kept_then (reach_kept s D calls (at p) x ok.0 (counted (counted w))) (λ r u. kept_then (kept_settle p u (moved s.linked r.from r.on)) (λ q u1. kept_then (taken_kept p xs ok.1 u1) (λ qs u2. kept_gives)))
  taken_kept p (Pass i ∷ xs) ok w = taken_kept p xs ok (counted w)

  unit_kept : (p : Place) (z : ℤ) (o : Option Expr) → Down_any D o → (w : World) → Kept Any (unit_of s f p z o w)
  unit_kept p z None ok w = kept_gives
  unit_kept p z (Some e) ok w = value_kept s D calls (at p) e ok w

  by_kept : (p : Place) (o : Option Expr) → Down_any D o → (w : World) → Kept Any (value_or_one s f p o w)
  by_kept p None ok w = kept_gives
  by_kept p (Some e) ok w = value_kept s D calls (at p) e ok w

  module _ {ks : List LoopKind} {R : Text → Type 0} where
    decides_safe : (p : Place) (e : Expr) → Down_in D e → (yea nay : Continuation) → ((w : World) → Safe ks R (yea w)) → ((w : World) → Safe ks R (nay w)) → (w : World) → Safe ks R (decides s f p e yea nay w)
    decides_safe p e ok yea nay h k w = bind_safe (asks_kept s D calls (at p) e ok w) (λ t u. choice_kept t (h u) (k u))

    tested_safe : (p : Place) (o : Option Expr) → Down_any D o → (yea nay : Continuation) → ((w : World) → Safe ks R (yea w)) → ((w : World) → Safe ks R (nay w)) → (w : World) → Safe ks R (tested s f p o yea nay w)
    tested_safe p None ok yea nay h k w = h w
    tested_safe p (Some e) ok yea nay h k w = decides_safe p e ok yea nay h k w

    performed_safe : (p : Place) (o : Option Action) → Act_any D o → (go : Continuation) → ((w : World) → Safe ks R (go w)) → (w : World) → Safe ks R (performed s f p o go w)
    performed_safe p None ok go h w = h w
    performed_safe p (Some a) ok go h w = bind_safe (acts_kept p a ok w) (λ _ u. h u)

    limit_safe : (p : Place) (v : ℕ) (k : Content) (yea nay : Continuation) → ((w : World) → Safe ks R (yea w)) → ((w : World) → Safe ks R (nay w)) → (w : World) → Safe ks R (in_limit s f p v k yea nay w)
    limit_safe p v k yea nay h j w =
        bind_safe (kept_then (kept_settle p w (base s f v)) (λ q u. kept_then (kept_settle p u (asked Integer (held s.linked q u.state.store))) (λ x u1. kept_settle p u1 (operate Le x k)))) (λ t u. bind_safe (kept_settle p u (truth_in t)) (λ x u1. choice_kept x (h u1) (j u1)))

    step_safe : (p : Place) (v : ℕ) (k : Content) (go out : Continuation) → ((w : World) → Safe ks R (go w)) → ((w : World) → Safe ks R (out w)) → (w : World) → Safe ks R (counts_on s f p v k go out w)
    step_safe p v k go out h j w =
        bind_safe (kept_then (kept_settle p w (base s f v)) (λ q u. kept_then (kept_settle p u (asked Integer (held s.linked q u.state.store))) (λ x u1. kept_settle p u1 (operate Add x k)))) (λ x u. bind_safe (kept_settle p u (base s f v)) (λ q u1. bind_safe (stored_kept p q x u1) (λ _ u2. h u2)))

    fits_safe : (p : Place) (v : Content) (cs : List ℤ) (yea nay : Continuation) → ((w : World) → Safe ks R (yea w)) → ((w : World) → Safe ks R (nay w)) → (w : World) → Safe ks R (fits_constant s f p v cs yea nay w)
    fits_safe p v [] yea nay h k w = k w
    fits_safe p v (c ∷ cs) yea nay h k w = bind_safe (kept_settle p (counted w) (operate Eq v (Whole c))) (λ t u. bind_safe (kept_settle p u (truth_in t)) (λ x u1. choice_kept x (h u1) (fits_safe p v cs yea nay h k u1)))

    returned_safe : (t : Bool) (w : World) → Safe ks R (returned s f t w)
    returned_safe true w = record { by = tt }
    returned_safe false w = record { by = tt }

    gives_safe : (p : Place) (o : Option Expr) → Down_any D o → (w : World) → Safe ks R (gives_back s f p o w)
    gives_safe p None ok w = returned_safe (nat_eq f.unit s.linked.main) w
    gives_safe p (Some e) ok w = bind_safe (value_kept s D calls (at p) e ok w) (λ v u. returned_safe (nat_eq f.unit s.linked.main) _)

    went_at : (w : World) → Safe ks R (Gives Went w)
    went_at w = record { by = tt }

    all_stored : (p : Place) (xs : List (Spot × Content)) (w : World) → Safe ks R (store_all s f p xs w)
    all_stored p [] w = record { by = tt }
    all_stored p (x ∷ xs) w = bind_safe (stored_kept p x.0 x.1 w) (λ _ u. all_stored p xs u)

    writes_safe : (p : Place) (o : Option Expr) (xs : List WriteItem) → Down_any D o → Down_items D xs → (w : World) → Safe ks R (writes s f p o xs w)
    writes_safe p o xs ok1 ok2 w =
        bind_safe (unit_kept p (pos 6) o ok1 w) (λ z u. bind_safe (items_kept p xs ok2 u) (λ vs u1. bind_safe (kept_settle p u1 (on_unit Writing z)) (λ _ u2.
        bind_safe (kept_taped p (opened Writing (written_by xs)) u2) (λ _ u3. bind_safe (kept_puts p vs u3) (λ _ u4. bind_safe (kept_taped p closed u4) (λ _ u5. went_at u5))))))

    reads_safe : (p : Place) (o : Option Expr) (xs : List ReadItem) → Down_any D o → Down_taken D xs → (w : World) → Safe ks R (reads s f p o xs w)
    reads_safe p o xs ok1 ok2 w =
        bind_safe (unit_kept p (pos 5) o ok1 w) (λ z u. bind_safe (taken_kept p xs ok2 u) (λ qs u1. bind_safe (kept_settle p u1 (on_unit Reading z)) (λ _ u2.
        bind_safe (kept_taped p (opened Reading (read_by xs)) u2) (λ _ u3. bind_safe (kept_takes p qs u3) (λ cs u4. bind_safe (kept_taped p closed u4) (λ _ u5. all_stored p cs u5))))))

  abbrev Own : Stmts → (Text → Type 0) → Text → Type 0
  Own ss R l = (stands l ss ≡ true) ⊎ R l

  landed_safe : (ss : Stmts) (ks : List LoopKind) (R : Text → Type 0) → ((w : World) → Safe ks (Own ss R) (run_from s f b ss None w)) → ((l : Text) (w : World) → Safe ks (Own ss R) (run_from s f b ss (Some l) w)) → (w : World) → Safe ks R (all_meaning s f b ss w)
  landed_safe ss ks R h k w = safe_bind _ (h w) (landing_kept b ss _ k)

  mutual
    pub statement_safe : (c : Stmt) (ks : List LoopKind) (R : Text → Type 0) → Scoped D c ks R → (w : World) → Safe ks R (meaning s f b c w)
    statement_safe (Empty p) ks R ok w = record { by = tt }
    statement_safe (Block p ss) ks R ok w = landed_safe ss ks R (from_safe ss None ks (Own ss R) ok) (λ l. from_safe ss (Some l) ks (Own ss R) ok) (counted w)
    statement_safe (Act p a) ks R ok w = bind_safe (acts_kept p a ok (counted w)) (λ _ u. record { by = tt })
    statement_safe (If p e c) ks R ok w = decides_safe p e ok.0 _ _ (statement_safe c ks R ok.1) (λ u. record { by = tt }) (counted w)
    statement_safe (IfElse p e c d) ks R ok w = decides_safe p e ok.0 _ _ (statement_safe c ks R ok.1) (statement_safe d ks R ok.2) (counted w)
    statement_safe (While p e c) ks R ok w = turns_kept loop_kinds.While b (λ yea nay h k u. tested_safe p (Some e) ok.0 yea nay h k u) (statement_safe c (loop_kinds.While ∷ ks) R ok.1) (λ go out h k u. h u) (counted w)
    statement_safe (For p a e d c) ks R ok w =
        performed_safe p a ok.0 _ (λ u. turns_kept loop_kinds.For b (λ yea nay h k u1. tested_safe p e ok.1 yea nay h k u1) (statement_safe c (loop_kinds.For ∷ ks) R ok.3) (λ go out h k u1. performed_safe p d ok.2 go h u1) u) (counted w)
    statement_safe (Repeat p c) ks R ok w = turns_kept loop_kinds.Repeat b (λ yea nay h k u. h u) (statement_safe c (loop_kinds.Repeat ∷ ks) R ok) (λ go out h k u. h u) (counted w)
    statement_safe (RepeatUntil p c e q) ks R ok w = turns_kept loop_kinds.Repeat b (λ yea nay h k u. h u) (statement_safe c (loop_kinds.Repeat ∷ ks) R ok.1) (λ go out h k u. decides_safe q e ok.0 out go k h u) (counted w)
    statement_safe (Do p v a z d c) ks R ok w =
        bind_safe (value_kept s D calls (at p) z ok.1 (counted w)) (λ limit u. bind_safe (by_kept p d ok.2 u) (λ by u1. bind_safe (kept_settle p u1 (base s f v)) (λ q u2.
        bind_safe (value_kept s D calls (at p) a ok.0 u2) (λ x u3. bind_safe (stored_kept p q x u3) (λ _ u4.
        turns_kept loop_kinds.Do b (λ yea nay h k u5. limit_safe p v limit yea nay h k u5) (statement_safe c (loop_kinds.Do ∷ ks) R ok.3) (λ go out h k u5. step_safe p v by go out h k u5) u4)))))
    statement_safe (Switch p e cs) ks R ok w = bind_safe (value_kept s D calls (at p) e ok.0 (counted w)) (λ v u. turned_kept loop_kinds.Switch _ (picked_safe cs (loop_kinds.Switch ∷ ks) R ok.1 p v _ (default_safe cs (loop_kinds.Switch ∷ ks) R ok.1) u) (λ u1. record { by = tt }))
    statement_safe (Break p n o) ks R ok w = record { by = ok }
    statement_safe (Next p n o) ks R ok w = record { by = ok }
    statement_safe (Return p e) ks R ok w = gives_safe p e ok (counted w)
    statement_safe (Goto p l) ks R ok w = record { by = ok }
    statement_safe (Write p u xs) ks R ok w = writes_safe p u xs ok.0 ok.1 (counted w)
    statement_safe (Read p u xs) ks R ok w = reads_safe p u xs ok.0 ok.1 (counted w)
    statement_safe (Labelled l p c) ks R ok w = statement_safe c ks R ok (counted w)

    from_safe : (ss : Stmts) (o : Option Text) (ks : List LoopKind) (R : Text → Type 0) → AllScoped D ss ks R → (w : World) → Safe ks R (run_from s f b ss o w)
    from_safe NoStmt o ks R ok w = record { by = tt }
    from_safe (AndStmt c ss) None ks R ok w = then_kept _ (statement_safe c ks R ok.0 w) (from_safe ss None ks R ok.1)
    from_safe (AndStmt c ss) (Some l) ks R ok w = if_safe (has_own_label l c) (then_kept _ (statement_safe c ks R ok.0 w) (from_safe ss None ks R ok.1)) (from_safe ss (Some l) ks R ok.1 w)

    picked_safe : (cs : Clauses) (ks : List LoopKind) (R : Text → Type 0) → ClausesScoped D cs ks R → (p : Place) (v : Content) (other : Continuation) → ((w : World) → Safe ks R (other w)) → (w : World) → Safe ks R (picked s f b p v cs other w)
    picked_safe NoClause ks R ok p v other h w = h w
    picked_safe (AndClause es fallback ss q cs) ks R ok p v other h w = fits_safe p v es _ _ (landed_safe ss ks R (from_safe ss None ks (Own ss R) ok.0) (λ l. from_safe ss (Some l) ks (Own ss R) ok.0)) (picked_safe cs ks R ok.1 p v other h) w

    default_safe : (cs : Clauses) (ks : List LoopKind) (R : Text → Type 0) → ClausesScoped D cs ks R → (w : World) → Safe ks R (defaulted s f b cs w)
    default_safe NoClause ks R ok w = record { by = tt }
    default_safe (AndClause es fallback ss q cs) ks R ok w = if_safe fallback (landed_safe ss ks R (from_safe ss None ks (Own ss R) ok.0) (λ l. from_safe ss (Some l) ks (Own ss R) ok.0) w) (default_safe cs ks R ok.1 w)

  pub list_safe : (ss : Stmts) (ks : List LoopKind) (R : Text → Type 0) → AllScoped D ss ks (Own ss R) → (w : World) → Safe ks R (all_meaning s f b ss w)
  list_safe ss ks R ok w = landed_safe ss ks R (from_safe ss None ks (Own ss R) ok) (λ l. from_safe ss (Some l) ks (Own ss R) ok) w
