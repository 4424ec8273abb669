-- The same induction for statements: the place p of a statement is g p on the second side, whose bound may be greater.
use Rattle.std.proofs.Common.{◌≡◌, ℕ, zero, suc, ◌+◌, ◌≤◌, ◌<◌, Bool, true, false, List, [], ◌∷◌, Option, Some, None, refl, sym, ap, ◌∙◌, subst, arith}
use Rattle.std.specs.Prelude.{ℤ, pos, nat_eq, ◌||◌, if◌then◌else◌, ⊤}
use Rattle.std.specs.Str.{bytes_eq}
use Rattle.ground.specs.declared.place.Place.{Place}
use Rattle.ground.specs.declared.value.Kind.{Kind}
use Rattle.ground.specs.declared.value.Kind.TheVariants.{Integer}
use Rattle.ground.specs.Content.{Content, Whole}
use Rattle.f66_tree.specs.declared.editing.Way.TheVariants.{Reading, Writing}
use Rattle.f66_tree.specs.declared.expression.Operator.TheVariants.{Add, Le, Eq}
use Rattle.f66_tree.specs.Syntax.{Text}
use Rattle.f66_tree.specs.World.{World, Done, Ended, GoesOn, Lost, Out, Gives, Halts, bind, settle, choose, counted, put_in, Try}
use Rattle.f66_tree.specs.Records.{opened, due, put, take, closed}
use Rattle.f66_tree.specs.Evaluation.{operate, truth_in}
use Rattle.f66_tree.specs.Statements.{on_unit}
use Rattle.f66_tree.proofs.Related.{due_steps, put_steps, take_steps, closed_steps, opened_steps}
use Rattle.efl_tree.specs.declared.statement.LoopKind.{LoopKind}
use Rattle.efl_tree.specs.declared.statement.LoopKind.TheVariants as loop_kinds
use Rattle.efl_program.specs.Typed as typed
use Rattle.efl_program.specs.Typed.{Expr, Action, Evaluate, Invoke, WriteItem, Value, Skip, ReadItem, Take, Pass, Stmt, Empty, Block, Act, If, IfElse, While, For, Repeat, RepeatUntil, Do, Switch, Break, Next, Return, Goto, Write, Read, Labelled, Stmts, NoStmt, AndStmt, Clauses, NoClause, AndClause}
use Rattle.efl_program.specs.Setting.{Spot, Linkage, Setting, Frame, moved_to, base, load, store_at}
use Rattle.efl_program.specs.Values.{value_of}
use Rattle.efl_program.specs.Relocated.{relocated, all_relocated, clauses_relocated}
use Rattle.efl_program.specs.Meaning.{Course, Went, Jumps, Backs, Leave, Again, Continuation, went, stays, after, leaves, turns_one, left, again, after_turn, turned, turns, has_own_label, stands, landing, kind_by, written_by, read_by, put_all, take_all, decides, tested, acts, performed, stepped, until, always, value_or_one, with_value, in_limit, counts_on, unit_of, values_in, spots_in, store_all, writes, reads, returned, gives_back, pred_of, fits_constant, meaning, run_from, picked, defaulted, all_meaning, ended_by}
use Rattle.efl_program.proofs.Related as related
use Rattle.efl_program.proofs.Related.{Relation, Holds}

-- labels don't change with places
label_relocated : (g : Place → Place) (l : Text) (s : Stmt) → has_own_label l (relocated g s) ≡ has_own_label l s
label_relocated g l (Labelled m p s) = ap (λ b. bytes_eq m l || b) (label_relocated g l s)
label_relocated g l _ = refl

stands_relocated : (g : Place → Place) (l : Text) (ss : Stmts) → stands l (all_relocated g ss) ≡ stands l ss
stands_relocated g l NoStmt = refl
stands_relocated g l (AndStmt s ss) = ap (λ b. b || stands l (all_relocated g ss)) (label_relocated g l s) ∙ ap (λ b. has_own_label l s || b) (stands_relocated g l ss)

module _ (l : Linkage) (At' : Place → Place → Type 0) (call1 call2 : ℕ → List Spot → World → Out ⊤) (e : ℕ) (R : Relation) (r : Holds At' call1 call2 e R) where
  abbrev s1 : Setting
  s1 = record { linked = l; call = call1 }

  abbrev s2 : Setting
  s2 = record { linked = l; call = call2 }

  choice : {A : Type 0} {m1 m2 n1 n2 : World → Out A} → (v : Bool) → R A m1 m2 → R A n1 n2 → R A (λ w. choose v (m1 w) (n1 w)) (λ w. choose v (m2 w) (n2 w))
  choice v h k = related.choice l At' call1 call2 e R r v h k

  choice_if : {A : Type 0} {m1 m2 n1 n2 : World → Out A} → (v : Bool) → R A m1 m2 → R A n1 n2 → R A (λ w. if v then m1 w else n1 w) (λ w. if v then m2 w else n2 w)
  choice_if true h k = h
  choice_if false h k = k

  goes : (c : Course) → R Course (λ w. Gives c w) (λ w. Gives c w)
  goes c = r.gives c

  -- ---- what comes after a statement ----

  after_holds : {go1 go2 : Continuation} → R Course go1 go2 → (c : Course) → R Course (after go1 c) (after go2 c)
  after_holds h Went = h
  after_holds h (Jumps q) = goes (Jumps q)
  after_holds h Backs = goes Backs
  after_holds h (Leave n o) = goes (Leave n o)
  after_holds h (Again n o) = goes (Again n o)

  left_holds : (n : ℕ) (o : Option LoopKind) → R Course (left n o) (left n o)
  left_holds zero o = goes Went
  left_holds (suc n) o = goes (Leave n o)

  again_holds : {go1 go2 : Continuation} → R Course go1 go2 → (n : ℕ) (o : Option LoopKind) → R Course (again go1 n o) (again go2 n o)
  again_holds h zero o = h
  again_holds h (suc n) o = goes (Again n o)

  after_turn_holds : (k : LoopKind) {go1 go2 : Continuation} → R Course go1 go2 → (c : Course) → R Course (after_turn k go1 c) (after_turn k go2 c)
  after_turn_holds k h Went = h
  after_turn_holds k h (Leave n o) = choice_if (leaves o k) (left_holds n o) (goes (Leave n o))
  after_turn_holds k h (Again n o) = choice_if (turns_one o k) (again_holds h n o) (goes (Again n o))
  after_turn_holds k h (Jumps q) = goes (Jumps q)
  after_turn_holds k h Backs = goes Backs

  module _ (ss1 ss2 : Stmts) (same : (q : Text) → stands q ss2 ≡ stands q ss1) (go1 go2 : Text → Continuation) (h : (q : Text) → R Course (go1 q) (go2 q)) where
    landing_holds : (n1 n2 : ℕ) → n1 ≤ n2 → n2 ≤ n1 + e → (c : Course) → R Course (landing n1 ss1 go1 c) (landing n2 ss2 go2 c)
    landing_holds zero zero le ge (Jumps q) = subst (λ v. R Course (λ w. if stands q ss1 then Halts GoesOn w else Gives (Jumps q) w) (λ w. if v then Halts GoesOn w else Gives (Jumps q) w)) (sym (same q)) (choice_if (stands q ss1) (r.halts GoesOn) (goes (Jumps q)))
    landing_holds zero (suc n2) le ge (Jumps q) =
        subst (λ v. R Course (λ w. if stands q ss1 then Halts GoesOn w else Gives (Jumps q) w) (λ w. if v then bind (go2 q (counted w)) (landing n2 ss2 go2) else Gives (Jumps q) w)) (sym (same q))
        (choice_if (stands q ss1) (r.stays (omega arith) (r.thens (r.counts (h q)) (λ c. landing_holds zero n2 (omega arith) (omega arith) c))) (goes (Jumps q)))
    landing_holds (suc n1) zero le ge (Jumps q) = absurd (omega arith)
    landing_holds (suc n1) (suc n2) le ge (Jumps q) =
        subst (λ v. R Course (λ w. if stands q ss1 then bind (go1 q (counted w)) (landing n1 ss1 go1) else Gives (Jumps q) w) (λ w. if v then bind (go2 q (counted w)) (landing n2 ss2 go2) else Gives (Jumps q) w)) (sym (same q))
        (choice_if (stands q ss1) (r.thens (r.counts (h q)) (λ c. landing_holds n1 n2 (omega arith) (omega arith) c)) (goes (Jumps q)))
    landing_holds zero zero le ge Went = goes Went
    landing_holds zero (suc n2) le ge Went = goes Went
    landing_holds (suc n1) zero le ge Went = goes Went
    landing_holds (suc n1) (suc n2) le ge Went = goes Went
    landing_holds zero zero le ge Backs = goes Backs
    landing_holds zero (suc n2) le ge Backs = goes Backs
    landing_holds (suc n1) zero le ge Backs = goes Backs
    landing_holds (suc n1) (suc n2) le ge Backs = goes Backs
    landing_holds zero zero le ge (Leave k o) = goes (Leave k o)
    landing_holds zero (suc n2) le ge (Leave k o) = goes (Leave k o)
    landing_holds (suc n1) zero le ge (Leave k o) = goes (Leave k o)
    landing_holds (suc n1) (suc n2) le ge (Leave k o) = goes (Leave k o)
    landing_holds zero zero le ge (Again k o) = goes (Again k o)
    landing_holds zero (suc n2) le ge (Again k o) = goes (Again k o)
    landing_holds (suc n1) zero le ge (Again k o) = goes (Again k o)
    landing_holds (suc n1) (suc n2) le ge (Again k o) = goes (Again k o)

  -- a test, or what stands after a turn
  abbrev TopHolds : (Continuation → Continuation → Continuation) → (Continuation → Continuation → Continuation) → Type 0
  TopHolds top1 top2 = (go1 go2 out1 out2 : Continuation) → R Course go1 go2 → R Course out1 out2 → R Course (top1 go1 out1) (top2 go2 out2)

  module _ (k : LoopKind) (top1 top2 : Continuation → Continuation → Continuation) (body1 body2 : Continuation) (bottom1 bottom2 : Continuation → Continuation → Continuation) (t : TopHolds top1 top2) (h : R Course body1 body2) (u : TopHolds bottom1 bottom2) where
    turn_of : (n1 n2 : ℕ) → R Course (turns k n1 top1 body1 bottom1) (turns k n2 top2 body2 bottom2) →
        R Course (λ w1. turned k (body1 (counted w1)) (bottom1 (turns k n1 top1 body1 bottom1) went)) (λ w1. turned k (body2 (counted w1)) (bottom2 (turns k n2 top2 body2 bottom2) went))
    turn_of n1 n2 rest = r.thens (r.counts h) (after_turn_holds k (u (turns k n1 top1 body1 bottom1) (turns k n2 top2 body2 bottom2) went went rest (goes Went)))

    turns_hold : (n1 n2 : ℕ) → n1 ≤ n2 → n2 ≤ n1 + e → R Course (turns k n1 top1 body1 bottom1) (turns k n2 top2 body2 bottom2)
    turns_hold zero zero le ge = t stays stays went went (r.halts GoesOn) (goes Went)
    turns_hold zero (suc n2) le ge =
        t stays (λ w1. turned k (body2 (counted w1)) (bottom2 (turns k n2 top2 body2 bottom2) went)) went went (r.stays (omega arith) (turn_of zero n2 (turns_hold zero n2 (omega arith) (omega arith)))) (goes Went)
    turns_hold (suc n1) zero le ge = absurd (omega arith)
    turns_hold (suc n1) (suc n2) le ge =
        t (λ w1. turned k (body1 (counted w1)) (bottom1 (turns k n1 top1 body1 bottom1) went)) (λ w1. turned k (body2 (counted w1)) (bottom2 (turns k n2 top2 body2 bottom2) went)) went went
        (turn_of n1 n2 (turns_hold n1 n2 (omega arith) (omega arith))) (goes Went)

  -- ---- within a procedure ----

  module _ (f : Frame) (g : Place → Place) (places : (p : Place) → At' p (g p)) where
    settled : {A : Type 0} (p : Place) (o : Try A) → R A (λ w. settle p o w) (λ w. settle (g p) o w)
    settled p o = related.settled l At' call1 call2 e R r p (g p) (places p) o

    value : (p : Place) (x : Expr) → R Content (value_of s1 (moved_to p f) x) (value_of s2 (moved_to (g p) f) x)
    value p x = related.value_holds l At' call1 call2 e R r f.unit f.actuals p (g p) (places p) x

    load_at : (p : Place) (k : Kind) (a : Spot) → R Content (load s1 (moved_to p f) k a) (load s2 (moved_to (g p) f) k a)
    load_at p k a = related.load_holds l At' call1 call2 e R r f.unit f.actuals p (g p) (places p) k a

    stored_at : (p : Place) (a : Spot) (c : Content) → R ⊤ (store_at s1 (moved_to p f) a c) (store_at s2 (moved_to (g p) f) a c)
    stored_at p a c = related.store_holds l At' call1 call2 e R r f.unit f.actuals p (g p) (places p) a c

    decides_holds : (p : Place) (x : Expr) → TopHolds (decides s1 f p x) (decides s2 f (g p) x)
    decides_holds p x yea1 yea2 nay1 nay2 h k = r.thens (related.asks_hold l At' call1 call2 e R r f.unit f.actuals p (g p) (places p) x) (λ t. choice t h k)

    tested_holds : (p : Place) (o : Option Expr) → TopHolds (tested s1 f p o) (tested s2 f (g p) o)
    tested_holds p None yea1 yea2 nay1 nay2 h k = h
    tested_holds p (Some x) yea1 yea2 nay1 nay2 h k = decides_holds p x yea1 yea2 nay1 nay2 h k

    acts_hold : (p : Place) (a : Action) → R ⊤ (acts s1 f p a) (acts s2 f (g p) a)
    acts_hold p (Evaluate x) = r.thens (value p x) (λ _. r.gives tt)
    acts_hold p (Invoke v es) = r.thens (r.counts (related.spots_hold l At' call1 call2 e R r f.unit f.actuals p (g p) (places p) es)) (λ ps. r.calls v ps)

    performed_holds : (p : Place) (o : Option Action) {go1 go2 : Continuation} → R Course go1 go2 → R Course (performed s1 f p o go1) (performed s2 f (g p) o go2)
    performed_holds p None h = h
    performed_holds p (Some a) h = r.thens (acts_hold p a) (λ _. h)

    stepped_holds : (p : Place) (o : Option Action) → TopHolds (stepped s1 f p o) (stepped s2 f (g p) o)
    stepped_holds p o go1 go2 out1 out2 h k = performed_holds p o h

    until_holds : (p : Place) (x : Expr) → TopHolds (until s1 f p x) (until s2 f (g p) x)
    until_holds p x go1 go2 out1 out2 h k = decides_holds p x out1 out2 go1 go2 k h

    always_holds : TopHolds (always s1 f) (always s2 f)
    always_holds go1 go2 out1 out2 h k = h

    -- ---- do ----

    one_holds : (p : Place) (o : Option Expr) → R Content (value_or_one s1 f p o) (value_or_one s2 f (g p) o)
    one_holds p None = r.gives (Whole (pos 1))
    one_holds p (Some x) = value p x

    with_holds : (p : Place) (v : ℕ) {go1 go2 : Content → World → Out Content} → ((c : Content) → R Content (go1 c) (go2 c)) → R Content (with_value s1 f p v go1) (with_value s2 f (g p) v go2)
    with_holds p v h = r.thens (settled p (base s1 f v)) (λ a. r.thens (load_at p Integer a) h)

    limit_holds : (p : Place) (v : ℕ) (limit : Content) → TopHolds (in_limit s1 f p v limit) (in_limit s2 f (g p) v limit)
    limit_holds p v limit yea1 yea2 nay1 nay2 h k =
        r.thens (with_holds p v (λ a. settled p (operate Le a limit))) (λ t. r.thens (settled p (truth_in t)) (λ holds. choice holds h k))

    counts_hold : (p : Place) (v : ℕ) (step : Content) → TopHolds (counts_on s1 f p v step) (counts_on s2 f (g p) v step)
    counts_hold p v step go1 go2 out1 out2 h k =
        r.thens (with_holds p v (λ a. settled p (operate Add a step))) (λ c. r.thens (settled p (base s1 f v)) (λ a. r.thens (stored_at p a c) (λ _. h)))

    -- ---- records ----

    unit_holds : (p : Place) (z : ℤ) (o : Option Expr) → R Content (unit_of s1 f p z o) (unit_of s2 f (g p) z o)
    unit_holds p z None = r.gives (Whole z)
    unit_holds p z (Some x) = value p x

    values_hold : (p : Place) (items : List WriteItem) → R (List (Kind × Content)) (values_in s1 f p items) (values_in s2 f (g p) items)
    values_hold p [] = r.gives []
    values_hold p (Value x d ∷ items) = r.thens (r.counts (r.counts (value p x))) (λ v. r.thens (values_hold p items) (λ vs. r.gives ((kind_by d, v) ∷ vs)))
    values_hold p (Skip n ∷ items) = r.counts (values_hold p items)
    values_hold p (typed.Chars t ∷ items) = r.counts (values_hold p items)

    spots_hold : (p : Place) (items : List ReadItem) → R (List (Kind × Spot)) (spots_in s1 f p items) (spots_in s2 f (g p) items)
    spots_hold p [] = r.gives []
    spots_hold p (Take x d ∷ items) =
        r.thens (r.counts (r.counts (related.reach_holds l At' call1 call2 e R r f.unit f.actuals p (g p) (places p) x))) (λ a.
        r.thens (related.placed_holds l At' call1 call2 e R r f.unit f.actuals p (g p) (places p) a) (λ b. r.thens (spots_hold p items) (λ bs. r.gives ((kind_by d, b) ∷ bs))))
    spots_hold p (Pass n ∷ items) = r.counts (spots_hold p items)

    store_all_holds : (p : Place) (cs : List (Spot × Content)) → R Course (store_all s1 f p cs) (store_all s2 f (g p) cs)
    store_all_holds p [] = goes Went
    store_all_holds p (c ∷ cs) = r.thens (stored_at p c.0 c.1) (λ _. store_all_holds p cs)

    put_all_holds : (p : Place) (vs : List (Kind × Content)) → R ⊤ (put_all p vs) (put_all (g p) vs)
    put_all_holds p [] = r.gives tt
    put_all_holds p (v ∷ vs) = r.thens (r.tapes p (g p) (places p) (due v.0) (due_steps v.0)) (λ _. r.thens (r.tapes p (g p) (places p) (put v.1) (put_steps v.1)) (λ _. put_all_holds p vs))

    take_all_holds : (p : Place) (xs : List (Kind × Spot)) → R (List (Spot × Content)) (take_all p xs) (take_all (g p) xs)
    take_all_holds p [] = r.gives []
    take_all_holds p (x ∷ xs) =
        r.thens (r.tapes p (g p) (places p) (due x.0) (due_steps x.0)) (λ _. r.thens (r.takes p (g p) (places p) take take_steps) (λ c. r.thens (take_all_holds p xs) (λ cs. r.gives ((x.1, c) ∷ cs))))

    writes_hold : (p : Place) (u : Option Expr) (items : List WriteItem) → R Course (writes s1 f p u items) (writes s2 f (g p) u items)
    writes_hold p u items =
        r.thens (unit_holds p (pos 6) u) (λ z. r.thens (values_hold p items) (λ vs. r.thens (settled p (on_unit Writing z)) (λ _.
        r.thens (r.tapes p (g p) (places p) (opened Writing (written_by items)) (opened_steps Writing (Some (written_by items)))) (λ _. r.thens (put_all_holds p vs) (λ _.
        r.thens (r.tapes p (g p) (places p) closed closed_steps) (λ _. goes Went))))))

    reads_hold : (p : Place) (u : Option Expr) (items : List ReadItem) → R Course (reads s1 f p u items) (reads s2 f (g p) u items)
    reads_hold p u items =
        r.thens (unit_holds p (pos 5) u) (λ z. r.thens (spots_hold p items) (λ qs. r.thens (settled p (on_unit Reading z)) (λ _.
        r.thens (r.tapes p (g p) (places p) (opened Reading (read_by items)) (opened_steps Reading (Some (read_by items)))) (λ _. r.thens (take_all_holds p qs) (λ cs.
        r.thens (r.tapes p (g p) (places p) closed closed_steps) (λ _. store_all_holds p cs))))))

    returned_holds : (main : Bool) → R Course (returned s1 f main) (returned s2 f main)
    returned_holds true = r.halts (Ended Done)
    returned_holds false = goes Backs

    back_holds : (p : Place) (o : Option Expr) → R Course (gives_back s1 f p o) (gives_back s2 f (g p) o)
    back_holds p None = returned_holds (nat_eq f.unit l.main)
    back_holds p (Some x) = r.thens (value p x) (λ v. r.fills (l.result f.unit) v (returned_holds (nat_eq f.unit l.main)))

    fits_hold : (p : Place) (v : Content) (cs : List ℤ) → TopHolds (fits_constant s1 f p v cs) (fits_constant s2 f (g p) v cs)
    fits_hold p v [] yea1 yea2 nay1 nay2 h k = k
    fits_hold p v (c ∷ cs) yea1 yea2 nay1 nay2 h k =
        r.thens (r.counts (settled p (operate Eq v (Whole c)))) (λ t. r.thens (settled p (truth_in t)) (λ holds. choice holds h (fits_hold p v cs yea1 yea2 nay1 nay2 h k)))

    module _ (b1 b2 : ℕ) (less : b1 ≤ b2) (less_too : b2 ≤ b1 + e) where
      loops : (k : LoopKind) {top1 top2 : Continuation → Continuation → Continuation} {body1 body2 : Continuation} {bottom1 bottom2 : Continuation → Continuation → Continuation} → TopHolds top1 top2 → R Course body1 body2 → TopHolds bottom1 bottom2 →
          R Course (turns k b1 top1 body1 bottom1) (turns k b2 top2 body2 bottom2)
      loops k {top1} {top2} {body1} {body2} {bottom1} {bottom2} t h u = turns_hold k top1 top2 body1 body2 bottom1 bottom2 t h u b1 b2 less less_too

      abbrev m1 : Stmt → Continuation
      m1 s w = meaning s1 f b1 s w

      abbrev m2 : Stmt → Continuation
      m2 s w = meaning s2 f b2 (relocated g s) w

      abbrev from1 : Stmts → Option Text → Continuation
      from1 ss o w = run_from s1 f b1 ss o w

      abbrev from2 : Stmts → Option Text → Continuation
      from2 ss o w = run_from s2 f b2 (all_relocated g ss) o w

      landed_holds : (ss : Stmts) → ((q : Text) → R Course (from1 ss (Some q)) (from2 ss (Some q))) → {o1 o2 : Continuation} → R Course o1 o2 →
          R Course (λ w. bind (o1 w) (landing b1 ss (λ q. from1 ss (Some q)))) (λ w. bind (o2 w) (landing b2 (all_relocated g ss) (λ q. from2 ss (Some q))))
      landed_holds ss h k = r.thens k (landing_holds ss (all_relocated g ss) (λ q. stands_relocated g q ss) (λ q. from1 ss (Some q)) (λ q. from2 ss (Some q)) h b1 b2 less less_too)

      mutual
        pub meaning_holds : (s : Stmt) → R Course (m1 s) (m2 s)
        meaning_holds (Empty p) = r.counts (goes Went)
        meaning_holds (Block p ss) = landed_holds ss (λ q. from_holds ss (Some q)) (r.counts (from_holds ss None))
        meaning_holds (Act p a) = r.thens (r.counts (acts_hold p a)) (λ _. goes Went)
        meaning_holds (If p x s) = r.counts (decides_holds p x (m1 s) (m2 s) went went (meaning_holds s) (goes Went))
        meaning_holds (IfElse p x s t) = r.counts (decides_holds p x (m1 s) (m2 s) (m1 t) (m2 t) (meaning_holds s) (meaning_holds t))
        meaning_holds (While p x s) = r.counts (loops loop_kinds.While (tested_holds p (Some x)) (meaning_holds s) always_holds)
        meaning_holds (For p a x b s) = r.counts (performed_holds p a (loops loop_kinds.For (tested_holds p x) (meaning_holds s) (stepped_holds p b)))
        meaning_holds (Repeat p s) = r.counts (loops loop_kinds.Repeat (tested_holds p None) (meaning_holds s) always_holds)
        meaning_holds (RepeatUntil p s x q) = r.counts (loops loop_kinds.Repeat (tested_holds p None) (meaning_holds s) (until_holds q x))
        meaning_holds (Do p v a z d s) =
            r.thens (r.counts (value p z)) (λ limit. r.thens (one_holds p d) (λ step. r.thens (settled p (base s1 f v)) (λ q. r.thens (value p a) (λ first. r.thens (stored_at p q first) (λ _.
            loops loop_kinds.Do (limit_holds p v limit) (meaning_holds s) (counts_hold p v step))))))
        meaning_holds (Switch p x cs) = r.thens (r.counts (value p x)) (λ v. r.thens (picked_holds p v cs (defaulted_holds cs)) (after_turn_holds loop_kinds.Switch (goes Went)))
        meaning_holds (Break p n o) = r.counts (goes (Leave (pred_of n) o))
        meaning_holds (Next p n o) = r.counts (goes (Again (pred_of n) o))
        meaning_holds (Return p x) = r.counts (back_holds p x)
        meaning_holds (Goto p q) = r.counts (goes (Jumps q))
        meaning_holds (Write p u items) = r.counts (writes_hold p u items)
        meaning_holds (Read p u items) = r.counts (reads_hold p u items)
        meaning_holds (Labelled q p s) = r.counts (meaning_holds s)

        pub from_holds : (ss : Stmts) (o : Option Text) → R Course (from1 ss o) (from2 ss o)
        from_holds NoStmt o = goes Went
        from_holds (AndStmt s ss) None = r.thens (meaning_holds s) (after_holds (from_holds ss None))
        from_holds (AndStmt s ss) (Some q) =
            subst (λ v. R Course (λ w. if has_own_label q s then bind (m1 s w) (after (from1 ss None)) else from1 ss (Some q) w) (λ w. if v then bind (m2 s w) (after (from2 ss None)) else from2 ss (Some q) w)) (sym (label_relocated g q s))
            (choice_if (has_own_label q s) (r.thens (meaning_holds s) (after_holds (from_holds ss None))) (from_holds ss (Some q)))

        picked_holds : (p : Place) (v : Content) (cs : Clauses) {o1 o2 : Continuation} → R Course o1 o2 → R Course (picked s1 f b1 p v cs o1) (picked s2 f b2 (g p) v (clauses_relocated g cs) o2)
        picked_holds p v NoClause h = h
        picked_holds p v (AndClause es fallback ss q cs) {o1} {o2} h =
            fits_hold p v es (λ w. bind (from1 ss None w) (landing b1 ss (λ j. from1 ss (Some j)))) (λ w. bind (from2 ss None w) (landing b2 (all_relocated g ss) (λ j. from2 ss (Some j)))) (picked s1 f b1 p v cs o1) (picked s2 f b2 (g p) v (clauses_relocated g cs) o2)
            (landed_holds ss (λ j. from_holds ss (Some j)) (from_holds ss None)) (picked_holds p v cs h)

        defaulted_holds : (cs : Clauses) → R Course (defaulted s1 f b1 cs) (defaulted s2 f b2 (clauses_relocated g cs))
        defaulted_holds NoClause = goes Went
        defaulted_holds (AndClause es fallback ss q cs) = choice_if fallback (landed_holds ss (λ j. from_holds ss (Some j)) (from_holds ss None)) (defaulted_holds cs)

      pub all_hold : (ss : Stmts) → R Course (all_meaning s1 f b1 ss) (all_meaning s2 f b2 (all_relocated g ss))
      all_hold ss = landed_holds ss (λ q. from_holds ss (Some q)) (from_holds ss None)

  -- what a procedure's body comes to
  pub ended_holds : (main : Bool) (c : Course) → R ⊤ (ended_by main c) (ended_by main c)
  ended_holds true Went = r.halts (Ended Done)
  ended_holds false Went = r.gives tt
  ended_holds true Backs = r.gives tt
  ended_holds false Backs = r.gives tt
  ended_holds true (Jumps q) = r.halts Lost
  ended_holds false (Jumps q) = r.halts Lost
  ended_holds true (Leave n o) = r.halts Lost
  ended_holds false (Leave n o) = r.halts Lost
  ended_holds true (Again n o) = r.halts Lost
  ended_holds false (Again n o) = r.halts Lost
