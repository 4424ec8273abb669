-- One induction for all relations between two runs of the same commands, as that of the units of FORTRAN: what holds of
-- values and plain statements, and is kept where one part follows another, holds of every command. The two sides may run
-- over two linkages, the places of commands may differ, and the second side may have a greater bound.
use Rattle.std.proofs.Common.{◌≡◌, ℕ, zero, suc, ◌+◌, ◌≤◌, ◌<◌, Bool, true, false, List, [], ◌∷◌, Option, Some, None, refl, sym, ap, ◌∙◌, subst, arith}
use Rattle.std.specs.Prelude.{if◌then◌else◌, ◌||◌, ⊤}
use Rattle.ground.specs.declared.place.Place.{Place}
use Rattle.ground.specs.declared.value.Kind.TheVariants.{Integer}
use Rattle.ground.specs.Content.{Content}
use Rattle.f66_tree.specs.declared.expression.Operator.TheVariants.{Eq}
use Rattle.f66_tree.specs.Syntax.{Text, Formula, Formulas, NoFormula, AndFormula, Act, Return, Line}
use Rattle.f66_tree.specs.World.{World, End, GoesOn, Out, Gives, Halts, bind, Try, settle, choose, counted}
use Rattle.f66_tree.specs.Units.{is_note, is_main, name_of, Setting, Frame, moved_to}
use Rattle.f66_tree.specs.Uses.{NamesBy, NamesOfAllBy, NamesOfActBy, NamesOfLinesBy}
use Rattle.f66_tree.specs.Evaluation.{base, asked, operate, truth_in, store_at, value_of}
use Rattle.f66_tree.specs.Statements.{Exit, LoopParameters, loop_turn, item_turns, does}
use Rattle.f66_tree.specs.Execution.{stand, Onward, Progress, runnable, perform, fetch, past_end}
use Rattle.f66_tree.proofs.Posts.{AllFair}
use Rattle.f66_tree.proofs.Related as related
use Rattle.f66_tree.proofs.Related.{Sides, using, side1, side2, Frames, one, two, Good, Holds}
use Rattle.f66_tree.proofs.RelatedRuns.{LikeLines, like_runnable, names_runnable, performs}
use Rattle.rat_tree.specs.Syntax.{Command, Empty, Block, If, IfElse, While, For, Repeat, RepeatUntil, Do, Switch, Break, Next, Plain, Labelled, Commands, NoCommand, AndCommand, Clauses, NoClause, AndClause}
use Rattle.rat_tree.specs.Places.{placed, all_placed, clauses_placed}
use Rattle.rat_tree.specs.Uses.{NamesIfAnyBy, ActIfAnyBy, NamesOfCommandBy, NamesOfCommandsBy, NamesOfClausesBy}
use Rattle.rat_tree.specs.Meaning.{Course, Went, Jumps, Backs, Leave, Again, course_of, Continuation, went, stays, after, after_turn, turned, turns, always, has_own_label, stands, landing, decides, plain_statement, passed_label, tested, performed, stepped, until, do_turns, gives_back, is_case, fits_case, meaning, run_from, picked, defaulted, all_meaning, waiting, beside}
use Rattle.rat_tree.specs.Syntax as ratfor_tree

-- labels don't change with places
marks_placed : (g : Place → Place) (l : ℕ) (c : Command) → has_own_label l (placed g c) ≡ has_own_label l c
marks_placed g l (Plain m p a) = refl
marks_placed g l (Labelled m p s) = refl
marks_placed g l _ = refl

stands_placed : (g : Place → Place) (l : ℕ) (ss : Commands) → stands l (all_placed g ss) ≡ stands l ss
stands_placed g l NoCommand = refl
stands_placed g l (AndCommand s ss) = ap (λ b. b || stands l (all_placed g ss)) (marks_placed g l s) ∙ ap (λ b. has_own_label l s || b) (stands_placed g l ss)

-- what a relation must have besides for commands: e is by how much the bound of the second side is greater
pub record Bounds (R : (A : Type 0) → (World → Out A) → (World → Out A) → Type 0) (e : ℕ) : Type 1 where
  pub counts : {A : Type 0} {m1 m2 : World → Out A} → R A m1 m2 → R A (λ w. m1 (counted w)) (λ w. m2 (counted w))
  pub halts : {A : Type 0} → (end : End) → R A (λ w. Halts end w) (λ w. Halts end w)
  -- the first side stops at its bound, where the second goes on
  pub stays : {A : Type 0} {m1 m2 : World → Out A} → 0 < e → R A m1 m2 → R A (λ w. Halts GoesOn w) m2

module _ (d : Sides ⊤) (R : (A : Type 0) → (World → Out A) → (World → Out A) → Type 0) (r : Holds ⊤ d (λ A m1 m2. R A (m1 tt) m2) (λ A m1 m2. R A (m1 tt) m2)) (e : ℕ) (b : Bounds R e) where
  abbrev RI : (A : Type 0) → (⊤ → World → Out A) → (World → Out A) → Type 0
  RI A m1 m2 = R A (m1 tt) m2

  abbrev s1 : Setting
  s1 = side1 d tt

  abbrev s2 : Setting
  s2 = side2 d

  thens : {A B : Type 0} {m1 m2 : World → Out A} {g1 g2 : A → World → Out B} → R A m1 m2 → ((a : A) → R B (g1 a) (g2 a)) → R B (λ w. bind (m1 w) g1) (λ w. bind (m2 w) g2)
  thens {A} {B} {m1} {m2} {g1} {g2} h k = related.thens ⊤ d RI RI r {m1 = λ i. m1} {m2 = m2} {g1 = λ a i. g1 a} {g2 = g2} h k

  gives : {A : Type 0} → (a : A) → R A (λ w. Gives a w) (λ w. Gives a w)
  gives a = r.parts.gives a

  gives_unit : R ⊤ (λ w. Gives tt w) (λ w. Gives tt w)
  gives_unit = gives (tt {0})

  choice : {A : Type 0} {m1 m2 n1 n2 : World → Out A} → (v : Bool) → R A m1 m2 → R A n1 n2 → R A (λ w. choose v (m1 w) (n1 w)) (λ w. choose v (m2 w) (n2 w))
  choice true h k = h
  choice false h k = k

  choice_if : {A : Type 0} {m1 m2 n1 n2 : World → Out A} → (v : Bool) → R A m1 m2 → R A n1 n2 → R A (λ w. if v then m1 w else n1 w) (λ w. if v then m2 w else n2 w)
  choice_if true h k = h
  choice_if false h k = k

  -- ---- what comes after a statement ----

  after_holds : {go1 go2 : Continuation} → R Course go1 go2 → (c : Course) → R Course (after go1 c) (after go2 c)
  after_holds h Went = h
  after_holds h (Jumps l) = gives (Jumps l)
  after_holds h Backs = gives Backs
  after_holds h (Leave k) = gives (Leave k)
  after_holds h (Again k) = gives (Again k)

  after_turn_holds : {go1 go2 : Continuation} → R Course go1 go2 → (c : Course) → R Course (after_turn go1 c) (after_turn go2 c)
  after_turn_holds h Went = h
  after_turn_holds h (Jumps l) = gives (Jumps l)
  after_turn_holds h Backs = gives Backs
  after_turn_holds h (Leave zero) = gives Went
  after_turn_holds h (Leave (suc k)) = gives (Leave k)
  after_turn_holds h (Again zero) = h
  after_turn_holds h (Again (suc k)) = gives (Again k)

  module _ (ss1 ss2 : Commands) (same : (l : ℕ) → stands l ss2 ≡ stands l ss1) (go1 go2 : ℕ → Continuation) (h : (l : ℕ) → R Course (go1 l) (go2 l)) where
    landing_holds : (n1 n2 : ℕ) → n1 ≤ n2 → n2 ≤ n1 + e → (c : Course) → R Course (landing n1 ss1 go1 c) (landing n2 ss2 go2 c)
    landing_holds zero zero le ge (Jumps l) = subst (λ v. R Course (λ w. if stands l ss1 then Halts GoesOn w else Gives (Jumps l) w) (λ w. if v then Halts GoesOn w else Gives (Jumps l) w)) (sym (same l)) (choice_if (stands l ss1) (b.halts GoesOn) (gives (Jumps l)))
    landing_holds zero (suc n2) le ge (Jumps l) =
        subst (λ v. R Course (λ w. if stands l ss1 then Halts GoesOn w else Gives (Jumps l) w) (λ w. if v then bind (go2 l (counted w)) (landing n2 ss2 go2) else Gives (Jumps l) w)) (sym (same l))
        (choice_if (stands l ss1) (b.stays (omega arith) (thens (b.counts (h l)) (λ c. landing_holds zero n2 (omega arith) (omega arith) c))) (gives (Jumps l)))
    landing_holds (suc n1) zero le ge (Jumps l) = absurd (omega arith)
    landing_holds (suc n1) (suc n2) le ge (Jumps l) =
        subst (λ v. R Course (λ w. if stands l ss1 then bind (go1 l (counted w)) (landing n1 ss1 go1) else Gives (Jumps l) w) (λ w. if v then bind (go2 l (counted w)) (landing n2 ss2 go2) else Gives (Jumps l) w)) (sym (same l))
        (choice_if (stands l ss1) (thens (b.counts (h l)) (λ c. landing_holds n1 n2 (omega arith) (omega arith) c)) (gives (Jumps l)))
    landing_holds zero zero le ge Went = gives Went
    landing_holds zero (suc n2) le ge Went = gives Went
    landing_holds (suc n1) zero le ge Went = gives Went
    landing_holds (suc n1) (suc n2) le ge Went = gives Went
    landing_holds zero zero le ge Backs = gives Backs
    landing_holds zero (suc n2) le ge Backs = gives Backs
    landing_holds (suc n1) zero le ge Backs = gives Backs
    landing_holds (suc n1) (suc n2) le ge Backs = gives Backs
    landing_holds zero zero le ge (Leave k) = gives (Leave k)
    landing_holds zero (suc n2) le ge (Leave k) = gives (Leave k)
    landing_holds (suc n1) zero le ge (Leave k) = gives (Leave k)
    landing_holds (suc n1) (suc n2) le ge (Leave k) = gives (Leave k)
    landing_holds zero zero le ge (Again k) = gives (Again k)
    landing_holds zero (suc n2) le ge (Again k) = gives (Again k)
    landing_holds (suc n1) zero le ge (Again k) = gives (Again k)
    landing_holds (suc n1) (suc n2) le ge (Again k) = gives (Again k)

  -- a test, or what stands after a turn
  abbrev TopHolds : (Continuation → Continuation → Continuation) → (Continuation → Continuation → Continuation) → Type 0
  TopHolds top1 top2 = (go1 go2 leave1 leave2 : Continuation) → R Course go1 go2 → R Course leave1 leave2 → R Course (top1 go1 leave1) (top2 go2 leave2)

  module _ (top1 top2 : Continuation → Continuation → Continuation) (body1 body2 : Continuation) (bottom1 bottom2 : Continuation → Continuation → Continuation) (t : TopHolds top1 top2) (h : R Course body1 body2) (u : TopHolds bottom1 bottom2) where
    turn_of : (n1 n2 : ℕ) → R Course (turns n1 top1 body1 bottom1) (turns n2 top2 body2 bottom2) → R Course (λ w1. turned (body1 (counted w1)) (bottom1 (turns n1 top1 body1 bottom1) went)) (λ w1. turned (body2 (counted w1)) (bottom2 (turns n2 top2 body2 bottom2) went))
    turn_of n1 n2 rest = thens (b.counts h) (after_turn_holds (u (turns n1 top1 body1 bottom1) (turns n2 top2 body2 bottom2) went went rest (gives Went)))

    turns_hold : (n1 n2 : ℕ) → n1 ≤ n2 → n2 ≤ n1 + e → R Course (turns n1 top1 body1 bottom1) (turns n2 top2 body2 bottom2)
    turns_hold zero zero le ge = t stays stays went went (b.halts GoesOn) (gives Went)
    turns_hold zero (suc n2) le ge =
        t stays (λ w1. turned (body2 (counted w1)) (bottom2 (turns n2 top2 body2 bottom2) went)) went went (b.stays (omega arith) (turn_of zero n2 (turns_hold zero n2 (omega arith) (omega arith)))) (gives Went)
    turns_hold (suc n1) zero le ge = absurd (omega arith)
    turns_hold (suc n1) (suc n2) le ge =
        t (λ w1. turned (body1 (counted w1)) (bottom1 (turns n1 top1 body1 bottom1) went)) (λ w1. turned (body2 (counted w1)) (bottom2 (turns n2 top2 body2 bottom2) went)) went went
        (turn_of n1 n2 (turns_hold n1 n2 (omega arith) (omega arith))) (gives Went)

  always_holds : TopHolds always always
  always_holds go1 go2 leave1 leave2 h k = h

  -- implied DO loops
  module _ (begins : R ⊤ (d.begin1 tt) d.begin2) where
    many_hold : (f : Frames) → Good d f → (x : Text) → d.K f.unit x → (k : LoopParameters) (m1 m2 : World → Out ⊤) → R ⊤ m1 m2 → (n1 n2 : ℕ) → n1 ≤ n2 → n2 ≤ n1 + e → R ⊤ (item_turns n1 s1 (one f) x k m1) (item_turns n2 s2 (two f) x k m2)
    many_hold f g x used k m1 m2 h zero zero le ge = b.halts GoesOn
    many_hold f g x used k m1 m2 h zero (suc n2) le ge =
        b.stays {m1 = λ w. bind (d.begin1 tt w) (λ _ w1. bind (m1 w1) (λ _ w2. bind (loop_turn s1 (one f) x k w2) (λ on w3. choose on (item_turns zero s1 (one f) x k m1 w3) (Gives tt w3))))} (omega arith)
        (thens begins (λ _. thens h (λ _. thens (related.turn_holds ⊤ d RI RI r f g x used k) (λ on. choice on (many_hold f g x used k m1 m2 h zero n2 (omega arith) (omega arith)) gives_unit))))
    many_hold f g x used k m1 m2 h (suc n1) zero le ge = absurd (omega arith)
    many_hold f g x used k m1 m2 h (suc n1) (suc n2) le ge =
        thens begins (λ _. thens h (λ _. thens (related.turn_holds ⊤ d RI RI r f g x used k) (λ on. choice on (many_hold f g x used k m1 m2 h n1 n2 (omega arith) (omega arith)) gives_unit)))

    -- ---- within a unit, where the place p of a command is g p on the second side ----

    module _ (most : d.most1 tt ≤ d.most2) (most_too : d.most2 ≤ d.most1 tt + e) (b1 b2 : ℕ) (less : b1 ≤ b2) (less_too : b2 ≤ b1 + e) (f : Frame) (fair : AllFair d.Fair f.actuals) (g : Place → Place) (places : (p : Place) → d.At p (g p)) where
      abbrev at : Place → Frames
      at p = record { unit = f.unit; actuals = f.actuals; here = p; there = g p }

      good : (p : Place) → Good d (at p)
      good p = record { places = places p; actuals = fair }

      many : (f1 : Frames) → Good d f1 → (x : Text) → d.K f1.unit x → (k : LoopParameters) (m1 : ⊤ → World → Out ⊤) (m2 : World → Out ⊤) → RI ⊤ m1 m2 → RI ⊤ (λ i. item_turns (d.most1 i) (side1 d i) (one f1) x k (m1 i)) (item_turns d.most2 s2 (two f1) x k m2)
      many f1 g1 x used k m1 m2 h = many_hold f1 g1 x used k (m1 tt) m2 h (d.most1 tt) d.most2 most most_too

      value_holds : (p : Place) (a : Formula) → NamesBy (using d f.unit) a → R Content (value_of s1 (moved_to p f) a) (value_of s2 (moved_to (g p) f) a)
      value_holds p a used = related.value_holds ⊤ d RI RI r (at p) (good p) a used

      does_holds : (p : Place) (a : Act) → NamesOfActBy (using d f.unit) a → R Exit (does s1 (moved_to p f) a) (does s2 (moved_to (g p) f) a)
      does_holds p a used = related.does_holds ⊤ d RI RI r many (at p) (good p) a used

      settled : {A : Type 0} (p : Place) (o : Try A) → R A (settle p o) (settle (g p) o)
      settled p o = related.settles ⊤ d RI RI r (at p) (good p) o

      decides_holds : (p : Place) (a : Formula) → NamesBy (using d f.unit) a → {yea1 yea2 nay1 nay2 : Continuation} → R Course yea1 yea2 → R Course nay1 nay2 → R Course (decides s1 f p a yea1 nay1) (decides s2 f (g p) a yea2 nay2)
      decides_holds p a used h k = thens (related.asks_hold ⊤ d RI RI r (at p) (good p) a used) (λ holds. choice holds h k)

      plainly_holds : (p : Place) (a : Act) → NamesOfActBy (using d f.unit) a → R Course (plain_statement s1 f p a) (plain_statement s2 f (g p) a)
      plainly_holds p a used = choice_if (is_note a) (gives Went) (thens (b.counts (does_holds p a used)) (λ y. gives (course_of y)))

      labelled_holds : (o : Option ℕ) (p : Place) (a : Act) → NamesOfActBy (using d f.unit) a → R Course (passed_label s1 f o p a) (passed_label s2 f o (g p) a)
      labelled_holds None p a used = plainly_holds p a used
      labelled_holds (Some m) p a used = choice_if (is_note a) (gives Went) (b.counts (plainly_holds p a used))

      tested_holds : (p : Place) (a : Option Formula) → NamesIfAnyBy (using d f.unit) a → TopHolds (tested s1 f p a) (tested s2 f (g p) a)
      tested_holds p None used go1 go2 leave1 leave2 h k = h
      tested_holds p (Some a) used go1 go2 leave1 leave2 h k = decides_holds p a used h k

      performed_holds : (p : Place) (a : Option Act) → ActIfAnyBy (using d f.unit) a → {go1 go2 : Continuation} → R Course go1 go2 → R Course (performed s1 f p a go1) (performed s2 f (g p) a go2)
      performed_holds p None used h = h
      performed_holds p (Some a) used h = thens (plainly_holds p a used) (after_holds h)

      counts_hold : (p : Place) (x : Text) → d.K f.unit x → (k : LoopParameters) (body1 body2 : Continuation) → R Course body1 body2 → (n1 n2 : ℕ) → n1 ≤ n2 → n2 ≤ n1 + e → R Course (do_turns s1 f n1 p x k body1) (do_turns s2 f n2 (g p) x k body2)
      counts_hold p x used k body1 body2 h zero zero le ge = b.halts GoesOn
      counts_hold p x used k body1 body2 h zero (suc n2) le ge =
          b.stays {m1 = λ w. bind (body1 (counted w)) (after_turn (λ w1. bind (loop_turn s1 (moved_to p f) x k w1) (λ on w2. choose on (do_turns s1 f zero p x k body1 w2) (Gives Went w2))))} (omega arith)
          (thens (b.counts h) (after_turn_holds (thens (related.turn_holds ⊤ d RI RI r (at p) (good p) x used k) (λ on. choice on (counts_hold p x used k body1 body2 h zero n2 (omega arith) (omega arith)) (gives Went)))))
      counts_hold p x used k body1 body2 h (suc n1) zero le ge = absurd (omega arith)
      counts_hold p x used k body1 body2 h (suc n1) (suc n2) le ge =
          thens (b.counts h) (after_turn_holds (thens (related.turn_holds ⊤ d RI RI r (at p) (good p) x used k) (λ on. choice on (counts_hold p x used k body1 body2 h n1 n2 (omega arith) (omega arith)) (gives Went))))

      case_holds : (p : Place) (v : Content) (a : Formula) → NamesBy (using d f.unit) a → R Bool (is_case s1 f p v a) (is_case s2 f (g p) v a)
      case_holds p v a used = thens (settled p (asked Integer v)) (λ v1. thens (value_holds p a used) (λ u. thens (settled p (operate Eq v1 u)) (λ t. settled p (truth_in t))))

      fits_hold : (p : Place) (v : Content) (es : Formulas) → NamesOfAllBy (using d f.unit) es → {yea1 yea2 nay1 nay2 : Continuation} → R Course yea1 yea2 → R Course nay1 nay2 → R Course (fits_case s1 f p v es yea1 nay1) (fits_case s2 f (g p) v es yea2 nay2)
      fits_hold p v NoFormula used h k = k
      fits_hold p v (AndFormula a es) used h k = thens (b.counts (case_holds p v a used.0)) (λ holds. choice holds h (fits_hold p v es used.1 h k))

      -- a function's own name is one of its names
      module _ (own : d.K f.unit (name_of (d.linked2.context f.unit).header)) where
        gives_back_holds : (p : Place) (a : Option Formula) → NamesIfAnyBy (using d f.unit) a → R Course (gives_back s1 f p a) (gives_back s2 f (g p) a)
        gives_back_holds p None used = plainly_holds p Return tt
        gives_back_holds p (Some a) used =
            let x : Text = name_of (d.linked2.context f.unit).header in
            subst (λ h. R Course (λ w. bind (settle p (base s1 f (name_of h)) (counted w)) (λ spot w1. bind (value_of s1 (moved_to p f) a w1) (λ v w2. bind (store_at s1 (moved_to p f) spot v w2) (λ _ w3. bind (does s1 (moved_to p f) Return w3) (λ y w4. Gives (course_of y) w4))))) (gives_back s2 f (g p) (Some a))) (sym (r.parts.same.header f.unit))
            (b.counts {m1 = λ w. bind (settle p (base s1 f x) w) (λ spot w1. bind (value_of s1 (moved_to p f) a w1) (λ v w2. bind (store_at s1 (moved_to p f) spot v w2) (λ _ w3. bind (does s1 (moved_to p f) Return w3) (λ y w4. Gives (course_of y) w4))))}
            (related.base_then ⊤ d RI RI r
            {g1 = λ spot i w1. bind (value_of s1 (moved_to p f) a w1) (λ v w2. bind (store_at s1 (moved_to p f) spot v w2) (λ _ w3. bind (does s1 (moved_to p f) Return w3) (λ y w4. Gives (course_of y) w4)))}
            {g2 = λ spot w1. bind (value_of s2 (moved_to (g p) f) a w1) (λ v w2. bind (store_at s2 (moved_to (g p) f) spot v w2) (λ _ w3. bind (does s2 (moved_to (g p) f) Return w3) (λ y w4. Gives (course_of y) w4)))}
            (at p) (good p) x own (λ spot ok. thens (value_holds p a used) (λ v. thens (r.parts.stores (at p) (good p) spot ok v) (λ _. thens (does_holds p Return tt) (λ y. gives (course_of y)))))))

        mutual
          meaning_holds : (c : Command) → NamesOfCommandBy (using d f.unit) c → R Course (meaning s1 f b1 c) (meaning s2 f b2 (placed g c))
          meaning_holds (Empty p) used = b.counts (gives Went)
          meaning_holds (Block p ss) used =
              thens (b.counts (run_holds ss used None)) (landing_holds ss (all_placed g ss) (λ m. stands_placed g m ss) (λ m. run_from s1 f b1 ss (Some m)) (λ m. run_from s2 f b2 (all_placed g ss) (Some m)) (λ m. run_holds ss used (Some m)) b1 b2 less less_too)
          meaning_holds (If p a c) used = b.counts (decides_holds p a used.0 (meaning_holds c used.1) (gives Went))
          meaning_holds (IfElse p a c1 c2) used = b.counts (decides_holds p a used.0 (meaning_holds c1 used.1) (meaning_holds c2 used.2))
          meaning_holds (While p a c) used =
              b.counts (turns_hold (tested s1 f p (Some a)) (tested s2 f (g p) (Some a)) (meaning s1 f b1 c) (meaning s2 f b2 (placed g c)) always always (tested_holds p (Some a) used.0) (meaning_holds c used.1) always_holds b1 b2 less less_too)
          meaning_holds (For p first a step c) used =
              b.counts (performed_holds p first used.0 (turns_hold (tested s1 f p a) (tested s2 f (g p) a) (meaning s1 f b1 c) (meaning s2 f b2 (placed g c)) (stepped s1 f p step) (stepped s2 f (g p) step) (tested_holds p a used.1) (meaning_holds c used.3)
              (λ go1 go2 leave1 leave2 h k. performed_holds p step used.2 h) b1 b2 less less_too))
          meaning_holds (Repeat p c) used =
              b.counts (turns_hold (tested s1 f p None) (tested s2 f (g p) None) (meaning s1 f b1 c) (meaning s2 f b2 (placed g c)) always always (tested_holds p None tt) (meaning_holds c used) always_holds b1 b2 less less_too)
          meaning_holds (RepeatUntil p c a q) used =
              b.counts (turns_hold (tested s1 f p None) (tested s2 f (g p) None) (meaning s1 f b1 c) (meaning s2 f b2 (placed g c)) (until s1 f q a) (until s2 f (g q) a) (tested_holds p None tt) (meaning_holds c used.0) (λ go1 go2 leave1 leave2 h k. decides_holds q a used.1 k h) b1 b2 less less_too)
          meaning_holds (Do p x a z s c) used =
              thens (b.counts (related.start_holds ⊤ d RI RI r (at p) (good p) x a z s used.0 used.1 used.2 used.3)) (λ k. counts_hold p x used.0 k (meaning s1 f b1 c) (meaning s2 f b2 (placed g c)) (meaning_holds c used.4) b1 b2 less less_too)
          meaning_holds (Switch p a cs) used = thens (b.counts (value_holds p a used.0)) (λ v. picked_holds v cs used.1 (defaulted_holds cs used.1))
          meaning_holds (Break p n) used = b.counts (gives _)
          meaning_holds (Next p n) used = b.counts (gives _)
          meaning_holds (ratfor_tree.Return p a) used = gives_back_holds p a used
          meaning_holds (Plain o p a) used = labelled_holds o p a used
          meaning_holds (Labelled m p c) used = b.counts (meaning_holds c used)

          run_holds : (ss : Commands) → NamesOfCommandsBy (using d f.unit) ss → (from : Option ℕ) → R Course (run_from s1 f b1 ss from) (run_from s2 f b2 (all_placed g ss) from)
          run_holds NoCommand used from = gives Went
          run_holds (AndCommand c ss) used None = thens (meaning_holds c used.0) (after_holds (run_holds ss used.1 None))
          run_holds (AndCommand c ss) used (Some m) =
              subst (λ v. R Course (run_from s1 f b1 (AndCommand c ss) (Some m)) (λ w. if v then bind (meaning s2 f b2 (placed g c) w) (after (run_from s2 f b2 (all_placed g ss) None)) else run_from s2 f b2 (all_placed g ss) (Some m) w)) (sym (marks_placed g m c))
              (choice_if (has_own_label m c) (thens (meaning_holds c used.0) (after_holds (run_holds ss used.1 None))) (run_holds ss used.1 (Some m)))

          picked_holds : (v : Content) (cs : Clauses) → NamesOfClausesBy (using d f.unit) cs → {other1 other2 : Continuation} → R Course other1 other2 → R Course (picked s1 f b1 v cs other1) (picked s2 f b2 v (clauses_placed g cs) other2)
          picked_holds v NoClause used h = h
          picked_holds v (AndClause es fallback ss p cs) used h =
              fits_hold p v es used.0 (thens (run_holds ss used.1 None) (landing_holds ss (all_placed g ss) (λ m. stands_placed g m ss) (λ m. run_from s1 f b1 ss (Some m)) (λ m. run_from s2 f b2 (all_placed g ss) (Some m)) (λ m. run_holds ss used.1 (Some m)) b1 b2 less less_too)) (picked_holds v cs used.2 h)

          defaulted_holds : (cs : Clauses) → NamesOfClausesBy (using d f.unit) cs → R Course (defaulted s1 f b1 cs) (defaulted s2 f b2 (clauses_placed g cs))
          defaulted_holds NoClause used = gives Went
          defaulted_holds (AndClause es fallback ss p cs) used =
              choice_if fallback (thens (run_holds ss used.1 None) (landing_holds ss (all_placed g ss) (λ m. stands_placed g m ss) (λ m. run_from s1 f b1 ss (Some m)) (λ m. run_from s2 f b2 (all_placed g ss) (Some m)) (λ m. run_holds ss used.1 (Some m)) b1 b2 less less_too)) (defaulted_holds cs used.2)

        pub all_hold : (ss : Commands) → NamesOfCommandsBy (using d f.unit) ss → R Course (all_meaning s1 f b1 ss) (all_meaning s2 f b2 (all_placed g ss))
        all_hold ss used = thens (run_holds ss used None) (landing_holds ss (all_placed g ss) (λ m. stands_placed g m ss) (λ m. run_from s1 f b1 ss (Some m)) (λ m. run_from s2 f b2 (all_placed g ss) (Some m)) (λ m. run_holds ss used (Some m)) b1 b2 less less_too)

      -- ---- units beside, at most so many statements of them ----

      past_end_holds : (m : Bool) → R ⊤ (past_end m) (past_end m)
      past_end_holds true = b.halts _
      past_end_holds false = gives_unit

      module _ (code1 code2 : List Line) (like : LikeLines d.At code1 code2) (used : NamesOfLinesBy (using d f.unit) code1) where
        abbrev f2 : Frame
        f2 = record { unit = f.unit; actuals = f.actuals; place = g f.place }

        past_holds : R ⊤ (past_end (is_main (d.linked1.context f.unit).header)) (past_end (is_main (d.linked2.context f.unit).header))
        past_holds = subst (λ h. R ⊤ (past_end (is_main h)) (past_end (is_main (d.linked2.context f.unit).header))) (sym (r.parts.same.header f.unit)) (past_end_holds (is_main (d.linked2.context f.unit).header))

        abbrev Onwards : Onward → Onward → Type 0
        Onwards go1 go2 = (r1 r2 : List Line) → LikeLines d.At r1 r2 → NamesOfLinesBy (using d f.unit) r1 → (pr : Progress) → R ⊤ (go1 (stand r1 pr)) (go2 (stand r2 pr))

        waiting_holds : (r1 r2 : List Line) → LikeLines d.At r1 r2 → R ⊤ (waiting (is_main (d.linked1.context f.unit).header) r1) (waiting (is_main (d.linked2.context f.unit).header) r2)
        waiting_holds [] [] lr = past_holds
        waiting_holds [] (a2 ∷ r2) lr = absurd lr
        waiting_holds (a1 ∷ r1) [] lr = absurd lr
        waiting_holds (a1 ∷ r1) (a2 ∷ r2) lr = b.halts GoesOn

        fetch_holds : (go1 go2 : Onward) → Onwards go1 go2 → (r1 r2 : List Line) → LikeLines d.At r1 r2 → NamesOfLinesBy (using d f.unit) r1 → (pr : Progress) → R ⊤ (fetch s1 f code1 r1 go1 pr) (fetch s2 f2 code2 r2 go2 pr)
        fetch_holds go1 go2 h [] [] lr ur pr = past_holds
        fetch_holds go1 go2 h [] (a2 ∷ r2) lr ur pr = absurd lr
        fetch_holds go1 go2 h (a1 ∷ r1) [] lr ur pr = absurd lr
        fetch_holds go1 go2 h (a1 ∷ r1) (a2 ∷ r2) lr ur pr =
            let both : Frames = record { unit = f.unit; actuals = f.actuals; here = a1.place; there = a2.place } in
            let does_one : R ⊤ (perform s1 (one both) code1 a1.label a1.act r1 go1 pr) (perform s2 (two both) code2 a1.label a1.act r2 go2 pr) =
            performs ⊤ d RI RI r many both (record { places = lr.2; actuals = fair }) code1 code2 like used (λ i. go1) go2 h a1.label r1 r2 lr.3 ur.1 pr a1.act ur.0 in
            thens begins (λ _. subst (λ o. R ⊤ (perform s1 (one both) code1 a1.label a1.act r1 go1 pr) (perform s2 (two both) code2 o a2.act r2 go2 pr)) lr.0
            (subst (λ a. R ⊤ (perform s1 (one both) code1 a1.label a1.act r1 go1 pr) (perform s2 (two both) code2 a1.label a r2 go2 pr)) lr.1 does_one))

        pub beside_holds : (n1 n2 : ℕ) → n1 ≤ n2 → n2 ≤ n1 + e → Onwards (beside s1 f code1 n1) (beside s2 f2 code2 n2)
        beside_holds zero zero le ge r1 r2 lr ur pr = waiting_holds (runnable r1) (runnable r2) (like_runnable d.At r1 r2 lr)
        beside_holds zero (suc n2) le ge r1 r2 lr ur pr = by_rest (beside_holds zero n2 (omega arith) (omega arith)) (runnable r1) (runnable r2) (like_runnable d.At r1 r2 lr) (names_runnable (using d f.unit) r1 ur)
          where
            by_rest : Onwards (beside s1 f code1 zero) (beside s2 f2 code2 n2) → (q1 q2 : List Line) → LikeLines d.At q1 q2 → NamesOfLinesBy (using d f.unit) q1 → R ⊤ (waiting (is_main (d.linked1.context f.unit).header) q1) (fetch s2 f2 code2 q2 (beside s2 f2 code2 n2) pr)
            by_rest h [] [] lq uq = past_holds
            by_rest h [] (a2 ∷ q2) lq uq = absurd lq
            by_rest h (a1 ∷ q1) [] lq uq = absurd lq
            by_rest h (a1 ∷ q1) (a2 ∷ q2) lq uq = b.stays {m1 = fetch s1 f code1 (a1 ∷ q1) (beside s1 f code1 zero) pr} {m2 = fetch s2 f2 code2 (a2 ∷ q2) (beside s2 f2 code2 n2) pr} (omega arith) (fetch_holds (beside s1 f code1 zero) (beside s2 f2 code2 n2) h (a1 ∷ q1) (a2 ∷ q2) lq uq pr)
        beside_holds (suc n1) zero le ge r1 r2 lr ur pr = absurd (omega arith)
        beside_holds (suc n1) (suc n2) le ge r1 r2 lr ur pr =
            fetch_holds (beside s1 f code1 n1) (beside s2 f2 code2 n2) (beside_holds n1 n2 (omega arith) (omega arith)) (runnable r1) (runnable r2) (like_runnable d.At r1 r2 lr) (names_runnable (using d f.unit) r1 ur) pr
