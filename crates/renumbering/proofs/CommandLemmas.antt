-- The same of what statements of Ratfor do.
use Rattle.std.proofs.Common.{ℕ, zero, suc, Bool, Option, Some, None}
use Rattle.ground.specs.declared.place.Place.{Place}
use Rattle.ground.specs.declared.value.Kind.TheVariants.{Integer}
use Rattle.ground.specs.Content.{Content}
use Rattle.f66_tree.specs.declared.expression.Operator.TheVariants.{Eq}
use Rattle.f66_tree.specs.Syntax.{Text, Formula, Formulas, NoFormula, AndFormula, Act, Return}
use Rattle.f66_tree.specs.World.{World, GoesOn, Out, Gives, bind, settle, counted}
use Rattle.f66_tree.specs.Units.{is_note, name_of, dummies_of, position, Setting, Frame, moved_to}
use Rattle.f66_tree.specs.Uses.{Using, NamesBy, NamesOfAllBy, NamesOfActBy}
use Rattle.f66_tree.specs.Evaluation.{base_by, asked, operate, truth_in, store_at, value_of}
use Rattle.f66_tree.specs.Statements.{LoopParameters, does}
use Rattle.rat_tree.specs.Syntax.{Command, Empty, Block, If, IfElse, While, For, Repeat, RepeatUntil, Do, Switch, Break, Next, Plain, Labelled, Commands, NoCommand, AndCommand, Clauses, NoClause, AndClause}
use Rattle.rat_tree.specs.Uses.{NamesIfAnyBy, ActIfAnyBy, NamesOfCommandBy, NamesOfCommandsBy, NamesOfClausesBy}
use Rattle.rat_tree.specs.Meaning.{Course, Went, Jumps, Backs, Leave, Again, course_of, Continuation, went, stays, after, after_turn, turned, turns, always, has_own_label, stands, landing, decides, plain_statement, passed_label, tested, performed, stepped, until, do_turns, gives_back, is_case, fits_case, meaning, run_from, picked, defaulted, all_meaning}
use Rattle.rat_tree.specs.Syntax as ratfor_tree
use Rattle.renumbering.specs.Bodies.{WhereReturned, AllWhereReturned, ClausesWhereReturned}
use Rattle.renumbering.proofs.PairLemmas.{Twins, Pairs, Any, binds, thens, gives, halts, choice, choice_if, settles_any, seen}
use Rattle.renumbering.proofs.ValueLemmas.{Around, side1, side2, IsSite, base_pairs, value_pairs, asks_pairs}
use Rattle.renumbering.proofs.StatementLemmas.{store_pairs, start_pairs, turn_pairs, does_pairs}
use Rattle.renumbering.proofs.RunLemmas.{moved_site}

-- two continuations that do the same
abbrev pub Goes : Twins → Continuation → Continuation → Type 0
Goes t go1 go2 = Pairs t Course Any go1 go2

module _ (t : Twins) where
  pub counts_one : {A : Type 0} {P : A → Type 0} {m1 m2 : World → Out A} → Pairs t A P m1 m2 → Pairs t A P (λ w. m1 (counted w)) (λ w. m2 (counted w))
  counts_one h = record { run = λ w st agree. h.run (counted w) st agree }

  ends : (c : Course) → Goes t (λ w. Gives c w) (λ w. Gives c w)
  ends c = gives t Any c tt

  -- ---- what comes after a statement ----

  after_pairs : {go1 go2 : Continuation} → Goes t go1 go2 → (c : Course) → Goes t (after go1 c) (after go2 c)
  after_pairs h Went = h
  after_pairs h (Jumps l) = ends (Jumps l)
  after_pairs h Backs = ends Backs
  after_pairs h (Leave k) = ends (Leave k)
  after_pairs h (Again k) = ends (Again k)

  after_turn_pairs : {go1 go2 : Continuation} → Goes t go1 go2 → (c : Course) → Goes t (after_turn go1 c) (after_turn go2 c)
  after_turn_pairs h Went = h
  after_turn_pairs h (Jumps l) = ends (Jumps l)
  after_turn_pairs h Backs = ends Backs
  after_turn_pairs h (Leave zero) = ends Went
  after_turn_pairs h (Leave (suc k)) = ends (Leave k)
  after_turn_pairs h (Again zero) = h
  after_turn_pairs h (Again (suc k)) = ends (Again k)

  module _ (ss : Commands) (go1 go2 : ℕ → Continuation) (h : (l : ℕ) → Goes t (go1 l) (go2 l)) where
    landing_pairs : (n : ℕ) (c : Course) → Goes t (landing n ss go1 c) (landing n ss go2 c)
    landing_pairs zero (Jumps l) = choice_if t (stands l ss) (halts t Any GoesOn) (ends (Jumps l))
    landing_pairs (suc n) (Jumps l) = choice_if t (stands l ss) (thens t (counts_one (h l)) (λ c. landing_pairs n c)) (ends (Jumps l))
    landing_pairs zero Went = ends Went
    landing_pairs (suc n) Went = ends Went
    landing_pairs zero Backs = ends Backs
    landing_pairs (suc n) Backs = ends Backs
    landing_pairs zero (Leave k) = ends (Leave k)
    landing_pairs (suc n) (Leave k) = ends (Leave k)
    landing_pairs zero (Again k) = ends (Again k)
    landing_pairs (suc n) (Again k) = ends (Again k)

  -- a test, or what stands after a turn
  abbrev TopGoes : (Continuation → Continuation → Continuation) → (Continuation → Continuation → Continuation) → Type 0
  TopGoes top1 top2 = (go1 go2 leave1 leave2 : Continuation) → Goes t go1 go2 → Goes t leave1 leave2 → Goes t (top1 go1 leave1) (top2 go2 leave2)

  loop_pairs : (top1 top2 : Continuation → Continuation → Continuation) (body1 body2 : Continuation) (bottom1 bottom2 : Continuation → Continuation → Continuation) → TopGoes top1 top2 → Goes t body1 body2 → TopGoes bottom1 bottom2 → (n : ℕ) → Goes t (turns n top1 body1 bottom1) (turns n top2 body2 bottom2)
  loop_pairs top1 top2 body1 body2 bottom1 bottom2 top h bottom zero = top stays stays went went (halts t Any GoesOn) (ends Went)
  loop_pairs top1 top2 body1 body2 bottom1 bottom2 top h bottom (suc n) =
      top (λ w1. turned (body1 (counted w1)) (bottom1 (turns n top1 body1 bottom1) went)) (λ w1. turned (body2 (counted w1)) (bottom2 (turns n top2 body2 bottom2) went)) went went
      (thens t (counts_one h) (after_turn_pairs (bottom (turns n top1 body1 bottom1) (turns n top2 body2 bottom2) went went (loop_pairs top1 top2 body1 body2 bottom1 bottom2 top h bottom n) (ends Went)))) (ends Went)

  always_goes : TopGoes always always
  always_goes go1 go2 leave1 leave2 h k = h

-- ---- within a unit ----

module _ (t : Twins) (a : Around t) (f : Frame) (site : IsSite t f) where
  abbrev s1 : Setting
  s1 = side1 t a

  abbrev s2 : Setting
  s2 = side2 t a

  abbrev U : Using
  U = t.used f.unit

  at : (p : Place) → IsSite t (moved_to p f)
  at p = moved_site t p f site

  decides_pairs : (p : Place) (e : Formula) → NamesBy U e → {yea1 yea2 nay1 nay2 : Continuation} → Goes t yea1 yea2 → Goes t nay1 nay2 → Goes t (decides s1 f p e yea1 nay1) (decides s2 f p e yea2 nay2)
  decides_pairs p e used h k = thens t (asks_pairs t a (moved_to p f) (at p) e used) (λ holds. choice t holds h k)

  plainly_pairs : (p : Place) (s : Act) → NamesOfActBy U s → Goes t (plain_statement s1 f p s) (plain_statement s2 f p s)
  plainly_pairs p s used = choice_if t (is_note s) (ends t Went) (thens t (counts_one t (does_pairs t a (moved_to p f) (at p) s used)) (λ y. ends t (course_of y)))

  labelled_pairs : (o : Option ℕ) (p : Place) (s : Act) → NamesOfActBy U s → Goes t (passed_label s1 f o p s) (passed_label s2 f o p s)
  labelled_pairs None p s used = plainly_pairs p s used
  labelled_pairs (Some m) p s used = choice_if t (is_note s) (ends t Went) (counts_one t (plainly_pairs p s used))

  tested_goes : (p : Place) (e : Option Formula) → NamesIfAnyBy U e → TopGoes t (tested s1 f p e) (tested s2 f p e)
  tested_goes p None used go1 go2 leave1 leave2 h k = h
  tested_goes p (Some e) used go1 go2 leave1 leave2 h k = decides_pairs p e used h k

  performed_pairs : (p : Place) (s : Option Act) → ActIfAnyBy U s → {go1 go2 : Continuation} → Goes t go1 go2 → Goes t (performed s1 f p s go1) (performed s2 f p s go2)
  performed_pairs p None used h = h
  performed_pairs p (Some s) used h = thens t (plainly_pairs p s used) (after_pairs t h)

  do_pairs : (p : Place) (x : Text) → U.alone x → (k : LoopParameters) (body1 body2 : Continuation) → Goes t body1 body2 → (n : ℕ) → Goes t (do_turns s1 f n p x k body1) (do_turns s2 f n p x k body2)
  do_pairs p x used k body1 body2 h zero = halts t Any GoesOn
  do_pairs p x used k body1 body2 h (suc n) =
      thens t (counts_one t h) (after_turn_pairs t (thens t (turn_pairs t a (moved_to p f) (at p) x used k) (λ goes_on. choice t goes_on (do_pairs p x used k body1 body2 h n) (ends t Went))))

  case_pairs : (p : Place) (v : Content) (e : Formula) → NamesBy U e → Pairs t Bool Any (is_case s1 f p v e) (is_case s2 f p v e)
  case_pairs p v e used =
      thens t (settles_any t p (asked Integer v)) (λ v1. thens t (value_pairs t a (moved_to p f) (at p) e used) (λ u. thens t (settles_any t p (operate Eq v1 u)) (λ o. settles_any t p (truth_in o))))

  fits_pairs : (p : Place) (v : Content) (es : Formulas) → NamesOfAllBy U es → {yea1 yea2 nay1 nay2 : Continuation} → Goes t yea1 yea2 → Goes t nay1 nay2 → Goes t (fits_case s1 f p v es yea1 nay1) (fits_case s2 f p v es yea2 nay2)
  fits_pairs p v NoFormula used h k = k
  fits_pairs p v (AndFormula e es) used h k = thens t (counts_one t (case_pairs p v e used.0)) (λ holds. choice t holds h (fits_pairs p v es used.1 h k))

  -- a value is returned in the unit's own name
  abbrev own : Text
  own = name_of (t.two.context f.unit).header

  back_pairs : (p : Place) (e : Formula) → U.alone own → NamesBy U e → Goes t (gives_back s1 f p (Some e)) (gives_back s2 f p (Some e))
  back_pairs p e known used =
      seen t f.unit site.inside (λ c. Goes t
      (λ w. bind (settle p (base_by (position (name_of c.header) (dummies_of (t.one.context f.unit).header)) f.unit f.actuals (name_of c.header)) (counted w)) (λ spot w1. bind (value_of s1 (moved_to p f) e w1) (λ v w2. bind (store_at s1 (moved_to p f) spot v w2) (λ _ w3. bind (does s1 (moved_to p f) Return w3) (λ y w4. Gives (course_of y) w4)))))
      (gives_back s2 f p (Some e)))
      (binds t (counts_one t (base_pairs t a (moved_to p f) (at p) own known)) (λ spot real. thens t (value_pairs t a (moved_to p f) (at p) e used) (λ v. thens t (store_pairs t a (moved_to p f) (at p) spot v real) (λ _.
      thens t (does_pairs t a (moved_to p f) (at p) Return tt) (λ y. ends t (course_of y))))))

  -- Back holds wherever a value is returned
  module _ (b : ℕ) (Back : Type 0) (stands : Back → U.alone own) where
    mutual
      meaning_pairs : (c : Command) → NamesOfCommandBy U c → WhereReturned Back c → Goes t (meaning s1 f b c) (meaning s2 f b c)
      meaning_pairs (Empty p) used back = counts_one t (ends t Went)
      meaning_pairs (Block p ss) used back = thens t (counts_one t (run_pairs ss used back None)) (landing_pairs t ss (λ m. run_from s1 f b ss (Some m)) (λ m. run_from s2 f b ss (Some m)) (λ m. run_pairs ss used back (Some m)) b)
      meaning_pairs (If p e c) used back = counts_one t (decides_pairs p e used.0 (meaning_pairs c used.1 back) (ends t Went))
      meaning_pairs (IfElse p e c d) used back = counts_one t (decides_pairs p e used.0 (meaning_pairs c used.1 back.0) (meaning_pairs d used.2 back.1))
      meaning_pairs (While p e c) used back =
          counts_one t (loop_pairs t (tested s1 f p (Some e)) (tested s2 f p (Some e)) (meaning s1 f b c) (meaning s2 f b c) always always (tested_goes p (Some e) used.0) (meaning_pairs c used.1 back) (always_goes t) b)
      meaning_pairs (For p first e step c) used back =
          counts_one t (performed_pairs p first used.0 (loop_pairs t (tested s1 f p e) (tested s2 f p e) (meaning s1 f b c) (meaning s2 f b c) (stepped s1 f p step) (stepped s2 f p step) (tested_goes p e used.1) (meaning_pairs c used.3 back)
          (λ go1 go2 leave1 leave2 h k. performed_pairs p step used.2 h) b))
      meaning_pairs (Repeat p c) used back =
          counts_one t (loop_pairs t (tested s1 f p None) (tested s2 f p None) (meaning s1 f b c) (meaning s2 f b c) always always (tested_goes p None tt) (meaning_pairs c used back) (always_goes t) b)
      meaning_pairs (RepeatUntil p c e q) used back =
          counts_one t (loop_pairs t (tested s1 f p None) (tested s2 f p None) (meaning s1 f b c) (meaning s2 f b c) (until s1 f q e) (until s2 f q e) (tested_goes p None tt) (meaning_pairs c used.0 back)
          (λ go1 go2 leave1 leave2 h k. decides_pairs q e used.1 k h) b)
      meaning_pairs (Do p x i z d c) used back =
          thens t (counts_one t (start_pairs t a (moved_to p f) (at p) x i z d used.0 used.1 used.2 used.3)) (λ k. do_pairs p x used.0 k (meaning s1 f b c) (meaning s2 f b c) (meaning_pairs c used.4 back) b)
      meaning_pairs (Switch p e cs) used back = thens t (counts_one t (value_pairs t a (moved_to p f) (at p) e used.0)) (λ v. picked_pairs v cs used.1 back (defaulted_pairs cs used.1 back))
      meaning_pairs (Break p n) used back = counts_one t (ends t _)
      meaning_pairs (Next p n) used back = counts_one t (ends t _)
      meaning_pairs (ratfor_tree.Return p None) used back = plainly_pairs p Return tt
      meaning_pairs (ratfor_tree.Return p (Some e)) used back = back_pairs p e (stands back) used
      meaning_pairs (Plain o p s) used back = labelled_pairs o p s used
      meaning_pairs (Labelled m p c) used back = counts_one t (meaning_pairs c used back)

      run_pairs : (ss : Commands) → NamesOfCommandsBy U ss → AllWhereReturned Back ss → (from : Option ℕ) → Goes t (run_from s1 f b ss from) (run_from s2 f b ss from)
      run_pairs NoCommand used back from = ends t Went
      run_pairs (AndCommand c ss) used back None = thens t (meaning_pairs c used.0 back.0) (after_pairs t (run_pairs ss used.1 back.1 None))
      run_pairs (AndCommand c ss) used back (Some m) =
          choice_if t (has_own_label m c) (thens t (meaning_pairs c used.0 back.0) (after_pairs t (run_pairs ss used.1 back.1 None))) (run_pairs ss used.1 back.1 (Some m))

      picked_pairs : (v : Content) (cs : Clauses) → NamesOfClausesBy U cs → ClausesWhereReturned Back cs → {other1 other2 : Continuation} → Goes t other1 other2 → Goes t (picked s1 f b v cs other1) (picked s2 f b v cs other2)
      picked_pairs v NoClause used back h = h
      picked_pairs v (AndClause es fallback ss p cs) used back h =
          fits_pairs p v es used.0 (thens t (run_pairs ss used.1 back.0 None) (landing_pairs t ss (λ m. run_from s1 f b ss (Some m)) (λ m. run_from s2 f b ss (Some m)) (λ m. run_pairs ss used.1 back.0 (Some m)) b)) (picked_pairs v cs used.2 back.1 h)

      defaulted_pairs : (cs : Clauses) → NamesOfClausesBy U cs → ClausesWhereReturned Back cs → Goes t (defaulted s1 f b cs) (defaulted s2 f b cs)
      defaulted_pairs NoClause used back = ends t Went
      defaulted_pairs (AndClause es fallback ss p cs) used back =
          choice_if t fallback (thens t (run_pairs ss used.1 back.0 None) (landing_pairs t ss (λ m. run_from s1 f b ss (Some m)) (λ m. run_from s2 f b ss (Some m)) (λ m. run_pairs ss used.1 back.0 (Some m)) b)) (defaulted_pairs cs used.2 back.1)

    pub all_pairs : (ss : Commands) → NamesOfCommandsBy U ss → AllWhereReturned Back ss → Goes t (all_meaning s1 f b ss) (all_meaning s2 f b ss)
    all_pairs ss used back = thens t (run_pairs ss used back None) (landing_pairs t ss (λ m. run_from s1 f b ss (Some m)) (λ m. run_from s2 f b ss (Some m)) (λ m. run_pairs ss used back (Some m)) b)
