-- A checked unit never ends as Lost: a statement leaves only loops that stand around it, and goes only to labels that stand
-- directly in a list around it.
use Rattle.std.proofs.Common.{◌≡◌, ◌≢◌, ℕ, zero, suc, ◌+◌, ◌<◌, Bool, true, false, true≢false, List, [], ◌∷◌, Option, Some, None, refl, sym, ap, ◌∙◌, subst, arith}
use Rattle.std.specs.Prelude.{if◌then◌else◌, ◌||◌, ⊤}
use Rattle.ground.specs.declared.place.Place.{Place}
use Rattle.ground.specs.declared.value.Kind.TheVariants.{Integer}
use Rattle.ground.specs.Content.{Content}
use Rattle.f66_tree.specs.declared.expression.Operator.TheVariants.{Eq}
use Rattle.f66_tree.specs.Syntax.{Text, Formula, Formulas, NoFormula, AndFormula, Act, Return}
use Rattle.f66_tree.specs.World.{World, counted, End, Ended, GoesOn, Lost, Out, Gives, Halts, bind, settle, choose, shown}
use Rattle.f66_tree.specs.Uses.{Using, NamesBy, NamesOfAllBy, NamesOfActBy}
use Rattle.f66_tree.specs.Execution.{past_end}
use Rattle.f66_tree.specs.Units.{is_note, name_of, Spot, Linkage, Setting, Frame, moved_to}
use Rattle.f66_tree.specs.Evaluation.{asked, base, operate, truth_in, store_at, value_of, asks}
use Rattle.f66_tree.specs.Statements.{Exit, Normal, To, Back, LoopParameters, loop_start, loop_turn, does}
use Rattle.rat_tree.specs.Syntax.{Command, Empty, Block, If, IfElse, While, For, Repeat, RepeatUntil, Do, Switch, Break, Next, Plain, Labelled, Commands, NoCommand, AndCommand, Clauses, NoClause, AndClause}
use Rattle.rat_tree.specs.Uses.{NamesIfAnyBy, ActIfAnyBy, NamesOfCommandBy, NamesOfCommandsBy, NamesOfClausesBy}
use Rattle.rat_tree.specs.Meaning.{Course, Went, Jumps, Backs, Leave, Again, course_of, Flow, Continuation, went, stays, after, then_do, after_turn, turned, turns, always, has_own_label, stands, landing, landed, decides, plain_statement, passed_label, tested, performed, stepped, until, do_turns, is_case, fits_case, meaning, run_from, picked, defaulted, all_meaning, ended_by, ended}
use Rattle.rat_lower.specs.Checked.{IsBuilt, AreBuilt, ClausesBuilt, Fits, AllFit, ClausesFit, stands_in, ActLands, ActLandsIfAny, Lands, AllLand, ClausesLand}
use Rattle.rat_lower.proofs.Simulation.Exits.{Fine, Whatever, fine_bind, fine_settle, S, AsCalled, stores_fine, value_fine, asks_fine, start_fine, turn_fine, ExitLands, does_fine}
use Rattle.rat_tree.specs.Syntax as ratfor_tree

-- where d loops stand around, and these lists
abbrev pub CourseFits : ℕ → List Commands → Course → Type 0
CourseFits d around Went = ⊤
CourseFits d around (Jumps l) = stands_in l around ≡ true
CourseFits d around Backs = ⊤
CourseFits d around (Leave k) = k < d
CourseFits d around (Again k) = k < d

abbrev pub ThenFits : ℕ → List Commands → Continuation → Type 0
ThenFits d around go = (w : World) → Fine (CourseFits d around) (go w)

module _ (d : ℕ) (around : List Commands) where
  then_fits : (o : Flow) (go : Continuation) → Fine (CourseFits d around) o → ThenFits d around go → Fine (CourseFits d around) (then_do o go)
  then_fits o go h k = fine_bind (CourseFits d around) (CourseFits d around) o (after go) h by_course
    where
      by_course : (c : Course) → CourseFits d around c → (w : World) → Fine (CourseFits d around) (after go c w)
      by_course Went ok w = k w
      by_course (Jumps l) ok w = ok
      by_course Backs ok w = tt
      by_course (Leave i) ok w = ok
      by_course (Again i) ok w = ok

  turned_fits : (o : Flow) (go : Continuation) → Fine (CourseFits (suc d) around) o → ThenFits d around go → Fine (CourseFits d around) (turned o go)
  turned_fits o go h k = fine_bind (CourseFits (suc d) around) (CourseFits d around) o (after_turn go) h by_course
    where
      by_course : (c : Course) → CourseFits (suc d) around c → (w : World) → Fine (CourseFits d around) (after_turn go c w)
      by_course Went ok w = k w
      by_course (Jumps l) ok w = ok
      by_course Backs ok w = tt
      by_course (Leave zero) ok w = tt
      by_course (Leave (suc i)) ok w = omega arith
      by_course (Again zero) ok w = k w
      by_course (Again (suc i)) ok w = omega arith

  landed_fits : (ss : Commands) (go : ℕ → Continuation) → ((l : ℕ) → ThenFits d (ss ∷ around) (go l)) → (n : ℕ) (o : Flow) → Fine (CourseFits d (ss ∷ around)) o → Fine (CourseFits d around) (landed n ss go o)
  landed_fits ss go k n o h = fine_bind (CourseFits d (ss ∷ around)) (CourseFits d around) o (landing n ss go) h (by_course n)
    where
      further : (l : ℕ) → stands l ss ≡ false → stands_in l (ss ∷ around) ≡ true → stands_in l around ≡ true
      further l e ok = sym (ap (λ v. v || stands_in l around) e) ∙ ok

      by_course : (n : ℕ) (c : Course) → CourseFits d (ss ∷ around) c → (w : World) → Fine (CourseFits d around) (landing n ss go c w)
      by_course zero (Jumps l) ok w = there (stands l ss) refl
        where
          there : (v : Bool) → stands l ss ≡ v → Fine (CourseFits d around) (if v then Halts GoesOn w else Gives (Jumps l) w)
          there true e = tt
          there false e = further l e ok
      by_course (suc n) (Jumps l) ok w = there (stands l ss) refl (fine_bind (CourseFits d (ss ∷ around)) (CourseFits d around) (go l (counted w)) (landing n ss go) (k l (counted w)) (by_course n))
        where
          there : (v : Bool) → stands l ss ≡ v → Fine (CourseFits d around) (bind (go l (counted w)) (landing n ss go)) → Fine (CourseFits d around) (if v then bind (go l (counted w)) (landing n ss go) else Gives (Jumps l) w)
          there true e h1 = h1
          there false e h1 = further l e ok
      by_course zero Went ok w = tt
      by_course (suc n) Went ok w = tt
      by_course zero Backs ok w = tt
      by_course (suc n) Backs ok w = tt
      by_course zero (Leave i) ok w = ok
      by_course (suc n) (Leave i) ok w = ok
      by_course zero (Again i) ok w = ok
      by_course (suc n) (Again i) ok w = ok

module _ (l : Linkage) (call : ℕ → List Spot → World → Out ⊤) (IsFound : ℕ → Type 0) (finds : (v : ℕ) (ps : List Spot) → IsFound v → (w : World) → Fine Whatever (call v ps w)) (b : ℕ) (f : Frame) where
  abbrev s : Setting
  s = S l call IsFound finds b (λ n. n + 1)

  abbrev U : Using
  U = AsCalled l call IsFound finds b (λ n. n + 1) f.unit

  module _ (d : ℕ) (around : List Commands) where
    chosen_fits : (v : Bool) (w : World) (yea nay : Continuation) → ThenFits d around yea → ThenFits d around nay → Fine (CourseFits d around) (choose v (yea w) (nay w))
    chosen_fits true w yea nay y n = y w
    chosen_fits false w yea nay y n = n w

    decides_fits : (p : Place) (e : Formula) → NamesBy U e → (yea nay : Continuation) → ThenFits d around yea → ThenFits d around nay → ThenFits d around (decides s f p e yea nay)
    decides_fits p e used yea nay y n w = fine_bind Whatever (CourseFits d around) (asks s (moved_to p f) e w) _ (asks_fine l call IsFound finds b (λ n1. n1 + 1) (moved_to p f) e used w) (λ v _ w1. chosen_fits v w1 yea nay y n)

    -- a plain statement that has been counted
    begun_fits : (p : Place) (a : Act) → NamesOfActBy U a → ActLands around a → ThenFits d around (λ w. bind (does s (moved_to p f) a w) (λ y w1. Gives (course_of y) w1))
    begun_fits p a used h w =
        fine_bind (ExitLands l call IsFound finds b (λ n1. n1 + 1) around) (CourseFits d around) (does s (moved_to p f) a w) (λ y w1. Gives (course_of y) w1) (does_fine l call IsFound finds b (λ n1. n1 + 1) around (moved_to p f) a used w h) exits
      where
        exits : (y : Exit) → ExitLands l call IsFound finds b (λ n1. n1 + 1) around y → (w1 : World) → CourseFits d around (course_of y)
        exits Normal ok w1 = tt
        exits (To m) ok w1 = ok
        exits Back ok w1 = tt

    plainly_fits : (p : Place) (a : Act) → NamesOfActBy U a → ActLands around a → ThenFits d around (plain_statement s f p a)
    plainly_fits p a used h w = by_note (is_note a)
      where
        by_note : (v : Bool) → Fine (CourseFits d around) (if v then Gives Went w else bind (does s (moved_to p f) a (counted w)) (λ y w1. Gives (course_of y) w1))
        by_note true = tt
        by_note false = begun_fits p a used h (counted w)

    labelled_fits : (o : Option ℕ) (p : Place) (a : Act) → NamesOfActBy U a → ActLands around a → ThenFits d around (passed_label s f o p a)
    labelled_fits None p a used h w = plainly_fits p a used h w
    labelled_fits (Some m) p a used h w = by_note (is_note a)
      where
        by_note : (v : Bool) → Fine (CourseFits d around) (if v then Gives Went w else plain_statement s f p a (counted w))
        by_note true = tt
        by_note false = plainly_fits p a used h (counted w)

    tested_fits : (p : Place) (o : Option Formula) → NamesIfAnyBy U o → (yea nay : Continuation) → ThenFits d around yea → ThenFits d around nay → ThenFits d around (tested s f p o yea nay)
    tested_fits p None used yea nay y n w = y w
    tested_fits p (Some e) used yea nay y n w = decides_fits p e used yea nay y n w

    performed_fits : (p : Place) (o : Option Act) → ActIfAnyBy U o → (go : Continuation) → ActLandsIfAny around o → ThenFits d around go → ThenFits d around (performed s f p o go)
    performed_fits p None used go h k w = k w
    performed_fits p (Some a) used go h k w = then_fits d around (plain_statement s f p a w) go (plainly_fits p a used h w) k

    abbrev BottomFits : (Continuation → Continuation → Continuation) → Type 0
    BottomFits bottom = (go leave : Continuation) → ThenFits d around go → ThenFits d around leave → ThenFits d around (bottom go leave)

    turns_fit : (m : ℕ) (p : Place) (o : Option Formula) → NamesIfAnyBy U o → (body : Continuation) (bottom : Continuation → Continuation → Continuation) → ThenFits (suc d) around body → BottomFits bottom → ThenFits d around (turns m (tested s f p o) body bottom)
    turns_fit zero p o used body bottom h k = tested_fits p o used stays went (λ w. tt) (λ w. tt)
    turns_fit (suc m) p o used body bottom h k =
        let go = turns m (tested s f p o) body bottom in
        tested_fits p o used (λ w1. turned (body (counted w1)) (bottom go went)) went
        (λ w1. turned_fits d around (body (counted w1)) (bottom go went) (h (counted w1)) (k go went (turns_fit m p o used body bottom h k) (λ w. tt))) (λ w. tt)

    always_fits : BottomFits always
    always_fits go leave g h w = g w

    stepped_fits : (p : Place) (o : Option Act) → ActIfAnyBy U o → ActLandsIfAny around o → BottomFits (stepped s f p o)
    stepped_fits p o used la go leave g h w = performed_fits p o used go la g w

    until_fits : (p : Place) (e : Formula) → NamesBy U e → BottomFits (until s f p e)
    until_fits p e used go leave g h w = decides_fits p e used leave go h g w

    counts_fit : (m : ℕ) (p : Place) (x : Text) (k : LoopParameters) (body : Continuation) → ThenFits (suc d) around body → ThenFits d around (do_turns s f m p x k body)
    counts_fit zero p x k body h w = tt
    counts_fit (suc m) p x k body h w =
        turned_fits d around (body (counted w)) _ (h (counted w))
        (λ w1. fine_bind Whatever (CourseFits d around) (loop_turn s (moved_to p f) x k w1) _ (turn_fine l call IsFound finds b (λ n1. n1 + 1) (moved_to p f) x k w1) (λ v _ w2. chosen_fits v w2 (do_turns s f m p x k body) went (counts_fit m p x k body h) (λ w3. tt)))

    case_fine : (p : Place) (v : Content) (e : Formula) → NamesBy U e → (w : World) → Fine Whatever (is_case s f p v e w)
    case_fine p v e used w =
        fine_bind Whatever Whatever (settle p (asked Integer v) w) _ (fine_settle p (asked Integer v) w) (λ v1 _ w1.
        fine_bind Whatever Whatever (value_of s (moved_to p f) e w1) _ (value_fine l call IsFound finds b (λ n1. n1 + 1) (moved_to p f) e used w1) (λ u _ w2.
        fine_bind Whatever Whatever (settle p (operate Eq v1 u) w2) _ (fine_settle p (operate Eq v1 u) w2) (λ t _ w3. fine_settle p (truth_in t) w3)))

    fits_fit : (p : Place) (v : Content) (es : Formulas) → NamesOfAllBy U es → (yea nay : Continuation) → ThenFits d around yea → ThenFits d around nay → ThenFits d around (fits_case s f p v es yea nay)
    fits_fit p v NoFormula used yea nay y n w = n w
    fits_fit p v (AndFormula e es) used yea nay y n w = fine_bind Whatever (CourseFits d around) (is_case s f p v e (counted w)) _ (case_fine p v e used.0 (counted w)) (λ h _ w1. chosen_fits h w1 yea (fits_case s f p v es yea nay) y (fits_fit p v es used.1 yea nay y n))

    if_fits : (v : Bool) (o1 o2 : Flow) → Fine (CourseFits d around) o1 → Fine (CourseFits d around) o2 → Fine (CourseFits d around) (if v then o1 else o2)
    if_fits true o1 o2 h k = h
    if_fits false o1 o2 h k = k

  mutual
    pub meaning_fits : (c : Command) → NamesOfCommandBy U c → (d : ℕ) (around : List Commands) → IsBuilt c → Fits d c → Lands around c → ThenFits d around (meaning s f b c)
    meaning_fits (Empty p) used d around bu fi la w = tt
    meaning_fits (Block p ss) used d around bu fi la w = landed_fits d around ss (λ m. run_from s f b ss (Some m)) (λ m. run_fits ss used d (ss ∷ around) bu fi la (Some m)) b (run_from s f b ss None (counted w)) (run_fits ss used d (ss ∷ around) bu fi la None (counted w))
    meaning_fits (If p e c) used d around bu fi la w = decides_fits d around p e used.0 (meaning s f b c) went (meaning_fits c used.1 d around bu fi la) (λ w1. tt) (counted w)
    meaning_fits (IfElse p e c1 c2) used d around bu fi la w = decides_fits d around p e used.0 (meaning s f b c1) (meaning s f b c2) (meaning_fits c1 used.1 d around bu.0 fi.0 la.0) (meaning_fits c2 used.2 d around bu.1 fi.1 la.1) (counted w)
    meaning_fits (While p e c) used d around bu fi la w = turns_fit d around b p (Some e) used.0 (meaning s f b c) always (meaning_fits c used.1 (suc d) around bu fi la) (always_fits d around) (counted w)
    meaning_fits (For p first o step c) used d around bu fi la w =
        performed_fits d around p first used.0 (turns b (tested s f p o) (meaning s f b c) (stepped s f p step)) la.0 (turns_fit d around b p o used.1 (meaning s f b c) (stepped s f p step) (meaning_fits c used.3 (suc d) around bu.2 fi la.2) (stepped_fits d around p step used.2 la.1)) (counted w)
    meaning_fits (Repeat p c) used d around bu fi la w = turns_fit d around b p None tt (meaning s f b c) always (meaning_fits c used (suc d) around bu fi la) (always_fits d around) (counted w)
    meaning_fits (RepeatUntil p c e q) used d around bu fi la w = turns_fit d around b p None tt (meaning s f b c) (until s f q e) (meaning_fits c used.0 (suc d) around bu fi la) (until_fits d around q e used.1) (counted w)
    meaning_fits (Do p x i1 i2 i3 c) used d around bu fi la w =
        fine_bind Whatever (CourseFits d around) (loop_start s (moved_to p f) x i1 i2 i3 (counted w)) _ (start_fine l call IsFound finds b (λ n1. n1 + 1) (moved_to p f) x i1 i2 i3 (counted w)) (λ k _ w1. counts_fit d around b p x k (meaning s f b c) (meaning_fits c used.4 (suc d) around bu fi la) w1)
    meaning_fits (Switch p e cs) used d around bu fi la w =
        fine_bind Whatever (CourseFits d around) (value_of s (moved_to p f) e (counted w)) _ (value_fine l call IsFound finds b (λ n1. n1 + 1) (moved_to p f) e used.0 (counted w)) (λ v _ w1. picked_fits cs used.1 v d around bu fi la (defaulted s f b cs) (default_fits cs used.1 d around bu fi la) w1)
    meaning_fits (Break p zero) used d around bu fi la w = absurd (omega (arith, fi.0))
    meaning_fits (Break p (suc n)) used d around bu fi la w = fi.1
    meaning_fits (Next p zero) used d around bu fi la w = absurd (omega (arith, fi.0))
    meaning_fits (Next p (suc n)) used d around bu fi la w = fi.1
    meaning_fits (ratfor_tree.Return p None) used d around bu fi la w = plainly_fits d around p Return tt tt w
    meaning_fits (ratfor_tree.Return p (Some e)) used d around bu fi la w =
        fine_bind Whatever (CourseFits d around) (settle p (base s f (name_of (l.context f.unit).header)) (counted w)) _ (fine_settle p (base s f (name_of (l.context f.unit).header)) (counted w)) (λ q _ w1.
        fine_bind Whatever (CourseFits d around) (value_of s (moved_to p f) e w1) _ (value_fine l call IsFound finds b (λ n1. n1 + 1) (moved_to p f) e used w1) (λ v _ w2.
        fine_bind Whatever (CourseFits d around) (store_at s (moved_to p f) q v w2) _ (stores_fine l call IsFound finds b (λ n1. n1 + 1) p q v w2) (λ _ _ w3. begun_fits d around p Return tt tt w3)))
    meaning_fits (Plain o p a) used d around bu fi la w = labelled_fits d around o p a used la w
    meaning_fits (Labelled m p c) used d around bu fi la w = meaning_fits c used d around bu fi la (counted w)

    run_fits : (ss : Commands) → NamesOfCommandsBy U ss → (d : ℕ) (around : List Commands) → AreBuilt ss → AllFit d ss → AllLand around ss → (from : Option ℕ) → ThenFits d around (run_from s f b ss from)
    run_fits NoCommand used d around bu fi la from w = tt
    run_fits (AndCommand c ss) used d around bu fi la None w = then_fits d around (meaning s f b c w) (run_from s f b ss None) (meaning_fits c used.0 d around bu.0 fi.0 la.0 w) (run_fits ss used.1 d around bu.1 fi.1 la.1 None)
    run_fits (AndCommand c ss) used d around bu fi la (Some m) w =
        if_fits d around (has_own_label m c) (then_do (meaning s f b c w) (run_from s f b ss None)) (run_from s f b ss (Some m) w) (then_fits d around (meaning s f b c w) (run_from s f b ss None) (meaning_fits c used.0 d around bu.0 fi.0 la.0 w) (run_fits ss used.1 d around bu.1 fi.1 la.1 None)) (run_fits ss used.1 d around bu.1 fi.1 la.1 (Some m) w)

    picked_fits : (cs : Clauses) → NamesOfClausesBy U cs → (v : Content) (d : ℕ) (around : List Commands) → ClausesBuilt cs → ClausesFit d cs → ClausesLand around cs → (other : Continuation) → ThenFits d around other → ThenFits d around (picked s f b v cs other)
    picked_fits NoClause used v d around bu fi la other k w = k w
    picked_fits (AndClause es fb ss p cs) used v d around bu fi la other k w =
        fits_fit d around p v es used.0 (λ w1. landed b ss (λ m. run_from s f b ss (Some m)) (run_from s f b ss None w1)) (picked s f b v cs other) (λ w1. landed_fits d around ss (λ m. run_from s f b ss (Some m)) (λ m. run_fits ss used.1 d (ss ∷ around) bu.0 fi.0 la.0 (Some m)) b (run_from s f b ss None w1) (run_fits ss used.1 d (ss ∷ around) bu.0 fi.0 la.0 None w1)) (picked_fits cs used.2 v d around bu.1 fi.1 la.1 other k) w

    default_fits : (cs : Clauses) → NamesOfClausesBy U cs → (d : ℕ) (around : List Commands) → ClausesBuilt cs → ClausesFit d cs → ClausesLand around cs → ThenFits d around (defaulted s f b cs)
    default_fits NoClause used d around bu fi la w = tt
    default_fits (AndClause es fb ss p cs) used d around bu fi la w =
        if_fits d around fb (landed b ss (λ m. run_from s f b ss (Some m)) (run_from s f b ss None w)) (defaulted s f b cs w) (landed_fits d around ss (λ m. run_from s f b ss (Some m)) (λ m. run_fits ss used.1 d (ss ∷ around) bu.0 fi.0 la.0 (Some m)) b (run_from s f b ss None w) (run_fits ss used.1 d (ss ∷ around) bu.0 fi.0 la.0 None w)) (default_fits cs used.2 d around bu.1 fi.1 la.1 w)

  -- a whole unit
  pub unit_found : (ss : Commands) → NamesOfCommandsBy U ss → AreBuilt ss → AllFit 0 ss → AllLand (ss ∷ []) ss → (main : Bool) (w : World) → Fine Whatever (ended main (all_meaning s f b ss w))
  unit_found ss used bu fi la main w =
      fine_bind (CourseFits 0 []) Whatever (all_meaning s f b ss w) (ended_by main) (landed_fits 0 [] ss (λ m. run_from s f b ss (Some m)) (λ m. run_fits ss used 0 (ss ∷ []) bu fi la (Some m)) b (run_from s f b ss None w) (run_fits ss used 0 (ss ∷ []) bu fi la None w)) by_course
    where
      past : (v : Bool) (w1 : World) → Fine Whatever (past_end v w1)
      past true w1 = tt
      past false w1 = tt

      by_course : (c : Course) → CourseFits 0 [] c → (w1 : World) → Fine Whatever (ended_by main c w1)
      by_course Went ok w1 = past main w1
      by_course (Jumps m) ok w1 = absurd (true≢false (sym ok))
      by_course Backs ok w1 = tt
      by_course (Leave k) ok w1 = absurd (omega (arith, ok))
      by_course (Again k) ok w1 = absurd (omega (arith, ok))

abbrev IsThere : End → Type 0
IsThere Lost = ⊥
IsThere (Ended x) = ⊤
IsThere GoesOn = ⊤

-- what is not lost does not show it
pub shown_fine : (o : Out ⊤) → Fine Whatever o → (shown o).end ≢ Lost
shown_fine o h e1 = subst IsThere e1 (there o h)
  where
    there : (o : Out ⊤) → Fine Whatever o → IsThere (shown o).end
    there (Gives a w1) h = tt
    there (Halts (Ended x) w1) h = tt
    there (Halts GoesOn w1) h = tt
    there (Halts Lost w1) h = h
