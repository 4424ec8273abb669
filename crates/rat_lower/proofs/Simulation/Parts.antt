-- Conditions, plain statements, the parts of loops, and the value and the cases of a switch follow.
use Rattle.std.proofs.Common.{◌≡◌, true, false, Bool, ℕ, zero, suc, ◌+◌, ◌*◌, ◌≤◌, List, [], ◌∷◌, Option, Some, None, refl, ap, ◌∙◌, arith}
use Rattle.std.specs.Prelude.{not, if◌then◌else◌}
use Rattle.ground.specs.declared.place.Place.{Place}
use Rattle.ground.specs.declared.value.Kind.TheVariants.{Integer}
use Rattle.ground.specs.Content.{Content, Nothing, Whole, Truth}
use Rattle.f66_tree.specs.declared.expression.Operator.TheVariants.{Eq}
use Rattle.f66_tree.specs.Syntax.{Text, Act, Assign, Goto, Computed, Sign, When, Loop, Invoke, Continue, Stop, Return, Read, Write, Format, Typed, Dimension, Common, Equivalence, Preset, Formula, Ref, Line, unlabelled_line}
use Rattle.f66_tree.specs.World.{Store, State, World, counted, put_in, holding, Out, Gives, Halts, bind, Try, Yields, Traps, Fails, settle, choose}
use Rattle.f66_tree.specs.Units.{is_note, position, dummies_of, kind_of, Spot, Held, Setting, Frame, moved_to}
use Rattle.f66_tree.specs.Uses.{NamesBy, NamesOfActBy}
use Rattle.f66_tree.specs.Evaluation.{base_by, load, asked, operate, denied, truth_in, variable_in, store_at, value_of, asks}
use Rattle.f66_tree.specs.Statements.{Exit, Normal, To, Back, does}
use Rattle.f66_tree.specs.Execution.{runnable, from_label, closers_at, close, leads, fetch, exec}
use Rattle.f66_tree.proofs.Stores.{read_same, read_other}
use Rattle.f66_tree.proofs.Comes.{at, Part, comes_here, one, none_begun}
use Rattle.rat_tree.specs.Meaning.{Went, course_of, Flow, Continuation, decides, plain_statement, passed_label, tested, performed, is_case}
use Rattle.rat_tree.specs.Uses.{NamesIfAnyBy, ActIfAnyBy}
use Rattle.rat_lower.specs.Code.{Rings, unless, with_test, with_act, case_test}
use Rattle.rat_lower.specs.Checked.{IsPlain, IsPlainIfAny}
use Rattle.rat_lower.proofs.Simulation.Spared.{Lowering, over, read_spare, put_spare, near, still_near, spared, Kept, own_rank, code, F, Own, Source}
use Rattle.rat_lower.proofs.Simulation.Tracks.{fewer, same_fuel}
use Rattle.rat_lower.proofs.Simulation.Values.{track_value, track_asks, track_does, track_case}
use Rattle.rat_lower.proofs.Simulation.Idle.{credit}
use Rattle.rat_lower.proofs.Simulation.Follows.{Extra, spare_as, Keeps, keeps_self, keeps_on, keeps_spares, Calls, Raw, Run, Under, Follows, first, bind_follows, then_follows, past_jump}

pub bind_assoc : {A B C : Type 0} (o : Out A) (h : A → World → Out B) (k : B → World → Out C) → bind (bind o h) k ≡ bind o (λ a w. bind (h a w) k)
bind_assoc (Gives a w) h k = refl
bind_assoc (Halts e w) h k = refl

-- a value is stored, and then comes what follows
pub stored_then : {B C : Type 0} (p : Place) (o : Try Spot) (h : Spot → World → Out Content) (k : Spot → Content → World → Out B) (go : B → World → Out C) (w : World) →
    bind (bind (settle p o w) (λ q w1. bind (h q w1) (λ a w2. k q a w2))) go ≡ bind (settle p o w) (λ q w1. bind (h q w1) (λ a w2. bind (k q a w2) go))
stored_then p (Yields q) h k go w = bind_assoc (h q w) (k q) go
stored_then p (Traps t) h k go w = refl
stored_then p Fails h k go w = refl

-- a condition that is denied
flip : {B : Type 0} (p : Place) (o : Out Content) (K : Bool → World → Out B) → bind (bind (bind o (λ x w1. settle p (denied x) w1)) (λ v w1. settle p (truth_in v) w1)) (λ y w1. K y w1) ≡ bind (bind o (λ v w1. settle p (truth_in v) w1)) (λ y w1. K (not y) w1)
flip p (Gives Nothing w) K = refl
flip p (Gives (Whole z) w) K = refl
flip p (Gives (Truth b) w) K = refl
flip p (Halts e w) K = refl

-- the spare name is a variable of the target's unit, whose storage unit is a spare one
pub record HoldsValue (g : Lowering) (spare : Text) : Type 0 where
  pub own : position spare (dummies_of (g.target.context g.unit).header) ≡ None
  pub kind : kind_of (g.target.context g.unit) spare ≡ Integer
  pub marked : g.spare (g.target.number g.unit spare 0) ≡ true
  pub ranked : g.level (g.target.number g.unit spare 0) ≡ own_rank g

module _ (g : Lowering) (b : ℕ) (call : Calls g b) where
  abbrev pub Src : Setting
  Src = Source g (λ n. n + 1) b call.does

  abbrev U : ℕ → Setting
  U n = Under g n

  abbrev R : List Line → Extra → Part
  R rest pr = Run g rest pr

  abbrev Fo : (j m top : ℕ) (ls : Rings) (pr : Extra) (t : Part) (s : State) (x : ℕ) (next : List Line) (o : Flow) → Type 0
  Fo j m top ls pr t s x next o = Follows g j m top ls pr t s x next o

  abbrev f0 : Frame
  f0 = F g

  up : (n : ℕ) → n + 1 ≤ n + 1
  up n = omega arith

  unless_step : (p : Place) (e : Formula) (q : ℕ) (rest : List Line) (pr : Extra) (s : State) (n k c : ℕ) →
      R (unless p e q ∷ rest) pr (suc n) (at s (suc k) c) ≡ bind (asks (U n) (moved_to p f0) e (near g pr.spare s k (c + 1))) (λ y w1. choose (not y) (Raw g (unlabelled_line p (Goto q) ∷ rest) pr.loops n w1) (Raw g rest pr.loops n w1))
  unless_step p e q rest pr s n k c = flip p (value_of (U n) (moved_to p f0) e (near g pr.spare s k (c + 1))) (λ y w1. choose y (Raw g (unlabelled_line p (Goto q) ∷ rest) pr.loops n w1) (Raw g rest pr.loops n w1))

  pub unless_follows : {j m top x : ℕ} {ls : Rings} {pr : Extra} {rest next : List Line} (z : ℕ) (p : Place) (e : Formula) (q : ℕ) (w : World) (yea nay : Continuation) → NamesBy (Own g) e → m ≤ b → z + (1 + x) ≤ 32 * w.count →
      ((pr1 : Extra) (w1 : World) (y : ℕ) → Keeps g top pr pr1 → z + y ≤ 32 * w1.count → Fo j m top ls pr1 (R rest pr1) w1.state y next (yea w1)) → ((pr1 : Extra) (w1 : World) (y : ℕ) → Keeps g top pr pr1 → z + y ≤ 32 * w1.count → Fo j m top ls pr1 (R (from_label q (code g)) pr1) w1.state (1 + y) next (nay w1)) →
      Fo j m top ls pr (R (unless p e q ∷ rest) pr) w.state x next (decides Src f0 p e yea nay w)
  unless_follows {j} {m} {top} {x} {ls} {pr} {rest} {next} z p e q w yea nay used few le hy hn =
      first g {j1 = j} {b1 = m} {x1 = 1 + x} (decides Src f0 p e yea nay w) (keeps_self g top pr)
      (one (R (unless p e q ∷ rest) pr) (λ n w1. bind (asks (U n) (moved_to p f0) e (spared g pr.spare w1)) (λ y w2. choose (not y) (Raw g (unlabelled_line p (Goto q) ∷ rest) pr.loops n w2) (Raw g rest pr.loops n w2))) w.state (λ n k c. unless_step p e q rest pr w.state n k c)) (omega arith) (omega arith) (omega arith)
      (bind_follows g z (λ n. asks (U n) (moved_to p f0) e) (asks Src (moved_to p f0) e w) (λ y n w2. choose (not y) (Raw g (unlabelled_line p (Goto q) ∷ rest) pr.loops n w2) (Raw g rest pr.loops n w2)) (λ holds w1. choose holds (yea w1) (nay w1))
      (fewer ℕ same_fuel g (asks Src (moved_to p f0) e w) few (track_asks g b (λ n. n + 1) up (λ n. (U n).call) call.does call.track p e used pr.spare w (z + (1 + x)) le)) by_answer)
    where
      by_answer : (y : Bool) (v : Store) (w1 : World) (y1 : ℕ) → Kept g (own_rank g) pr.spare v → z + y1 ≤ 32 * w1.count → Fo j m top ls (spare_as pr v) (λ n w2. choose (not y) (R (unlabelled_line p (Goto q) ∷ rest) (spare_as pr v) n w2) (R rest (spare_as pr v) n w2)) w1.state y1 next (choose y (yea w1) (nay w1))
      by_answer true v w1 y1 kp ok = hy (spare_as pr v) w1 y1 (keeps_spares g top pr v kp) ok
      by_answer false v w1 y1 kp ok =
          let pr1 = spare_as pr v in
          first g {j1 = j} {b1 = m} {x1 = 1 + y1} (nay w1) (keeps_self g top pr1) (past_jump g p q rest pr1 w1.state) (omega arith) (omega arith) (omega arith) (hn pr1 w1 y1 (keeps_spares g top pr v kp) ok)

  pub tested_follows : {j m top x : ℕ} {ls : Rings} {pr : Extra} {rest next : List Line} (z : ℕ) (p : Place) (o : Option Formula) (q : ℕ) (w : World) (yea nay : Continuation) → NamesIfAnyBy (Own g) o → m ≤ b → z + (1 + x) ≤ 32 * w.count →
      ((pr1 : Extra) (w1 : World) (y : ℕ) → Keeps g top pr pr1 → z + y ≤ 32 * w1.count → Fo j m top ls pr1 (R rest pr1) w1.state y next (yea w1)) → ((pr1 : Extra) (w1 : World) (y : ℕ) → Keeps g top pr pr1 → z + y ≤ 32 * w1.count → Fo j m top ls pr1 (R (from_label q (code g)) pr1) w1.state (1 + y) next (nay w1)) →
      Fo j m top ls pr (R (with_test p o q rest) pr) w.state x next (tested Src f0 p o yea nay w)
  tested_follows {top = top} {pr = pr} z p None q w yea nay used few le hy hn = hy pr w _ (keeps_self g top pr) (omega arith)
  tested_follows z p (Some e) q w yea nay used few le hy hn = unless_follows z p e q w yea nay used few le hy hn

  -- a plain statement that has been counted
  pub does_follows : {top x : ℕ} {ls : Rings} {pr : Extra} {next : List Line} (o : Option ℕ) (p : Place) (a : Act) (w : World) → NamesOfActBy (Own g) a → closers_at o (code g) ≡ [] → 2 + x ≤ 32 * w.count →
      ((n k c : ℕ) → R (record { label = o; place = p; act = a } ∷ next) pr (suc n) (at w.state (suc k) c) ≡ bind (does (U n) (moved_to p f0) a (near g pr.spare w.state k (c + 1))) (λ y w2. leads (U n) (moved_to p f0) (code g) o next (exec g.target g.codes n f0) pr.loops y w2)) →
      Fo 1 b top ls pr (R (record { label = o; place = p; act = a } ∷ next) pr) w.state x next (bind (does Src (moved_to p f0) a w) (λ y w1. Gives (course_of y) w1))
  does_follows {top} {x} {ls} {pr} {next} o p a w used ends le is =
      first g {j1 = 0} {b1 = b} {x1 = 1 + x} (bind (does Src (moved_to p f0) a w) (λ y w1. Gives (course_of y) w1)) (keeps_self g top pr)
      (one (R (record { label = o; place = p; act = a } ∷ next) pr) (λ n w1. bind (does (U n) (moved_to p f0) a (spared g pr.spare w1)) (λ y w2. leads (U n) (moved_to p f0) (code g) o next (exec g.target g.codes n f0) pr.loops y w2)) w.state is) (omega arith) (omega arith) (omega arith)
      (bind_follows g 0 (λ n. does (U n) (moved_to p f0) a) (does Src (moved_to p f0) a w) (λ y n w2. leads (U n) (moved_to p f0) (code g) o next (exec g.target g.codes n f0) pr.loops y w2) (λ y w1. Gives (course_of y) w1)
      (track_does g b (λ n. n + 1) up (λ n. (U n).call) call.does call.track p a used pr.spare w (0 + (1 + x)) (omega arith)) exits)
    where
      exits : (y : Exit) (v : Store) (w1 : World) (y1 : ℕ) → Kept g (own_rank g) pr.spare v → 0 + y1 ≤ 32 * w1.count → Fo 0 b top ls (spare_as pr v) (λ n w2. leads (U n) (moved_to p f0) (code g) o next (exec g.target g.codes n f0) pr.loops y (spared g v w2)) w1.state y1 next (Gives (course_of y) w1)
      exits Normal v w1 y1 kp ok =
          let pr1 = spare_as pr v in
          record {
            by = (0, omega arith, pr1, keeps_self g top pr1, none_begun (λ n w2. leads (U n) (moved_to p f0) (code g) o next (exec g.target g.codes n f0) pr.loops Normal (spared g v w2)) (R next pr1) w1.state (λ n k c. ap (λ q. close (U n) (moved_to p f0) q next (exec g.target g.codes n f0) pr.loops (near g v w1.state k c)) ends));
          }
      exits (To m) v w1 y1 kp ok = let pr1 = spare_as pr v in record { by = (0, omega arith, omega arith, pr1, keeps_self g top pr1, comes_here (R (from_label m (code g)) pr1) w1.state) }
      exits Back v w1 y1 kp ok = record { by = (0, omega arith, v, (keeps_self g top (spare_as pr v)).kept, λ n k c lt. ap (λ w2. Gives tt w2) (still_near g v w1.state k c)) }

  -- a statement that is not executed is passed over, and does nothing
  pub note_skipped : (o : Option ℕ) (p : Place) (a : Act) (next : List Line) (pr : Extra) (s : State) → is_note a ≡ true → (n k c : ℕ) → R (record { label = o; place = p; act = a } ∷ next) pr n (at s k c) ≡ R next pr n (at s k c)
  note_skipped o p a next pr s is zero k c = refl
  note_skipped o p a next pr s is (suc n) k c = ap (λ v. fetch (U n) f0 (code g) (if v then runnable next else (record { label = o; place = p; act = a } ∷ next)) (exec g.target g.codes n f0) pr.loops (near g pr.spare s k c)) is

  pub note_means : (o : Option ℕ) (p : Place) (a : Act) (w : World) → is_note a ≡ true → passed_label Src f0 o p a w ≡ Gives Went w
  note_means None p a w is = ap (λ v. if v then Gives Went w else bind (does Src (moved_to p f0) a (counted w)) (λ y w1. Gives (course_of y) w1)) is
  note_means (Some m) p a w is = ap (λ v. if v then Gives Went w else plain_statement Src f0 p a (counted w)) is

  note_follows : {top x : ℕ} {ls : Rings} {pr : Extra} {next : List Line} (o : Option ℕ) (p : Place) (a : Act) (w : World) → x ≤ 32 * w.count → is_note a ≡ true → Fo 1 b top ls pr (R (record { label = o; place = p; act = a } ∷ next) pr) w.state x next (Gives Went w)
  note_follows {top} {x} {ls} {pr} {next} o p a w le is = record { by = (0, omega arith, pr, keeps_self g top pr, none_begun _ (R next pr) w.state (note_skipped o p a next pr w.state is)) }

  pub plain_follows : {top x : ℕ} {ls : Rings} {pr : Extra} {next : List Line} (o : Option ℕ) (p : Place) (a : Act) (w : World) → IsPlain a → NamesOfActBy (Own g) a → closers_at o (code g) ≡ [] → x ≤ credit (is_note a) + 32 * w.count →
      Fo 1 b top ls pr (R (record { label = o; place = p; act = a } ∷ next) pr) w.state x next (plain_statement Src f0 p a w)
  plain_follows o p (Assign y e) w is used ends le = does_follows o p (Assign y e) (counted w) used ends (omega arith) (λ n k c. refl)
  plain_follows o p (Goto m) w is used ends le = does_follows o p (Goto m) (counted w) used ends (omega arith) (λ n k c. refl)
  plain_follows o p (Computed ms y) w is used ends le = does_follows o p (Computed ms y) (counted w) used ends (omega arith) (λ n k c. refl)
  plain_follows o p (Sign e i1 i2 i3) w is used ends le = does_follows o p (Sign e i1 i2 i3) (counted w) used ends (omega arith) (λ n k c. refl)
  plain_follows o p (When e a) w is used ends le = absurd is
  plain_follows o p (Loop m y i1 i2 i3) w is used ends le = absurd is
  plain_follows o p (Invoke y es) w is used ends le = does_follows o p (Invoke y es) (counted w) used ends (omega arith) (λ n k c. refl)
  plain_follows o p Continue w is used ends le = does_follows o p Continue (counted w) used ends (omega arith) (λ n k c. refl)
  plain_follows o p (Stop i) w is used ends le = does_follows o p (Stop i) (counted w) used ends (omega arith) (λ n k c. refl)
  plain_follows o p Return w is used ends le = does_follows o p Return (counted w) used ends (omega arith) (λ n k c. refl)
  plain_follows o p (Read i m es) w is used ends le = does_follows o p (Read i m es) (counted w) used ends (omega arith) (λ n k c. refl)
  plain_follows o p (Write i m es) w is used ends le = does_follows o p (Write i m es) (counted w) used ends (omega arith) (λ n k c. refl)
  plain_follows o p (Format fs) w is used ends le = note_follows o p (Format fs) w (omega arith) refl
  plain_follows o p (Typed t es) w is used ends le = note_follows o p (Typed t es) w (omega arith) refl
  plain_follows o p (Dimension es) w is used ends le = note_follows o p (Dimension es) w (omega arith) refl
  plain_follows o p (Common es) w is used ends le = note_follows o p (Common es) w (omega arith) refl
  plain_follows o p (Equivalence es) w is used ends le = note_follows o p (Equivalence es) w (omega arith) refl
  plain_follows o p (Preset es) w is used ends le = note_follows o p (Preset es) w (omega arith) refl

  -- the label of a plain statement is passed with it
  pub labelled_follows : {top x : ℕ} {ls : Rings} {pr : Extra} {next : List Line} (o : Option ℕ) (p : Place) (a : Act) (w : World) → IsPlain a → NamesOfActBy (Own g) a → closers_at o (code g) ≡ [] → x ≤ credit (is_note a) + 32 * w.count →
      Fo 1 b top ls pr (R (record { label = o; place = p; act = a } ∷ next) pr) w.state x next (passed_label Src f0 o p a w)
  labelled_follows None p a w is used ends le = plain_follows None p a w is used ends le
  labelled_follows {top} {x} {ls} {pr} {next} (Some m) p a w is used ends le = by_note (is_note a) refl
    where
      by_note : (v : Bool) → is_note a ≡ v → Fo 1 b top ls pr (R (record { label = Some m; place = p; act = a } ∷ next) pr) w.state x next (if v then Gives Went w else plain_statement Src f0 p a (counted w))
      by_note true e = note_follows (Some m) p a w (omega (arith, le, ap credit e)) e
      by_note false e = plain_follows (Some m) p a (counted w) is used ends (omega (arith, le, ap credit e))

  pub performed_follows : {m top x : ℕ} {ls : Rings} {pr : Extra} {rest next : List Line} (z : ℕ) (p : Place) (o : Option Act) (w : World) (go : Continuation) → IsPlainIfAny o → ActIfAnyBy (Own g) o → m ≤ b → z + x ≤ 32 * w.count →
      ((pr1 : Extra) (w1 : World) (y : ℕ) → Keeps g top pr pr1 → z + y ≤ 32 * w1.count → Fo 1 m top ls pr1 (R rest pr1) w1.state y next (go w1)) → Fo 1 m top ls pr (R (with_act p o rest) pr) w.state x next (performed Src f0 p o go w)
  performed_follows {top = top} {x = x} {pr = pr} z p None w go is used few le k = k pr w x (keeps_self g top pr) le
  performed_follows {m} {x = x} z p (Some a) w go is used few le k = then_follows g z (plain_statement Src f0 p a w) go few (plain_follows None p a w is used refl (omega arith)) k

  -- ---- switch ----

  module _ (spare : Text) (holds : HoldsValue g spare) where
    -- the storage unit of the spare name
    abbrev pub unit : ℕ
    unit = g.target.number g.unit spare 0

    spare_read : (n : ℕ) (p : Place) (h : Store) (v : Content) (w : World) → h unit ≡ v → variable_in (U n) (moved_to p f0) spare (spared g h w) ≡ settle p (asked Integer v) (spared g h w)
    spare_read n p h v w is =
        let at_end = spared g h w in
        let kind = kind_of (g.target.context g.unit) spare in
        ap (λ o. bind (settle p (base_by o g.unit g.actuals spare) at_end) (λ q w1. load (U n) (moved_to p f0) kind q w1)) holds.own
        ∙ ap (λ k. settle p (asked k (over g.spare h w.state.store unit)) at_end) holds.kind
        ∙ ap (λ c. settle p (asked Integer c) at_end) (read_spare g.spare h w.state.store unit holds.marked ∙ is)

    abbrev Case : Place → Content → Formula → ℕ → World → Out Bool
    Case p v e n w = bind (settle p (asked Integer v) w) (λ v1 w1. bind (value_of (U n) (moved_to p f0) e w1) (λ u w2. bind (settle p (operate Eq v1 u) w2) (λ t w3. settle p (truth_in t) w3)))

    case_asks : (n : ℕ) (p : Place) (h : Store) (v : Content) (e : Formula) (w : World) → h unit ≡ v → asks (U n) (moved_to p f0) (case_test spare e) (spared g h w) ≡ Case p v e n (spared g h w)
    case_asks n p h v e w is =
        ap (λ o. bind (bind o (λ x w1. bind (value_of (U n) (moved_to p f0) e w1) (λ y w2. settle p (operate Eq x y) w2))) (λ t w3. settle p (truth_in t) w3)) (spare_read n p h v w is)
        ∙ bind_assoc (settle p (asked Integer v) (spared g h w)) (λ x w1. bind (value_of (U n) (moved_to p f0) e w1) (λ y w2. settle p (operate Eq x y) w2)) (λ t w3. settle p (truth_in t) w3)
        ∙ within (asked Integer v)
      where
        within : (o : Try Content) → bind (settle p o (spared g h w)) (λ x w1. bind (bind (value_of (U n) (moved_to p f0) e w1) (λ y w2. settle p (operate Eq x y) w2)) (λ t w3. settle p (truth_in t) w3)) ≡ bind (settle p o (spared g h w)) (λ v1 w1. bind (value_of (U n) (moved_to p f0) e w1) (λ u w2. bind (settle p (operate Eq v1 u) w2) (λ t w3. settle p (truth_in t) w3)))
        within (Yields x) = bind_assoc (value_of (U n) (moved_to p f0) e (spared g h w)) (λ y w2. settle p (operate Eq x y) w2) (λ t w3. settle p (truth_in t) w3)
        within (Traps t) = refl
        within Fails = refl

    -- the value stays where the calls in a case expression are of units of lesser rank
    pub case_follows : {j m top x : ℕ} {ls : Rings} {pr : Extra} {rest next : List Line} (z : ℕ) (p : Place) (v : Content) (e : Formula) (q : ℕ) (w : World) (yea nay : Continuation) → pr.spare unit ≡ v → NamesBy (Own g) e → m ≤ b → z + (1 + x) ≤ 32 * w.count →
        ((pr1 : Extra) (w1 : World) (y : ℕ) → Keeps g top pr pr1 → pr1.spare unit ≡ v → z + y ≤ 32 * w1.count → Fo j m top ls pr1 (R (from_label q (code g)) pr1) w1.state (1 + y) next (yea w1)) →
        ((pr1 : Extra) (w1 : World) (y : ℕ) → Keeps g top pr pr1 → pr1.spare unit ≡ v → z + y ≤ 32 * w1.count → Fo j m top ls pr1 (R rest pr1) w1.state y next (nay w1)) →
        Fo j m top ls pr (R (unlabelled_line p (When (case_test spare e) (Goto q)) ∷ rest) pr) w.state x next (bind (is_case Src f0 p v e w) (λ fits w1. choose fits (yea w1) (nay w1)))
    case_follows {j} {m} {top} {x} {ls} {pr} {rest} {next} z p v e q w yea nay is used few le hy hn =
        let K : Bool → Part = λ y n w2. choose y (Raw g (unlabelled_line p (Goto q) ∷ rest) pr.loops n w2) (Raw g rest pr.loops n w2) in
        first g {j1 = j} {b1 = m} {x1 = 1 + x} (bind (is_case Src f0 p v e w) (λ fits w1. choose fits (yea w1) (nay w1))) (keeps_self g top pr)
        (one (R (unlabelled_line p (When (case_test spare e) (Goto q)) ∷ rest) pr) (λ n w1. bind (Case p v e n (spared g pr.spare w1)) (λ y w2. K y n w2)) w.state (λ n k c. ap (λ o. bind o (λ y w2. K y n w2)) (case_asks n p pr.spare v e (at w.state k (c + 1)) is))) (omega arith) (omega arith) (omega arith)
        (bind_follows g z (λ n. Case p v e n) (is_case Src f0 p v e w) K (λ fits w1. choose fits (yea w1) (nay w1))
        (fewer ℕ same_fuel g (is_case Src f0 p v e w) few (track_case g b (λ n. n + 1) up (λ n. (U n).call) call.does call.track p v e used pr.spare w (z + (1 + x)) le)) by_answer)
      where
        stays : (h : Store) → Kept g (own_rank g) pr.spare h → h unit ≡ v
        stays h kp = kp.by unit (omega (arith, holds.ranked)) ∙ is

        by_answer : (y : Bool) (h : Store) (w1 : World) (y1 : ℕ) → Kept g (own_rank g) pr.spare h → z + y1 ≤ 32 * w1.count → Fo j m top ls (spare_as pr h) (λ n w2. choose y (R (unlabelled_line p (Goto q) ∷ rest) (spare_as pr h) n w2) (R rest (spare_as pr h) n w2)) w1.state y1 next (choose y (yea w1) (nay w1))
        by_answer false h w1 y1 kp ok = hn (spare_as pr h) w1 y1 (keeps_spares g top pr h kp) (stays h kp) ok
        by_answer true h w1 y1 kp ok =
            let pr1 = spare_as pr h in
            first g {j1 = j} {b1 = m} {x1 = 1 + y1} (yea w1) (keeps_self g top pr1) (past_jump g p q rest pr1 w1.state) (omega arith) (omega arith) (omega arith) (hy pr1 w1 y1 (keeps_spares g top pr h kp) (stays h kp) ok)

    -- the unit's own spare unit is filled
    fills : (v : Content) (h : Store) → Kept g (1 + own_rank g) h (put_in unit v h)
    fills v h = record { by = λ q le. read_other unit q v h (λ e. absurd (omega (arith, le, holds.ranked, ap g.level e))) }

    -- the value of a switch is kept in the spare unit
    pub kept_follows : {top x : ℕ} {ls : Rings} {pr : Extra} {rest next : List Line} (z : ℕ) (p : Place) (e : Formula) (w : World) (go : Content → Continuation) → NamesBy (Own g) e → z + (1 + x) ≤ 32 * (w.count + 1) →
        ((v : Content) (pr1 : Extra) (w1 : World) (y : ℕ) → Keeps g top pr pr1 → pr1.spare unit ≡ v → z + y ≤ 32 * w1.count → Fo 1 b top ls pr1 (R rest pr1) w1.state y next (go v w1)) →
        Fo 1 b top ls pr (R (unlabelled_line p (Assign (Ref spare) e) ∷ rest) pr) w.state x next (bind (value_of Src (moved_to p f0) e (counted w)) go)
    kept_follows {top} {x} {ls} {pr} {rest} {next} z p e w go used le h =
        let K : Content → Part = λ v n w2. Raw g rest pr.loops n (holding (put_in unit v w2.state.store) w2) in
        first g {j1 = 1} {b1 = b} {x1 = 1 + x} (bind (value_of Src (moved_to p f0) e (counted w)) go) (keeps_self g top pr)
        (one (R (unlabelled_line p (Assign (Ref spare) e) ∷ rest) pr) (λ n w1. bind (value_of (U n) (moved_to p f0) e (spared g pr.spare w1)) (λ v w2. K v n w2)) w.state (λ n k c. stored n (near g pr.spare w.state k (c + 1)))) (omega arith) (omega arith) (omega arith)
        (bind_follows g z (λ n. value_of (U n) (moved_to p f0) e) (value_of Src (moved_to p f0) e (counted w)) K go
        (track_value g b (λ n. n + 1) up (λ n. (U n).call) call.does call.track p e used pr.spare (counted w) (z + (1 + x)) le)
        (λ v h1 w1 y kp ok.
        let pr1 = spare_as pr (put_in unit v h1) in
        let fill : Keeps g top (spare_as pr h1) pr1 = record { by = λ q lq. refl; kept = fills v h1 } in
        first g {j1 = 1} {b1 = b} {x1 = y} (go v w1) fill (none_begun (λ n w2. K v n (spared g h1 w2)) (R rest pr1) w1.state (λ n k c. filled v h1 w1.state n k c)) (omega arith) (omega arith) (omega arith)
        (h v pr1 w1 y (keeps_on g (keeps_spares g top pr h1 kp) fill) (read_same unit v h1) ok)))
      where
        stored : (n : ℕ) (w2 : World) → bind (does (U n) (moved_to p f0) (Assign (Ref spare) e) w2) (λ y w1. leads (U n) (moved_to p f0) (code g) None rest (exec g.target g.codes n f0) pr.loops y w1) ≡ bind (value_of (U n) (moved_to p f0) e w2) (λ v w3. Raw g rest pr.loops n (holding (put_in unit v w3.state.store) w3))
        stored n w2 =
            ap (λ o. bind (bind (settle p (base_by o g.unit g.actuals spare) w2) (λ q w1. bind (value_of (U n) (moved_to p f0) e w1) (λ v w3. bind (store_at (U n) (moved_to p f0) q v w3) (λ _ w4. Gives Normal w4)))) (λ y w1. leads (U n) (moved_to p f0) (code g) None rest (exec g.target g.codes n f0) pr.loops y w1)) holds.own
            ∙ bind_assoc (value_of (U n) (moved_to p f0) e w2) (λ v w3. bind (store_at (U n) (moved_to p f0) (Held g.unit spare 0) v w3) (λ _ w4. Gives Normal w4)) (λ y w1. leads (U n) (moved_to p f0) (code g) None rest (exec g.target g.codes n f0) pr.loops y w1)

        filled : (v : Content) (h1 : Store) (s : State) (n k c : ℕ) → Raw g rest pr.loops n (holding (put_in unit v (over g.spare h1 s.store)) (at s k c)) ≡ Raw g rest pr.loops n (near g (put_in unit v h1) s k c)
        filled v h1 s n k c = ap (λ st. Raw g rest pr.loops n (holding st (at s k c))) (put_spare g.spare h1 s.store unit v holds.marked)
