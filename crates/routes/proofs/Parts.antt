-- Plain statements, conditions and transfers follow.
use Rattle.std.proofs.Common.{◌≡◌, true, false, Bool, ℕ, zero, suc, ◌+◌, ◌≤◌, List, ◌∷◌, Some, None, refl, ap, subst, arith}
use Rattle.std.specs.Prelude.{⊤}
use Rattle.ground.specs.declared.place.Place.{Place}
use Rattle.f66_tree.specs.declared.editing.Way.{Way}
use Rattle.f66_tree.specs.declared.editing.Way.TheVariants.{Reading, Writing}
use Rattle.f66_tree.specs.Fields.{Fields}
use Rattle.f66_tree.specs.Syntax.{Formula, Par, Entries, Act, Assign, Goto, Computed, Sign, When, Loop, Invoke, Continue, Stop, Return, Read, Write, Format, Typed, Dimension, Common, Equivalence, Preset, Line, unlabelled_line, labelled_line}
use Rattle.f66_tree.specs.World.{State, World, counted, settle, Ended, GoesOn, Lost, Out, Gives, Halts, bind, choose}
use Rattle.f66_tree.specs.Units.{Spot, Linkage, Setting, Frame, moved_to, format_of}
use Rattle.f66_tree.specs.Records.{closed}
use Rattle.f66_tree.specs.Evaluation.{par_in, asks}
use Rattle.f66_tree.specs.Statements.{Exit, Normal, To, Back, does, opened_by, taped, items, on_unit, record_by}
use Rattle.f66_tree.specs.Execution.{no_loops, from_label, leads, exec}
use Rattle.f66_tree.proofs.Comes.{at, still, Part, comes_here, comes_on, one, none_begun}
use Rattle.routes.specs.Running.{Went, Jumps, Backs, Leave, Flow, course_of, plain_route, transferred}
use Rattle.routes.specs.Code.{Behind, label_behind, transfer}
use Rattle.routes.specs.Placed.{IsPlain}
use Rattle.routes.proofs.Tracks.{T, same_fuel, track_asks, track_does}
use Rattle.routes.proofs.Follows.{Run, Under, Follows, first, bind_follows, past_jump}

module _ (l : Linkage) (codes : ℕ → List Line) (f : Frame) (b : ℕ) (call : ℕ → List Spot → World → Out ⊤) (called : (v : ℕ) (ps : List Spot) → T ℕ same_fuel b ⊤ (λ i. (Under l codes f i).call v ps) (call v ps)) where
  -- the setting of the routes
  abbrev pub Src : Setting
  Src = record { linked = l; call = call; begin = λ w. Gives tt (counted w); most = b; tick = λ n. n }

  abbrev U : ℕ → Setting
  U n = Under l codes f n

  abbrev R : List Line → Part
  R rest = Run l codes f rest

  abbrev Fo : (j m : ℕ) (ls : Behind) (t : Part) (s : State) (x : ℕ) (next : List Line) (o : Flow) → Type 0
  Fo j m ls t s x next o = Follows l codes f j m ls t s x next o

  does_follows : {x : ℕ} {ls : Behind} {next : List Line} (p : Place) (a : Act) (w : World) → x ≤ w.count →
      ((n k c : ℕ) → R (unlabelled_line p a ∷ next) (suc n) (at w.state (suc k) c) ≡ bind (does (U n) (moved_to p f) a (at w.state k (c + 1))) (λ y w2. leads (U n) (moved_to p f) (codes f.unit) None next (exec l codes n f) no_loops y w2)) →
      Fo 1 b ls (R (unlabelled_line p a ∷ next)) w.state x next (plain_route Src f p (does Src (moved_to p f) a) w)
  does_follows {x} {ls} {next} p a w le is =
      first l codes f {j1 = 0} {b1 = b} {x1 = 1 + x} (plain_route Src f p (does Src (moved_to p f) a) w)
      (one (R (unlabelled_line p a ∷ next)) (λ n w1. bind (does (U n) (moved_to p f) a w1) (λ y w2. leads (U n) (moved_to p f) (codes f.unit) None next (exec l codes n f) no_loops y w2)) w.state is) (omega arith) (omega arith) (omega arith)
      (bind_follows l codes f (λ n. does (U n) (moved_to p f) a) (does Src (moved_to p f) a (counted w)) (λ y n w2. leads (U n) (moved_to p f) (codes f.unit) None next (exec l codes n f) no_loops y w2) (λ y w1. Gives (course_of y) w1)
      (track_does l b (λ n. (U n).call) call called f p a (counted w) (1 + x) (omega arith)) exits)
    where
      exits : (y : Exit) (w1 : World) (y1 : ℕ) → y1 ≤ w1.count → Fo 0 b ls (λ n w2. leads (U n) (moved_to p f) (codes f.unit) None next (exec l codes n f) no_loops y w2) w1.state y1 next (Gives (course_of y) w1)
      exits Normal w1 y1 ok = record { by = (0, omega (ok, arith), comes_here (R next) w1.state) }
      exits (To m) w1 y1 ok = record { by = (0, omega (ok, arith), omega arith, comes_here (R (from_label m (codes f.unit))) w1.state) }
      exits Back w1 y1 ok = record { by = (0, omega (ok, arith), λ n k c lt. ap (λ w2. Gives tt w2) (still w1.state k c)) }

  pub plain_follows : {x : ℕ} {ls : Behind} {next : List Line} (p : Place) (a : Act) (w : World) → IsPlain a → x ≤ w.count → Fo 1 b ls (R (unlabelled_line p a ∷ next)) w.state x next (plain_route Src f p (does Src (moved_to p f) a) w)
  plain_follows p (Assign y e) w is le = does_follows p (Assign y e) w le (λ n k c. refl)
  plain_follows p (Goto m) w is le = does_follows p (Goto m) w le (λ n k c. refl)
  plain_follows p (Computed ms y) w is le = does_follows p (Computed ms y) w le (λ n k c. refl)
  plain_follows p (Sign e i1 i2 i3) w is le = does_follows p (Sign e i1 i2 i3) w le (λ n k c. refl)
  plain_follows p (Invoke y es) w is le = does_follows p (Invoke y es) w le (λ n k c. refl)
  plain_follows p Continue w is le = does_follows p Continue w le (λ n k c. refl)
  plain_follows p (Stop i) w is le = does_follows p (Stop i) w le (λ n k c. refl)
  plain_follows p Return w is le = does_follows p Return w le (λ n k c. refl)
  plain_follows p (When e a) w is le = absurd is
  plain_follows p (Loop m y i1 i2 i3) w is le = absurd is
  plain_follows p (Read i m es) w is le = absurd is
  plain_follows p (Write i m es) w is le = absurd is
  plain_follows p (Format fs) w is le = absurd is
  plain_follows p (Typed t es) w is le = absurd is
  plain_follows p (Dimension es) w is le = absurd is
  plain_follows p (Common es) w is le = absurd is
  plain_follows p (Equivalence es) w is le = absurd is
  plain_follows p (Preset es) w is le = absurd is

  -- a ring is left where a condition holds
  pub quits_follow : {x : ℕ} {ls : Behind} {next : List Line} (p : Place) (e : Formula) (k : ℕ) (w : World) → x ≤ w.count →
      Fo 1 b ls (R (unlabelled_line p (When e (Goto (label_behind ls k))) ∷ next)) w.state x next (bind (asks Src (moved_to p f) e (counted w)) (λ holds w1. choose holds (Gives (Leave k) (counted w1)) (Gives Went w1)))
  quits_follow {x} {ls} {next} p e k w le =
      first l codes f {j1 = 0} {b1 = b} {x1 = 1 + x} (bind (asks Src (moved_to p f) e (counted w)) (λ holds w1. choose holds (Gives (Leave k) (counted w1)) (Gives Went w1)))
      (one (R (unlabelled_line p (When e (Goto (label_behind ls k))) ∷ next)) (λ n w1. bind (asks (U n) (moved_to p f) e w1) (λ y w2. choose y (R (unlabelled_line p (Goto (label_behind ls k)) ∷ next) n w2) (R next n w2))) w.state (λ n i c. refl)) (omega arith) (omega arith) (omega arith)
      (bind_follows l codes f (λ n. asks (U n) (moved_to p f) e) (asks Src (moved_to p f) e (counted w)) (λ y n w2. choose y (R (unlabelled_line p (Goto (label_behind ls k)) ∷ next) n w2) (R next n w2)) (λ holds w1. choose holds (Gives (Leave k) (counted w1)) (Gives Went w1))
      (track_asks l b (λ n. (U n).call) call called f p e (counted w) (1 + x) (omega arith)) by_answer)
    where
      by_answer : (y : Bool) (w1 : World) (y1 : ℕ) → y1 ≤ w1.count → Fo 0 b ls (λ n w2. choose y (R (unlabelled_line p (Goto (label_behind ls k)) ∷ next) n w2) (R next n w2)) w1.state y1 next (choose y (Gives (Leave k) (counted w1)) (Gives Went w1))
      by_answer true w1 y1 ok = record { by = (1, omega (ok, arith), past_jump l codes f p (label_behind ls k) next w1.state) }
      by_answer false w1 y1 ok = record { by = (0, omega (ok, arith), comes_here (R next) w1.state) }

  -- a FORMAT is passed over
  format_skipped : (q : Place) (m : ℕ) (fs : Fields) (next : List Line) (n : ℕ) (w : World) → R (labelled_line m q (Format fs) ∷ next) n w ≡ R next n w
  format_skipped q m fs next zero w = refl
  format_skipped q m fs next (suc n) w = refl

  -- what was to come to the one place comes to the other
  moved_on : {x : ℕ} {ls : Behind} {t : Part} {s : State} {mid next : List Line} (o : Flow) → ((n : ℕ) (w : World) → R mid n w ≡ R next n w) → Fo 1 b ls t s x mid o → Fo 1 b ls t s x next o
  moved_on (Gives Went w) e h = record { by = (h.by.0 + 0, omega (h.by.1, arith), comes_on h.by.2 (none_begun _ _ w.state (λ n k c. e n (at w.state k c)))) }
  moved_on (Gives (Jumps m) w) e h = record { by = h.by }
  moved_on (Gives Backs w) e h = record { by = h.by }
  moved_on (Gives (Leave k) w) e h = record { by = h.by }
  moved_on (Halts (Ended d) w) e h = record { by = h.by }
  moved_on (Halts GoesOn w) e h = record { by = h.by }
  moved_on (Halts Lost w) e h = record { by = tt }

  -- a READ or WRITE with its format behind it
  pub transfers_follow : {x : ℕ} {ls : Behind} {next : List Line} (p : Place) (way : Way) (u : Par) (m : ℕ) (fs : Fields) (es : Entries) (w : World) → format_of m (l.context f.unit).notes ≡ Some fs → x ≤ w.count →
      Fo 1 b ls (R (unlabelled_line p (transfer way u m es) ∷ labelled_line m p (Format fs) ∷ next)) w.state x next (plain_route Src f p (transferred Src f (moved_to p f) way u fs es) w)
  transfers_follow {x} {ls} {next} p way u m fs es w is le =
      moved_on (plain_route Src f p (transferred Src f (moved_to p f) way u fs es) w) (format_skipped p m fs next)
      (subst (λ o. Fo 1 b ls (R (unlabelled_line p (transfer way u m es) ∷ labelled_line m p (Format fs) ∷ next)) w.state x (labelled_line m p (Format fs) ∷ next)
      (plain_route Src f p (λ w0. bind (par_in Src (moved_to p f) u w0) (λ v w1. bind (settle p (on_unit way v) w1) (λ _ w2. bind (taped p (opened_by way o) w2) (λ _ w3. bind (items Src (moved_to p f) way es w3) (λ _ w4. bind (taped p closed w4) (λ _ w5. Gives Normal w5)))))) w)) is (by_way way))
    where
      by_way : (v : Way) → Fo 1 b ls (R (unlabelled_line p (transfer v u m es) ∷ labelled_line m p (Format fs) ∷ next)) w.state x (labelled_line m p (Format fs) ∷ next) (plain_route Src f p (record_by Src (moved_to p f) v u m es) w)
      by_way Reading = does_follows p (Read u m es) w le (λ n k c. refl)
      by_way Writing = does_follows p (Write u m es) w le (λ n k c. refl)
