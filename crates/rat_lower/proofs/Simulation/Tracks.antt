-- Within one statement the target follows the source: values and plain statements. Where a part of the source gives a result
-- or ends, the part of the target does the same from a near world, having begun d statements; d is at most 32 times the work
-- that is done so far, less x, and one more where the run ends. What the spare units hold changes on the way in those of lesser
-- rank alone. A call may do nothing but begin one statement, its RETURN. The node or the statement that it stands in pays for
-- that; where nodes count nothing, the function's value is not there, so that the run ends.
use Rattle.std.proofs.Common.{◌≡◌, ℕ, ◌+◌, ◌*◌, ◌≤◌, ◌<◌, List, Some, ◌⊎◌, inl, inr, refl, sym, ap, ◌∙◌, subst, arith}
use Rattle.std.specs.Prelude.{⊤}
use Rattle.ground.specs.declared.place.Place.{Place}
use Rattle.ground.specs.declared.trap.Trap.TheVariants.{Undefined, ValueArgument}
use Rattle.ground.specs.declared.value.Kind.{Kind}
use Rattle.ground.specs.declared.value.Kind.TheVariants.{Integer, Logical}
use Rattle.ground.specs.Content.{Content, Nothing}
use Rattle.f66_tree.specs.Syntax.{Text}
use Rattle.f66_tree.specs.World.{Store, put_in, State, Tape, World, counted, taping, Finish, Trapped, Wrong, Ended, GoesOn, Lost, Out, Gives, Halts, bind, Try, Yields, Traps, Fails, Move, Moves, Breaks, Misses, settle, moving, holding, take_one}
use Rattle.f66_tree.specs.Units.{Spot, Held, Lent}
use Rattle.f66_tree.specs.Evaluation.{asked, held, store_at, load}
use Rattle.f66_tree.specs.Statements.{taped, taken_content}
use Rattle.f66_tree.proofs.Posts.{IfGives, AllFair, post_any}
use Rattle.f66_tree.proofs.Related.{Sides, side1, side2, Frames, one, two, Good, Parts, Holds, answered1, answered2, paid}
use Rattle.f66_tree.proofs.Stores.{read_same}
use Rattle.f66_tree.proofs.Comes.{at}
use Rattle.rat_lower.proofs.Simulation.Spared.{Lowering, over, put_source, near, still_near, Kept, kept_self, kept_on, same_held, own_rank, Listed, Called}

-- the fuel of a run
abbrev pub same_fuel : ℕ → ℕ
same_fuel n = n

-- a call has paid for d statements; or it began one at most, and its work and its state are those before it
abbrev pub IsPaid : ℕ → ℕ → ℕ → State → World → Type 0
IsPaid n d x s w = (d + x ≤ 32 * w.count) ⊎ ((d ≤ 1) × (n ≤ w.count) × (w.state ≡ s))

module _ (I : Type 0) (bound : I → ℕ) (g : Lowering) where
  -- a part t of the target's run, by what bounds its fuel, follows a part of the source's, which gave o
  abbrev pub TracksBy : {A : Type 0} → ℕ → Store → State → ℕ → (I → World → Out A) → Out A → Type 0
  TracksBy b v s x t (Gives a w) = (d : ℕ) × (d + x ≤ 32 * w.count) × (v1 : Store) × Kept g (own_rank g) v v1 × ((i : I) (k c : ℕ) → d + k < bound i → t i (near g v s (d + k) c) ≡ Gives a (near g v1 w.state k (c + d)))
  TracksBy b v s x t (Halts (Ended e) w) = (d : ℕ) × (d + x ≤ 1 + 32 * w.count) × (v1 : Store) × ((i : I) (k c : ℕ) → d + k < bound i → t i (near g v s (d + k) c) ≡ Halts (Ended e) (near g v1 w.state k (c + d)))
  TracksBy b v s x t (Halts GoesOn w) = (d : ℕ) × (d + x ≤ 1 + 32 * w.count) × (b ≤ d) × (v1 : Store) × ((i : I) (c : ℕ) → d < bound i → t i (near g v s d c) ≡ Halts GoesOn (near g v1 w.state 0 (c + d)))
  TracksBy b v s x t (Halts Lost w) = ⊤

  pub record Tracks {A : Type 0} (b : ℕ) (v : Store) (s : State) (x : ℕ) (t : I → World → Out A) (o : Out A) : Type 0 where
    pub by : TracksBy b v s x t o

  -- one part after another; the first has been given up to x1
  pub tracks_after : {A B : Type 0} (P : A → Type 0) {b x x1 : ℕ} {v : Store} {s : State} {t : I → World → Out A} → x ≤ x1 → (o : Out A) (k : A → World → Out B) (h : A → I → World → Out B) → Tracks b v s x1 t o → IfGives P o → ((a : A) → P a → (v1 : Store) (w : World) (d : ℕ) → d + x1 ≤ 32 * w.count → Tracks b v1 w.state (d + x) (h a) (k a w)) → Tracks b v s x (λ i w. bind (t i w) (λ a w1. h a i w1)) (bind o k)
  tracks_after {A} {B} P {b} {x} {x1} {v} {s} {t} less (Gives a w) k h tr post rest = go (k a w) (rest a post tr.by.2 w tr.by.0 tr.by.1)
    where
      before : (i : I) (j c : ℕ) → tr.by.0 + j < bound i → bind (t i (near g v s (tr.by.0 + j) c)) (λ a1 w1. h a1 i w1) ≡ h a i (near g tr.by.2 w.state j (c + tr.by.0))
      before i j c lt = ap (λ o1. bind o1 (λ a1 w1. h a1 i w1)) (tr.by.4 i j c lt)

      go : (p : Out B) → Tracks b tr.by.2 w.state (tr.by.0 + x) (h a) p → Tracks b v s x (λ i w0. bind (t i w0) (λ a1 w1. h a1 i w1)) p
      go (Gives y u) r = record {
        by = (
          tr.by.0 + r.by.0,
          omega (arith, r.by.1),
          r.by.2,
          kept_on g tr.by.3 r.by.3,
          λ i j c lt.
              let e : tr.by.0 + r.by.0 + j ≡ tr.by.0 + (r.by.0 + j) = omega arith in
              let e2 : c + tr.by.0 + r.by.0 ≡ c + (tr.by.0 + r.by.0) = omega arith in
              ap (λ n. bind (t i (near g v s n c)) (λ a1 w1. h a1 i w1)) e ∙ before i (r.by.0 + j) c (omega arith) ∙ r.by.4 i j (c + tr.by.0) (omega arith) ∙ ap (λ n. Gives y (near g r.by.2 u.state j n)) e2,
        );
      }
      go (Halts (Ended f) u) r = record {
        by = (
          tr.by.0 + r.by.0,
          omega (arith, r.by.1),
          r.by.2,
          λ i j c lt.
              let e : tr.by.0 + r.by.0 + j ≡ tr.by.0 + (r.by.0 + j) = omega arith in
              let e2 : c + tr.by.0 + r.by.0 ≡ c + (tr.by.0 + r.by.0) = omega arith in
              ap (λ n. bind (t i (near g v s n c)) (λ a1 w1. h a1 i w1)) e ∙ before i (r.by.0 + j) c (omega arith) ∙ r.by.3 i j (c + tr.by.0) (omega arith) ∙ ap (λ n. Halts (Ended f) (near g r.by.2 u.state j n)) e2,
        );
      }
      go (Halts GoesOn u) r = record {
        by = (
          tr.by.0 + r.by.0,
          omega (arith, r.by.1),
          omega (arith, r.by.2),
          r.by.3,
          λ i c lt.
              let e2 : c + tr.by.0 + r.by.0 ≡ c + (tr.by.0 + r.by.0) = omega arith in
              before i r.by.0 c (omega arith) ∙ r.by.4 i (c + tr.by.0) (omega arith) ∙ ap (λ n. Halts GoesOn (near g r.by.3 u.state 0 n)) e2,
        );
      }
      go (Halts Lost u) r = record { by = tt }
  tracks_after P less (Halts (Ended f) w) k h tr post rest = record { by = (tr.by.0, omega (arith, tr.by.1, less), tr.by.2, λ i j c lt. ap (λ o1. bind o1 (λ a1 w1. h a1 i w1)) (tr.by.3 i j c lt)) }
  tracks_after P less (Halts GoesOn w) k h tr post rest = record { by = (tr.by.0, omega (arith, tr.by.1, less), tr.by.2, tr.by.3, λ i c lt. ap (λ o1. bind o1 (λ a1 w1. h a1 i w1)) (tr.by.4 i c lt)) }
  tracks_after P less (Halts Lost w) k h tr post rest = record { by = tt }

  pub tracks_bind : {A B : Type 0} (P : A → Type 0) {b x : ℕ} {v : Store} {s : State} {t : I → World → Out A} (o : Out A) (k : A → World → Out B) (h : A → I → World → Out B) → Tracks b v s x t o → IfGives P o → ((a : A) → P a → (v1 : Store) (w : World) (y : ℕ) → y ≤ 32 * w.count → Tracks b v1 w.state y (h a) (k a w)) → Tracks b v s x (λ i w. bind (t i w) (λ a w1. h a i w1)) (bind o k)
  tracks_bind P {x = x} o k h tr post rest = tracks_after P (omega arith) o k h tr post (λ a ok v1 w d le. rest a ok v1 w (d + x) le)

  pub fewer : {A : Type 0} {b m x : ℕ} {v : Store} {s : State} {t : I → World → Out A} (o : Out A) → m ≤ b → Tracks b v s x t o → Tracks m v s x t o
  fewer (Gives a w1) le h = record { by = h.by }
  fewer (Halts (Ended f) w1) le h = record { by = h.by }
  fewer (Halts GoesOn w1) le h = record { by = (h.by.0, h.by.1, omega (arith, h.by.2), h.by.3, h.by.4) }
  fewer (Halts Lost w1) le h = record { by = tt }

  pub same_tracks : {A : Type 0} {b x : ℕ} {v : Store} {s s1 : State} {t t1 : I → World → Out A} (o : Out A) → ((i : I) (k c : ℕ) → t1 i (near g v s1 k c) ≡ t i (near g v s k c)) → Tracks b v s x t o → Tracks b v s1 x t1 o
  same_tracks (Gives a w1) e h = record { by = (h.by.0, h.by.1, h.by.2, h.by.3, λ i k c lt. e i (h.by.0 + k) c ∙ h.by.4 i k c lt) }
  same_tracks (Halts (Ended f) w1) e h = record { by = (h.by.0, h.by.1, h.by.2, λ i k c lt. e i (h.by.0 + k) c ∙ h.by.3 i k c lt) }
  same_tracks (Halts GoesOn w1) e h = record { by = (h.by.0, h.by.1, h.by.2, h.by.3, λ i c lt. e i h.by.0 c ∙ h.by.4 i c lt) }
  same_tracks (Halts Lost w1) e h = record { by = tt }

  -- What a call gives, from n of work and the state s on: it pays for itself, or it does nothing.
  abbrev pub AnswersBy : ℕ → Store → State → ℕ → ℕ → (I → World → Out ⊤) → Out ⊤ → Type 0
  AnswersBy b v s n x t (Gives a w) = (d : ℕ) × IsPaid n d x s w × (v1 : Store) × Kept g (own_rank g) v v1 × ((i : I) (k c : ℕ) → d + k < bound i → t i (near g v s (d + k) c) ≡ Gives a (near g v1 w.state k (c + d)))
  AnswersBy b v s n x t (Halts e w) = TracksBy b v s x t (Halts e w)

  pub record Answers (b : ℕ) (v : Store) (s : State) (n x : ℕ) (t : I → World → Out ⊤) (o : Out ⊤) : Type 0 where
    pub by : AnswersBy b v s n x t o

  -- what the call stands in pays for one statement
  paid_for : {b n x : ℕ} {v : Store} {s : State} {t : I → World → Out ⊤} (o : Out ⊤) → 1 + x ≤ 32 * n → Answers b v s n (1 + x) t o → Tracks b v s x t o
  paid_for {n = n} {x = x} {s = s} (Gives a w) le h = record { by = (h.by.0, enough h.by.1, h.by.2, h.by.3, h.by.4) }
    where
      enough : IsPaid n h.by.0 (1 + x) s w → h.by.0 + x ≤ 32 * w.count
      enough (inl q) = omega (arith, q)
      enough (inr q) = omega (arith, q.0, q.1)
  paid_for (Halts (Ended f) w) le h = record { by = (h.by.0, omega (arith, h.by.1), h.by.2, h.by.3) }
  paid_for (Halts GoesOn w) le h = record { by = (h.by.0, omega (arith, h.by.1), h.by.2, h.by.3, h.by.4) }
  paid_for (Halts Lost w) le h = record { by = tt }

  pub fewer_answers : {b m n x : ℕ} {v : Store} {s : State} {t : I → World → Out ⊤} (o : Out ⊤) → m ≤ b → Answers b v s n x t o → Answers m v s n x t o
  fewer_answers (Gives a w1) le h = record { by = h.by }
  fewer_answers (Halts (Ended f) w1) le h = record { by = h.by }
  fewer_answers (Halts GoesOn w1) le h = record { by = (h.by.0, h.by.1, omega (arith, h.by.2), h.by.3, h.by.4) }
  fewer_answers (Halts Lost w1) le h = record { by = tt }

  -- where nothing is begun
  gives_now : {A : Type 0} {b x : ℕ} {v : Store} (a : A) (w : World) {t : I → World → Out A} {s : State} → x ≤ 32 * w.count → ((i : I) (k c : ℕ) → t i (near g v s k c) ≡ Gives a (near g v w.state k c)) → Tracks b v s x t (Gives a w)
  gives_now {v = v} a w {s = s} le e = record { by = (0, omega arith, v, kept_self g (own_rank g) v, λ i k c lt. e i (0 + k) c ∙ ap (λ w1. Gives a w1) (still_near g v w.state k c)) }

  halts_now : {A : Type 0} {b x : ℕ} {v : Store} (f : Finish) (w : World) {t : I → World → Out A} {s : State} → x ≤ 32 * w.count → ((i : I) (k c : ℕ) → t i (near g v s k c) ≡ Halts (Ended f) (near g v w.state k c)) → Tracks b v s x t (Halts (Ended f) w)
  halts_now {v = v} f w {s = s} le e = record { by = (0, omega arith, v, λ i k c lt. e i (0 + k) c ∙ ap (λ w1. Halts (Ended f) w1) (still_near g v w.state k c)) }

  -- the relation that is proved of all values and plain statements
  abbrev pub T : ℕ → (A : Type 0) → (I → World → Out A) → (World → Out A) → Type 0
  T b A m1 m2 = (v : Store) (w : World) (x : ℕ) → x ≤ 32 * w.count → Tracks b v w.state x m1 (m2 w)

  -- the same within a node or a statement that has counted, which pays for one statement more
  abbrev pub TW : ℕ → (A : Type 0) → (I → World → Out A) → (World → Out A) → Type 0
  TW b A m1 m2 = (v : Store) (w : World) (x : ℕ) → 1 + x ≤ 32 * w.count → Tracks b v w.state x m1 (m2 w)

module _ (g : Lowering) (I : Type 0) (bound : I → ℕ) (b turns_most : ℕ) (tick2 : ℕ → ℕ) (call1 : I → ℕ → List Spot → World → Out ⊤) (most1 : I → ℕ) (call2 : ℕ → List Spot → World → Out ⊤) where
  -- both sides, at the same places
  abbrev pub sides : Sides I
  sides = record {
    linked1 = g.target;
    linked2 = g.source;
    call1 = call1;
    begin1 = λ i. take_one;
    most1 = most1;
    tick1 = λ i c. c;
    call2 = call2;
    begin2 = λ w. Gives tt (counted w);
    most2 = turns_most;
    tick2 = tick2;
    K = g.K;
    Listed = Listed g;
    Called = Called g;
    Fair = g.Fair;
    At = λ p q. p ≡ q;
  }

  abbrev TI : (A : Type 0) → (I → World → Out A) → (World → Out A) → Type 0
  TI A m1 m2 = T I bound g b A m1 m2

  settled : {A : Type 0} (p : Place) (o1 o2 : Try A) → o1 ≡ o2 → (v : Store) (w : World) (x : ℕ) → x ≤ 32 * w.count → Tracks I bound g b v w.state x (λ i w1. settle p o1 w1) (settle p o2 w)
  settled p o1 (Yields a) e v w x le = gives_now I bound g a w le (λ i k c. ap (λ o. settle p o (near g v w.state k c)) e)
  settled p o1 (Traps t) e v w x le = halts_now I bound g (Trapped t p) w le (λ i k c. ap (λ o. settle p o (near g v w.state k c)) e)
  settled p o1 Fails e v w x le = halts_now I bound g Wrong w le (λ i k c. ap (λ o. settle p o (near g v w.state k c)) e)

  loaded : (f : Frames) → Good sides f → (k : Kind) (p : Spot) → g.Fair p → TI Content (λ i. load (side1 sides i) (one f) k p) (load (side2 sides) (two f) k p)
  loaded f ok k p fair v w x le =
      subst (λ q. Tracks I bound g b v w.state x (λ i. load (side1 sides i) (one f) k p) (settle q (asked k (held g.source p w.state.store)) w)) ok.places
      (same_tracks I bound g (settle f.here (asked k (held g.source p w.state.store)) w) (λ i j c. refl)
      (settled f.here (asked k (held g.target p (over g.spare v w.state.store))) (asked k (held g.source p w.state.store)) (ap (asked k) (same_held g p v w.state.store fair)) v w x le))

  put : (f : Frames) → Good sides f → (p : Spot) → g.Fair p → (c : Content) → TI ⊤ (λ i. store_at (side1 sides i) (one f) p c) (store_at (side2 sides) (two f) p c)
  put f ok (Held u y o) fair a v w x le =
      gives_now I bound g tt (holding (put_in (g.source.number u y o) a w.state.store) w) le
      (λ i k c. ap (λ st. Gives tt (holding st (at w.state k c))) (ap (λ n. put_in n a (over g.spare v w.state.store)) (g.numbers u y o fair) ∙ put_source g.spare v w.state.store (g.source.number u y o) a (g.apart u y o fair)))
  put f ok (Lent d) fair a v w x le =
      halts_now I bound g (Trapped ValueArgument f.there) w le (λ i k c. ap (λ q. Halts (Ended (Trapped ValueArgument q)) (near g v w.state k c)) ok.places)

  taped_tracks : (p : Place) (h : Tape → Move) (m : Move) (v : Store) (w : World) (x : ℕ) → h w.state.tape ≡ m → x ≤ 32 * w.count → Tracks I bound g b v w.state x (λ i. taped p h) (moving p m w)
  taped_tracks p h (Moves t) v w x e le = gives_now I bound g tt (taping t w) le (λ i k c. ap (λ q. moving p q (near g v w.state k c)) e)
  taped_tracks p h (Breaks trap t) v w x e le = halts_now I bound g (Trapped trap p) (taping t w) le (λ i k c. ap (λ q. moving p q (near g v w.state k c)) e)
  taped_tracks p h Misses v w x e le = halts_now I bound g Wrong w le (λ i k c. ap (λ q. moving p q (near g v w.state k c)) e)

  took_tracks : (p : Place) (h : Tape → Try (Content × Tape)) (o : Try (Content × Tape)) (v : Store) (w : World) (x : ℕ) → h w.state.tape ≡ o → x ≤ 32 * w.count → Tracks I bound g {A = Content} b v w.state x (λ i. taken_content p h) (bind (settle p o w) (λ r w2. Gives r.0 (taping r.1 w2)))
  took_tracks p h (Yields a) v w x e le = gives_now I bound g a.0 (taping a.1 w) le (λ i k c. ap (λ o. bind (settle p o (near g v w.state k c)) (λ r w2. Gives r.0 (taping r.1 w2))) e)
  took_tracks p h (Traps t) v w x e le = halts_now I bound g (Trapped t p) w le (λ i k c. ap (λ o. bind (settle p o (near g v w.state k c)) (λ r w2. Gives r.0 (taping r.1 w2))) e)
  took_tracks p h Fails v w x e le = halts_now I bound g Wrong w le (λ i k c. ap (λ o. bind (settle p o (near g v w.state k c)) (λ r w2. Gives r.0 (taping r.1 w2))) e)

  tracks_parts : Parts I sides (T I bound g b) (TW I bound g b)
  tracks_parts = record {
    scope = g.scope;
    same = g.same;
    uses = record { listed = λ u x used. used.0; called = λ u x used. used.0; function = λ u x used is. (used.0, used.1 is) };
    gives = λ a v w x le. gives_now I bound g a w le (λ i k c. refl);
    ends = λ e v w x le. halts_now I bound g e w le (λ i k c. refl);
    traps = λ t p q same v w x le. halts_now I bound g (Trapped t q) w le (λ i k c. ap (λ r. Halts (Ended (Trapped t r)) (near g v w.state k c)) same);
    binds = λ {A} {B} {P} {m1} {m2} {g1} {g2} h post k v w x le. tracks_bind I bound g P (m2 w) (λ a w1. g2 a w1) g1 (h v w x le) (post w) (λ a ok v1 w1 y le1. k a ok v1 w1 y le1);
    loads = loaded;
    stores = put;
    tapes = λ f ok h step v w x le. subst (λ q. Tracks I bound g b v w.state x (λ i. taped f.here h) (taped q h w)) ok.places (taped_tracks f.here h (h w.state.tape) v w x refl le);
    takes = λ f ok h step v w x le. subst (λ q. Tracks I bound g b v w.state x (λ i. taken_content f.here h) (taken_content q h w)) ok.places (took_tracks f.here h (h w.state.tape) v w x refl le);
  }

  -- what is asked of calls of units of lesser rank
  abbrev pub Answered : Type 0
  Answered = (u : ℕ) (ps : List Spot) → g.rank u < own_rank g → AllFair g.Fair ps → (v : Store) (w : World) (x : ℕ) → x ≤ 32 * w.count → Answers I bound g b v w.state w.count x (λ i. call1 i u ps) (call2 u ps w)

  module _ (calls : Answered) where
    statement_pays : (u : ℕ) (ps : List Spot) → g.rank u < own_rank g → AllFair g.Fair ps → TW I bound g b ⊤ (λ i. call1 i u ps) (call2 u ps)
    statement_pays u ps lt fair v w x le = paid_for I bound g (call2 u ps w) le (calls u ps lt fair v w (1 + x) le)

    -- where nodes count
    pub tracks_hold : ((n : ℕ) → n + 1 ≤ tick2 n) → Holds I sides (T I bound g b) (TW I bound g b)
    tracks_hold up = paid I sides (T I bound g b) (TW I bound g b) (record {
      parts = tracks_parts;
      within = λ h v w x le. h v w x (omega (arith, le));
      then_within = λ {A} {B} {P} {m1} {m2} {g1} {g2} h post k v w x le. tracks_after I bound g P {x1 = 1 + x} (omega arith) (m2 w) (λ a w1. g2 a w1) g1 (h v w (1 + x) le) (post w) (λ a ok v1 w1 d le1. k a ok v1 w1 (d + x) (omega (arith, le1)));
      within_then = λ {A} {B} {m1} {m2} {g1} {g2} h k v w x le. tracks_bind I bound g (λ _. ⊤) (m2 w) (λ a w1. g2 a w1) g1 (h v w x le) (post_any (m2 w)) (λ a _ v1 w1 y le1. k a v1 w1 y le1);
      ticks = λ {A} {m1} {m2} h v w x le. same_tracks I bound g (m2 (record { state = w.state; left = w.left; count = tick2 w.count })) (λ i k c. refl) (h v (record { state = w.state; left = w.left; count = tick2 w.count }) x (omega (arith, up w.count)));
      calls = λ u x v ps used e fair. statement_pays v ps (used.1 v e) fair;
    })

    asked_nothing : (k : Kind) → asked k Nothing ≡ Traps Undefined
    asked_nothing Integer = refl
    asked_nothing Logical = refl

    -- Where nodes count nothing a call has paid for itself, or it has not stored the function's value.
    quietly : (f : Frames) → Good sides f → (y : Text) (u : ℕ) (ps : List Spot) (k : Kind) → Called g f.unit y → g.source.find y ≡ Some u → AllFair g.Fair ps → TI Content (answered1 I sides (T I bound g b) (TW I bound g b) f y u ps k) (answered2 I sides (T I bound g b) (TW I bound g b) f y u ps k)
    quietly f ok y u ps k used e all v w x le =
        let st : Store = put_in (g.source.number u y 0) Nothing w.state.store in
        let w1 : World = holding st w in
        same_tracks I bound g (bind (call2 u ps w1) (λ _ w2. load (side2 sides) (two f) k spot w2))
        (λ i j c. ap (λ q. bind (call1 i u ps (holding q (at w.state j c))) (λ _ w2. load (side1 sides i) (one f) k spot w2))
        (ap (λ n. put_in n Nothing (over g.spare v w.state.store)) (g.numbers u y 0 own) ∙ put_source g.spare v w.state.store (g.source.number u y 0) Nothing (g.apart u y 0 own)))
        (by_answer st w1 (call2 u ps w1) le refl (calls u ps (used.1 u e) all v w1 x le))
      where
        spot : Spot
        spot = Held u y 0

        own : g.Fair spot
        own = g.scope.callee f.unit y u used.0 e

        by_answer : (st : Store) (w1 : World) (o : Out ⊤) → x ≤ 32 * w1.count → w1.state.store ≡ put_in (g.source.number u y 0) Nothing w.state.store → Answers I bound g b v w1.state w1.count x (λ i. call1 i u ps) o →
            Tracks I bound g b v w1.state x (λ i w2. bind (call1 i u ps w2) (λ _ w3. load (side1 sides i) (one f) k spot w3)) (bind o (λ _ w3. load (side2 sides) (two f) k spot w3))
        by_answer st w1 (Gives a w2) small is h = by_paid h.by.1
          where
            by_paid : IsPaid w1.count h.by.0 x w1.state w2 → Tracks I bound g b v w1.state x (λ i w3. bind (call1 i u ps w3) (λ _ w4. load (side1 sides i) (one f) k spot w4)) (load (side2 sides) (two f) k spot w2)
            by_paid (inl enough) =
                tracks_bind I bound g (λ _. ⊤) (Gives a w2) (λ _ w3. load (side2 sides) (two f) k spot w3) (λ _ i w3. load (side1 sides i) (one f) k spot w3) (record { by = (h.by.0, enough, h.by.2, h.by.3, h.by.4) }) tt
                (λ _ _ v1 w3 y1 le1. loaded f ok k spot own v1 w3 y1 le1)
            by_paid (inr q) =
                let nothing : held g.source spot w2.state.store ≡ Nothing = ap (λ (t : State). t.store (g.source.number u y 0)) q.2 ∙ ap (λ (t : Store). t (g.source.number u y 0)) is ∙ read_same (g.source.number u y 0) Nothing w.state.store in
                subst (λ o. Tracks I bound g b v w1.state x (λ i w3. bind (call1 i u ps w3) (λ _ w4. load (side1 sides i) (one f) k spot w4)) (settle f.there o w2)) (sym (ap (asked k) nothing ∙ asked_nothing k))
                (record {
                  by = (
                    h.by.0,
                    omega (arith, q.0, q.1, small),
                    h.by.2,
                    λ i j c lt.
                        ap (λ o. bind o (λ _ w4. load (side1 sides i) (one f) k spot w4)) (h.by.4 i j c lt)
                        ∙ ap (λ o. settle f.here o (near g h.by.2 w2.state j (c + h.by.0))) (ap (asked k) (same_held g spot h.by.2 w2.state.store own ∙ nothing) ∙ asked_nothing k)
                        ∙ ap (λ p. Halts (Ended (Trapped Undefined p)) (near g h.by.2 w2.state j (c + h.by.0))) ok.places,
                  );
                })
        by_answer st w1 (Halts (Ended e1) w2) small is h = record { by = (h.by.0, h.by.1, h.by.2, λ i j c lt. ap (λ o. bind o (λ _ w3. load (side1 sides i) (one f) k spot w3)) (h.by.3 i j c lt)) }
        by_answer st w1 (Halts GoesOn w2) small is h = record { by = (h.by.0, h.by.1, h.by.2, h.by.3, λ i c lt. ap (λ o. bind o (λ _ w3. load (side1 sides i) (one f) k spot w3)) (h.by.4 i c lt)) }
        by_answer st w1 (Halts Lost w2) small is h = record { by = tt }

    -- where nodes count nothing
    pub quiet_hold : ((n : ℕ) → n ≤ tick2 n) → Holds I sides (T I bound g b) (TW I bound g b)
    quiet_hold up = record {
      parts = tracks_parts;
      Node = T I bound g b;
      node = λ h. h;
      then_node = λ {A} {B} {P} {m1} {m2} {g1} {g2} h post k v w x le. tracks_bind I bound g P (m2 w) (λ a w1. g2 a w1) g1 (h v w x le) (post w) (λ a ok v1 w1 y le1. k a ok v1 w1 y le1);
      ticks = λ {A} {m1} {m2} h v w x le. same_tracks I bound g (m2 (record { state = w.state; left = w.left; count = tick2 w.count })) (λ i k c. refl) (h v (record { state = w.state; left = w.left; count = tick2 w.count }) x (omega (arith, le, up w.count)));
      functions = quietly;
      within = λ h v w x le. h v w x (omega (arith, le));
      then_within = λ {A} {B} {P} {m1} {m2} {g1} {g2} h post k v w x le. tracks_after I bound g P {x1 = 1 + x} (omega arith) (m2 w) (λ a w1. g2 a w1) g1 (h v w (1 + x) le) (post w) (λ a ok v1 w1 d le1. k a ok v1 w1 (d + x) (omega (arith, le1)));
      within_then = λ {A} {B} {m1} {m2} {g1} {g2} h k v w x le. tracks_bind I bound g (λ _. ⊤) (m2 w) (λ a w1. g2 a w1) g1 (h v w x le) (post_any (m2 w)) (λ a _ v1 w1 y le1. k a v1 w1 y le1);
      calls = λ u x v ps used e fair. statement_pays v ps (used.1 v e) fair;
    }
