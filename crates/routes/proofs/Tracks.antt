-- Within one statement the target follows the routes: values and plain statements. Where a part of the routes gives a result or
-- ends, the part of the target does the same, having begun d statements; d is at most the count that is reached, less x.
use Rattle.std.proofs.Common.{◌≡◌, true, false, Bool, ℕ, zero, suc, ◌+◌, ◌-◌, ◌≤◌, ◌<◌, List, refl, ap, ◌∙◌, subst, arith}
use Rattle.std.specs.Prelude.{⊤}
use Rattle.ground.specs.declared.place.Place.{Place}
use Rattle.ground.specs.declared.trap.Trap.TheVariants.{ValueArgument}
use Rattle.ground.specs.declared.value.Kind.{Kind}
use Rattle.ground.specs.Content.{Content}
use Rattle.f66_tree.specs.Syntax.{Text, Act, Formula}
use Rattle.f66_tree.specs.World.{put_in, State, Tape, World, counted, taping, Finish, Trapped, Wrong, Ended, GoesOn, Lost, Out, Gives, Halts, bind, Try, Yields, Traps, Fails, Move, Moves, Breaks, Misses, settle, moving, holding, take_one, choose}
use Rattle.f66_tree.specs.Units.{Spot, Held, Lent, Linkage, Setting, Frame, moved_to}
use Rattle.f66_tree.specs.Evaluation.{asked, held, store_at, load, asks}
use Rattle.f66_tree.specs.Statements.{Exit, LoopParameters, loop_turn, taped, taken_content, item_turns, does}
use Rattle.f66_tree.proofs.Posts.{IfGives, post_any}
use Rattle.f66_tree.proofs.Related.{Sides, side1, side2, Frames, one, two, Good, Holds, plainly, however_used, does_holds, asks_hold, turn_holds, same_names}
use Rattle.f66_tree.proofs.AnyNames.{Any, AnySpot, any_names, any_act, any_fair, any_scope}
use Rattle.f66_tree.proofs.Comes.{at, still}

module _ (I : Type 0) (bound : I → ℕ) where
  -- a part t of the target's run, by what bounds its fuel, follows a part of the source's, which gave o
  abbrev pub TracksBy : {A : Type 0} → ℕ → State → ℕ → (I → World → Out A) → Out A → Type 0
  TracksBy b s x t (Gives a w) = (d : ℕ) × (d + x ≤ w.count) × ((i : I) (k c : ℕ) → d + k < bound i → t i (at s (d + k) c) ≡ Gives a (at w.state k (c + d)))
  TracksBy b s x t (Halts (Ended e) w) = (d : ℕ) × (d + x ≤ w.count) × ((i : I) (k c : ℕ) → d + k < bound i → t i (at s (d + k) c) ≡ Halts (Ended e) (at w.state k (c + d)))
  TracksBy b s x t (Halts GoesOn w) = (d : ℕ) × (d + x ≤ w.count) × (b ≤ d) × ((i : I) (c : ℕ) → d < bound i → t i (at s d c) ≡ Halts GoesOn (at w.state 0 (c + d)))
  TracksBy b s x t (Halts Lost w) = ⊤

  pub record Tracks {A : Type 0} (b : ℕ) (s : State) (x : ℕ) (t : I → World → Out A) (o : Out A) : Type 0 where
    pub by : TracksBy b s x t o

  pub tracks_bind : {A B : Type 0} (P : A → Type 0) {b x : ℕ} {s : State} {t : I → World → Out A} (o : Out A) (g : A → World → Out B) (h : A → I → World → Out B) → Tracks b s x t o → IfGives P o → ((a : A) → P a → (w : World) (y : ℕ) → y ≤ w.count → Tracks b w.state y (h a) (g a w)) → Tracks b s x (λ i w. bind (t i w) (λ a w1. h a i w1)) (bind o g)
  tracks_bind {A} {B} P {b} {x} {s} {t} (Gives a w) g h tr post k = go (g a w) (k a post w (tr.by.0 + x) (tr.by.1))
    where
      before : (i : I) (j c : ℕ) → tr.by.0 + j < bound i → bind (t i (at s (tr.by.0 + j) c)) (λ a1 w1. h a1 i w1) ≡ h a i (at w.state j (c + tr.by.0))
      before i j c lt = ap (λ o1. bind o1 (λ a1 w1. h a1 i w1)) (tr.by.2 i j c lt)

      go : (p : Out B) → Tracks b w.state (tr.by.0 + x) (h a) p → Tracks b s x (λ i w0. bind (t i w0) (λ a1 w1. h a1 i w1)) p
      go (Gives y u) r = record {
        by = (
          tr.by.0 + r.by.0,
          omega (arith, r.by.1),
          λ i j c lt.
              let e : tr.by.0 + r.by.0 + j ≡ tr.by.0 + (r.by.0 + j) = omega arith in
              let e2 : c + tr.by.0 + r.by.0 ≡ c + (tr.by.0 + r.by.0) = omega arith in
              ap (λ n. bind (t i (at s n c)) (λ a1 w1. h a1 i w1)) e ∙ before i (r.by.0 + j) c (omega arith) ∙ r.by.2 i j (c + tr.by.0) (omega arith) ∙ ap (λ n. Gives y (at u.state j n)) e2,
        );
      }
      go (Halts (Ended f) u) r = record {
        by = (
          tr.by.0 + r.by.0,
          omega (arith, r.by.1),
          λ i j c lt.
              let e : tr.by.0 + r.by.0 + j ≡ tr.by.0 + (r.by.0 + j) = omega arith in
              let e2 : c + tr.by.0 + r.by.0 ≡ c + (tr.by.0 + r.by.0) = omega arith in
              ap (λ n. bind (t i (at s n c)) (λ a1 w1. h a1 i w1)) e ∙ before i (r.by.0 + j) c (omega arith) ∙ r.by.2 i j (c + tr.by.0) (omega arith) ∙ ap (λ n. Halts (Ended f) (at u.state j n)) e2,
        );
      }
      go (Halts GoesOn u) r = record {
        by = (
          tr.by.0 + r.by.0,
          omega (arith, r.by.1),
          omega (arith, r.by.2),
          λ i c lt.
              let e2 : c + tr.by.0 + r.by.0 ≡ c + (tr.by.0 + r.by.0) = omega arith in
              before i r.by.0 c (omega arith) ∙ r.by.3 i (c + tr.by.0) (omega arith) ∙ ap (λ n. Halts GoesOn (at u.state 0 n)) e2,
        );
      }
      go (Halts Lost u) r = record { by = tt }
  tracks_bind P (Halts (Ended f) w) g h tr post k = record { by = (tr.by.0, tr.by.1, λ i j c lt. ap (λ o1. bind o1 (λ a1 w1. h a1 i w1)) (tr.by.2 i j c lt)) }
  tracks_bind P (Halts GoesOn w) g h tr post k = record { by = (tr.by.0, tr.by.1, tr.by.2, λ i c lt. ap (λ o1. bind o1 (λ a1 w1. h a1 i w1)) (tr.by.3 i c lt)) }
  tracks_bind P (Halts Lost w) g h tr post k = record { by = tt }

  pub fewer : {A : Type 0} {b m x : ℕ} {s : State} {t : I → World → Out A} (o : Out A) → m ≤ b → Tracks b s x t o → Tracks m s x t o
  fewer (Gives a w1) le h = record { by = h.by }
  fewer (Halts (Ended f) w1) le h = record { by = h.by }
  fewer (Halts GoesOn w1) le h = record { by = (h.by.0, h.by.1, omega (arith, h.by.2), h.by.3) }
  fewer (Halts Lost w1) le h = record { by = tt }

  pub same_tracks : {A : Type 0} {b x : ℕ} {s : State} {t t1 : I → World → Out A} (o : Out A) → ((i : I) (k c : ℕ) → t1 i (at s k c) ≡ t i (at s k c)) → Tracks b s x t o → Tracks b s x t1 o
  same_tracks (Gives a w1) e h = record { by = (h.by.0, h.by.1, λ i k c lt. e i (h.by.0 + k) c ∙ h.by.2 i k c lt) }
  same_tracks (Halts (Ended f) w1) e h = record { by = (h.by.0, h.by.1, λ i k c lt. e i (h.by.0 + k) c ∙ h.by.2 i k c lt) }
  same_tracks (Halts GoesOn w1) e h = record { by = (h.by.0, h.by.1, h.by.2, λ i c lt. e i h.by.0 c ∙ h.by.3 i c lt) }
  same_tracks (Halts Lost w1) e h = record { by = tt }

  -- where nothing is begun
  gives_now : {A : Type 0} {b x : ℕ} (a : A) (w : World) {t : I → World → Out A} {s : State} → x ≤ w.count → ((i : I) (k c : ℕ) → t i (at s k c) ≡ Gives a (at w.state k c)) → Tracks b s x t (Gives a w)
  gives_now a w {s = s} le e = record { by = (0, omega arith, λ i k c lt. e i (0 + k) c ∙ ap (λ w1. Gives a w1) (still w.state k c)) }

  halts_now : {A : Type 0} {b x : ℕ} (f : Finish) (w : World) {t : I → World → Out A} {s : State} → x ≤ w.count → ((i : I) (k c : ℕ) → t i (at s k c) ≡ Halts (Ended f) (at w.state k c)) → Tracks b s x t (Halts (Ended f) w)
  halts_now f w {s = s} le e = record { by = (0, omega arith, λ i k c lt. e i (0 + k) c ∙ ap (λ w1. Halts (Ended f) w1) (still w.state k c)) }

  -- the relation that is proved of all values and plain statements
  abbrev pub T : ℕ → (A : Type 0) → (I → World → Out A) → (World → Out A) → Type 0
  T b A m1 m2 = (w : World) (x : ℕ) → x ≤ w.count → Tracks b w.state x m1 (m2 w)

module _ (l : Linkage) (I : Type 0) (bound : I → ℕ) (b turns_most : ℕ) (call1 : I → ℕ → List Spot → World → Out ⊤) (most1 : I → ℕ) (call2 : ℕ → List Spot → World → Out ⊤) where
  -- both sides, at the same places
  abbrev pub sides : Sides I
  sides = record {
    linked1 = l;
    linked2 = l;
    call1 = call1;
    begin1 = λ i. take_one;
    most1 = most1;
    tick1 = λ i c. c;
    call2 = call2;
    begin2 = λ w. Gives tt (counted w);
    most2 = turns_most;
    tick2 = λ n. n;
    K = λ u. Any;
    Listed = λ u. Any;
    Called = λ u. Any;
    Fair = AnySpot;
    At = λ p q. p ≡ q;
  }

  abbrev TI : (A : Type 0) → (I → World → Out A) → (World → Out A) → Type 0
  TI A m1 m2 = T I bound b A m1 m2

  settled : {A : Type 0} (p : Place) (o : Try A) (w : World) (x : ℕ) → x ≤ w.count → Tracks I bound b w.state x (λ i w1. settle p o w1) (settle p o w)
  settled p (Yields a) w x le = gives_now I bound a w le (λ i k c. refl)
  settled p (Traps t) w x le = halts_now I bound (Trapped t p) w le (λ i k c. refl)
  settled p Fails w x le = halts_now I bound Wrong w le (λ i k c. refl)

  loaded : (f : Frames) → Good sides f → (k : Kind) (p : Spot) → AnySpot p → TI Content (λ i. load (side1 sides i) (one f) k p) (load (side2 sides) (two f) k p)
  loaded f ok k p fair w x le =
      subst (λ q. Tracks I bound b w.state x (λ i. load (side1 sides i) (one f) k p) (settle q (asked k (held l p w.state.store)) w)) ok.places
      (same_tracks I bound (settle f.here (asked k (held l p w.state.store)) w) (λ i j c. refl) (settled f.here (asked k (held l p w.state.store)) w x le))

  put : (f : Frames) → Good sides f → (p : Spot) → AnySpot p → (c : Content) → TI ⊤ (λ i. store_at (side1 sides i) (one f) p c) (store_at (side2 sides) (two f) p c)
  put f ok (Held u y o) fair a w x le = gives_now I bound tt (holding (put_in (l.number u y o) a w.state.store) w) le (λ i k c. refl)
  put f ok (Lent d) fair a w x le = halts_now I bound (Trapped ValueArgument f.there) w le (λ i k c. ap (λ q. Halts (Ended (Trapped ValueArgument q)) (at w.state k c)) ok.places)

  taped_tracks : (p : Place) (h : Tape → Move) (m : Move) (w : World) (x : ℕ) → h w.state.tape ≡ m → x ≤ w.count → Tracks I bound b w.state x (λ i. taped p h) (moving p m w)
  taped_tracks p h (Moves t) w x e le = gives_now I bound tt (taping t w) le (λ i k c. ap (λ q. moving p q (at w.state k c)) e)
  taped_tracks p h (Breaks trap t) w x e le = halts_now I bound (Trapped trap p) (taping t w) le (λ i k c. ap (λ q. moving p q (at w.state k c)) e)
  taped_tracks p h Misses w x e le = halts_now I bound Wrong w le (λ i k c. ap (λ q. moving p q (at w.state k c)) e)

  took_tracks : (p : Place) (h : Tape → Try (Content × Tape)) (o : Try (Content × Tape)) (w : World) (x : ℕ) → h w.state.tape ≡ o → x ≤ w.count → Tracks I bound {A = Content} b w.state x (λ i. taken_content p h) (bind (settle p o w) (λ r w2. Gives r.0 (taping r.1 w2)))
  took_tracks p h (Yields a) w x e le = gives_now I bound a.0 (taping a.1 w) le (λ i k c. ap (λ o. bind (settle p o (at w.state k c)) (λ r w2. Gives r.0 (taping r.1 w2))) e)
  took_tracks p h (Traps t) w x e le = halts_now I bound (Trapped t p) w le (λ i k c. ap (λ o. bind (settle p o (at w.state k c)) (λ r w2. Gives r.0 (taping r.1 w2))) e)
  took_tracks p h Fails w x e le = halts_now I bound Wrong w le (λ i k c. ap (λ o. bind (settle p o (at w.state k c)) (λ r w2. Gives r.0 (taping r.1 w2))) e)

  pub tracks_hold : ((v : ℕ) (ps : List Spot) → TI ⊤ (λ i. call1 i v ps) (call2 v ps)) → Holds I sides (T I bound b) (T I bound b)
  tracks_hold called = plainly I sides (T I bound b) (record {
    scope = any_scope l;
    uses = however_used (λ u. Any) l;
    same = same_names (λ u. Any) AnySpot l;
    gives = λ a w x le. gives_now I bound a w le (λ i k c. refl);
    ends = λ e w x le. halts_now I bound e w le (λ i k c. refl);
    traps = λ t p q same w x le. halts_now I bound (Trapped t q) w le (λ i k c. ap (λ r. Halts (Ended (Trapped t r)) (at w.state k c)) same);
    binds = λ {A} {B} {P} {m1} {m2} {g1} {g2} h post k w x le. tracks_bind I bound P (m2 w) (λ a w1. g2 a w1) g1 (h w x le) (post w) (λ a ok w1 y le1. k a ok w1 y le1);
    loads = loaded;
    stores = put;
    tapes = λ f ok h step w x le. subst (λ q. Tracks I bound b w.state x (λ i. taped f.here h) (taped q h w)) ok.places (taped_tracks f.here h (h w.state.tape) w x refl le);
    takes = λ f ok h step w x le. subst (λ q. Tracks I bound b w.state x (λ i. taken_content f.here h) (taken_content q h w)) ok.places (took_tracks f.here h (h w.state.tape) w x refl le);
  }) (λ A m1 m2 h w x le. h w x le) (λ u x v ps used e fair. called v ps)

-- ---- implied DO loops, whose turns are bounded besides ----

-- what bounds an implied DO: the fuel, and the turns that are left
record Both : Type 0 where
  fuel : ℕ
  turns : ℕ
  most : ℕ
  is1 : most ≤ fuel
  is2 : most ≤ turns

abbrev pub same_fuel : ℕ → ℕ
same_fuel n = n

abbrev most_of : Both → ℕ
most_of j = j.most

module _ {A : Type 0} (t : ℕ → ℕ → World → Out A) where
  fold : {b x : ℕ} {s : State} (o : Out A) → Tracks Both most_of b s x (λ j. t j.turns j.fuel) o → Tracks ℕ same_fuel b s x (λ f. t f f) o
  fold (Gives a w) h = record { by = (h.by.0, h.by.1, λ f k c lt. h.by.2 (record { fuel = f; turns = f; most = f; is1 = omega arith; is2 = omega arith }) k c lt) }
  fold (Halts (Ended e) w) h = record { by = (h.by.0, h.by.1, λ f k c lt. h.by.2 (record { fuel = f; turns = f; most = f; is1 = omega arith; is2 = omega arith }) k c lt) }
  fold (Halts GoesOn w) h = record { by = (h.by.0, h.by.1, h.by.2, λ f c lt. h.by.3 (record { fuel = f; turns = f; most = f; is1 = omega arith; is2 = omega arith }) c lt) }
  fold (Halts Lost w) h = record { by = tt }

  -- a turn begins
  shift : {m x : ℕ} {s : State} (t1 : ℕ → ℕ → World → Out A) (o : Out A) → ((n f k c : ℕ) → t (suc n) f (at s (suc k) c) ≡ t1 n f (at s k (c + 1))) → Tracks Both most_of m s (1 + x) (λ j. t1 j.turns j.fuel) o → Tracks Both most_of (suc m) s x (λ j. t j.turns j.fuel) o
  shift {m} {x} {s} t1 (Gives a w) is h = record { by = (h.by.0 + 1, omega (arith, h.by.1), λ j k c lt. go j.turns j.fuel j.most j.is1 j.is2 k c lt) }
    where
      go : (n f q : ℕ) → q ≤ f → q ≤ n → (k c : ℕ) → h.by.0 + 1 + k < q → t n f (at s (h.by.0 + 1 + k) c) ≡ Gives a (at w.state k (c + (h.by.0 + 1)))
      go zero f q le1 le2 k c lt = absurd (omega arith)
      go (suc n) f q le1 le2 k c lt =
          let e : h.by.0 + 1 + k ≡ suc (h.by.0 + k) = omega arith in
          let e2 : c + 1 + h.by.0 ≡ c + (h.by.0 + 1) = omega arith in
          ap (λ u. t (suc n) f (at s u c)) e ∙ is n f (h.by.0 + k) c ∙ h.by.2 (record { fuel = f; turns = n; most = h.by.0 + k + 1; is1 = omega arith; is2 = omega arith }) k (c + 1) (omega arith) ∙ ap (λ u. Gives a (at w.state k u)) e2
  shift {m} {x} {s} t1 (Halts (Ended e0) w) is h = record { by = (h.by.0 + 1, omega (arith, h.by.1), λ j k c lt. go j.turns j.fuel j.most j.is1 j.is2 k c lt) }
    where
      go : (n f q : ℕ) → q ≤ f → q ≤ n → (k c : ℕ) → h.by.0 + 1 + k < q → t n f (at s (h.by.0 + 1 + k) c) ≡ Halts (Ended e0) (at w.state k (c + (h.by.0 + 1)))
      go zero f q le1 le2 k c lt = absurd (omega arith)
      go (suc n) f q le1 le2 k c lt =
          let e : h.by.0 + 1 + k ≡ suc (h.by.0 + k) = omega arith in
          let e2 : c + 1 + h.by.0 ≡ c + (h.by.0 + 1) = omega arith in
          ap (λ u. t (suc n) f (at s u c)) e ∙ is n f (h.by.0 + k) c ∙ h.by.2 (record { fuel = f; turns = n; most = h.by.0 + k + 1; is1 = omega arith; is2 = omega arith }) k (c + 1) (omega arith) ∙ ap (λ u. Halts (Ended e0) (at w.state k u)) e2
  shift {m} {x} {s} t1 (Halts GoesOn w) is h = record { by = (h.by.0 + 1, omega (arith, h.by.1), omega (arith, h.by.2), λ j c lt. go j.turns j.fuel j.most j.is1 j.is2 c lt) }
    where
      go : (n f q : ℕ) → q ≤ f → q ≤ n → (c : ℕ) → h.by.0 + 1 < q → t n f (at s (h.by.0 + 1) c) ≡ Halts GoesOn (at w.state 0 (c + (h.by.0 + 1)))
      go zero f q le1 le2 c lt = absurd (omega arith)
      go (suc n) f q le1 le2 c lt =
          let e : h.by.0 + 1 ≡ suc h.by.0 = omega arith in
          let e2 : c + 1 + h.by.0 ≡ c + (h.by.0 + 1) = omega arith in
          ap (λ u. t (suc n) f (at s u c)) e ∙ is n f h.by.0 c ∙ h.by.3 (record { fuel = f; turns = n; most = h.by.0 + 1; is1 = omega arith; is2 = omega arith }) (c + 1) (omega arith) ∙ ap (λ u. Halts GoesOn (at w.state 0 u)) e2
  shift t1 (Halts Lost w) is h = record { by = tt }

lift : {A : Type 0} {b x : ℕ} {s : State} {t : ℕ → World → Out A} (o : Out A) → Tracks ℕ same_fuel b s x t o → Tracks Both most_of b s x (λ j. t j.fuel) o
lift (Gives a w) h = record { by = (h.by.0, h.by.1, λ j k c lt. h.by.2 j.fuel k c (omega (arith, j.is1))) }
lift (Halts (Ended e) w) h = record { by = (h.by.0, h.by.1, λ j k c lt. h.by.2 j.fuel k c (omega (arith, j.is1))) }
lift (Halts GoesOn w) h = record { by = (h.by.0, h.by.1, h.by.2, λ j c lt. h.by.3 j.fuel c (omega (arith, j.is1))) }
lift (Halts Lost w) h = record { by = tt }

module _ (l : Linkage) (b : ℕ) (call1 : ℕ → ℕ → List Spot → World → Out ⊤) (call2 : ℕ → List Spot → World → Out ⊤) (called : (v : ℕ) (ps : List Spot) → T ℕ same_fuel b ⊤ (λ i. call1 i v ps) (call2 v ps)) where
  abbrev S : Sides ℕ
  S = sides l ℕ same_fuel b b call1 (λ f. f) call2

  abbrev S1 : ℕ → Setting
  S1 f = side1 S f

  abbrev S2 : Setting
  S2 = side2 S

  abbrev TR : (A : Type 0) → (ℕ → World → Out A) → (World → Out A) → Type 0
  TR A m1 m2 = T ℕ same_fuel b A m1 m2

  pub hold : Holds ℕ S (T ℕ same_fuel b) (T ℕ same_fuel b)
  hold = tracks_hold l ℕ same_fuel b b call1 (λ f. f) call2 called

  -- a statement's frame, on both sides
  abbrev pub both : Frame → Place → Frames
  both f p = record { unit = f.unit; actuals = f.actuals; here = p; there = p }

  pub fine : (f : Frame) (p : Place) → Good S (both f p)
  fine f p = record { places = refl; actuals = any_fair f.actuals }

  turns_track : (f : Frames) → Good S f → (y : Text) → Any y → (lp : LoopParameters) (body1 : ℕ → World → Out ⊤) (body2 : World → Out ⊤) → TR ⊤ body1 body2 → (m r : ℕ) → r ≤ m → r ≤ b → (w : World) (x : ℕ) → x ≤ w.count → Tracks Both most_of r w.state x (λ j. item_turns j.turns (S1 j.fuel) (one f) y lp (body1 j.fuel)) (item_turns m S2 (two f) y lp body2 w)
  turns_track f ok y used lp body1 body2 h zero r lr le w x small = record { by = (0, omega arith, omega arith, λ j c lt. go j.turns j.most j.is2 c lt j.fuel) }
    where
      go : (n q : ℕ) → q ≤ n → (c : ℕ) → 0 < q → (fu : ℕ) → item_turns n (S1 fu) (one f) y lp (body1 fu) (at w.state 0 c) ≡ Halts GoesOn (at w.state 0 (c + 0))
      go zero q le2 c lt fu = absurd (omega arith)
      go (suc n) q le2 c lt fu = let e : c ≡ c + 0 = omega arith in ap (λ u. Halts GoesOn (at w.state 0 u)) e
  turns_track f ok y used lp body1 body2 h (suc m) r lr le w x small =
      fewer Both most_of {b = suc (r - 1)} (item_turns (suc m) S2 (two f) y lp body2 w) (omega arith) (shift (λ n fu. item_turns n (S1 fu) (one f) y lp (body1 fu)) (λ n fu w1. bind (body1 fu w1) (λ _ w2. bind (loop_turn (S1 fu) (one f) y lp w2) (λ on w3. choose on (item_turns n (S1 fu) (one f) y lp (body1 fu) w3) (Gives tt w3))))
      (bind (body2 (counted w)) (λ _ w2. bind (loop_turn S2 (two f) y lp w2) (λ on w3. choose on (item_turns m S2 (two f) y lp body2 w3) (Gives tt w3)))) (λ n fu k c. refl)
      (tracks_bind Both most_of (λ _. ⊤) {t = λ j w1. body1 j.fuel w1} (body2 (counted w)) (λ _ w2. bind (loop_turn S2 (two f) y lp w2) (λ on w3. choose on (item_turns m S2 (two f) y lp body2 w3) (Gives tt w3)))
      (λ _ j w2. bind (loop_turn (S1 j.fuel) (one f) y lp w2) (λ on w3. choose on (item_turns j.turns (S1 j.fuel) (one f) y lp (body1 j.fuel) w3) (Gives tt w3)))
      (fewer Both most_of (body2 (counted w)) (omega arith) (lift (body2 (counted w)) (h (counted w) (1 + x) (omega arith)))) (post_any (body2 (counted w)))
      (λ _ _ w2 y2 ok2. tracks_bind Both most_of (λ _. ⊤) {t = λ j w3. loop_turn (S1 j.fuel) (one f) y lp w3} (loop_turn S2 (two f) y lp w2) (λ on w3. choose on (item_turns m S2 (two f) y lp body2 w3) (Gives tt w3))
      (λ on j w3. choose on (item_turns j.turns (S1 j.fuel) (one f) y lp (body1 j.fuel) w3) (Gives tt w3))
      (fewer Both most_of (loop_turn S2 (two f) y lp w2) (omega arith) (lift (loop_turn S2 (two f) y lp w2) (turn_holds ℕ S (T ℕ same_fuel b) (T ℕ same_fuel b) hold f ok y used lp w2 y2 ok2))) (post_any (loop_turn S2 (two f) y lp w2))
      (λ on _ w3 y3 ok3. chosen on w3 y3 ok3 (turns_track f ok y used lp body1 body2 h m (r - 1) (omega arith) (omega arith) w3 y3 ok3)))))
    where
      chosen : (q : Bool) (w3 : World) (y3 : ℕ) → y3 ≤ w3.count → Tracks Both most_of (r - 1) w3.state y3 (λ j. item_turns j.turns (S1 j.fuel) (one f) y lp (body1 j.fuel)) (item_turns m S2 (two f) y lp body2 w3) →
          Tracks Both most_of (r - 1) w3.state y3 (λ j w4. choose q (item_turns j.turns (S1 j.fuel) (one f) y lp (body1 j.fuel) w4) (Gives tt w4)) (choose q (item_turns m S2 (two f) y lp body2 w3) (Gives tt w3))
      chosen true w3 y3 ok3 h1 = h1
      chosen false w3 y3 ok3 h1 = record { by = (0, omega arith, λ j k c lt. ap (λ w5. Gives tt w5) (still w3.state k c)) }

  many_track : (f : Frames) → Good S f → (y : Text) → Any y → (lp : LoopParameters) (body1 : ℕ → World → Out ⊤) (body2 : World → Out ⊤) → TR ⊤ body1 body2 → TR ⊤ (λ i. item_turns i (S1 i) (one f) y lp (body1 i)) (item_turns b S2 (two f) y lp body2)
  many_track f ok y used lp body1 body2 h w x small =
      fold (λ n fu. item_turns n (S1 fu) (one f) y lp (body1 fu)) (item_turns b S2 (two f) y lp body2 w) (turns_track f ok y used lp body1 body2 h b b (omega arith) (omega arith) w x small)

  pub track_asks : (f : Frame) (p : Place) (e : Formula) → TR Bool (λ i. asks (S1 i) (moved_to p f) e) (asks S2 (moved_to p f) e)
  track_asks f p e = asks_hold ℕ S (T ℕ same_fuel b) (T ℕ same_fuel b) hold (both f p) (fine f p) e (any_names e)

  pub track_does : (f : Frame) (p : Place) (a : Act) → TR Exit (λ i. does (S1 i) (moved_to p f) a) (does S2 (moved_to p f) a)
  track_does f p a = does_holds ℕ S (T ℕ same_fuel b) (T ℕ same_fuel b) hold many_track (both f p) (fine f p) a (any_act a)
