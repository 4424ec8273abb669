-- A run with a greater bound: an end stays, and records stay. Two runs with k and with k + e statements left do the same,
-- as long as the first goes on; where the first stops, the second has its records and maybe more.
use Rattle.std.proofs.Common.{◌≡◌, ◌-◌, Bool, true, false, ℕ, zero, suc, ◌+◌, ◌≤◌, ◌<◌, List, [], ◌∷◌, refl, sym, ap, subst, arith}
use Rattle.std.specs.Prelude.{⊤}
use Rattle.ground.specs.declared.place.Place.{Place}
use Rattle.ground.specs.declared.trap.Trap.{Trap}
use Rattle.ground.specs.Content.{Content}
use Rattle.f66_tree.specs.Syntax.{Text, Line}
use Rattle.f66_tree.specs.World.{Record, State, Tape, World, taping, Trapped, End, Ended, GoesOn, Lost, Out, Gives, Halts, bind, Try, Yields, Traps, Fails, Move, Moves, Breaks, Misses, settle, moving, holding, take_one, IsPrefix, choose, shown}
use Rattle.f66_tree.specs.Units.{Spot, Held, Lent, Linkage, Setting, Frame, is_main}
use Rattle.f66_tree.specs.Evaluation.{asked, held, stored, store_at}
use Rattle.f66_tree.specs.Statements.{LoopParameters, loop_turn, taped, taken_content, item_turns}
use Rattle.f66_tree.specs.Execution.{Stand, stand, Onward, Progress, fetch, past_end, runnable, no_loops, nowhere, first_state, target, exec, f66}
use Rattle.f66_tree.specs.Laws.{Extends}
use Rattle.f66_tree.proofs.Prefixes.{prefix_self, prefix_in}
use Rattle.f66_tree.proofs.Posts.{IfGives}
use Rattle.f66_tree.proofs.Related.{plainly, same_names, however_used, Sides, Frames, Good, Holds, turn_holds}
use Rattle.f66_tree.proofs.RelatedRuns.{LikeLines, like_itself, like_same, performs}
use Rattle.f66_tree.proofs.AnyNames.{Any, AnySpot, any_scope, any_act, any_lines, any_fair}
use Rattle.f66_tree.proofs.Grows.{out_of, Grows, bind_grows, bind_grows_if, alone, G, grows_hold, many_grow, turn_grows, fetch_grows, begin_grows, exec_grows}

abbrev pub at : State → ℕ → ℕ → World
at s k c = record { state = s; left = k; count = c }

-- a part with k left, and one with e more
abbrev pub LongerBy : {A : Type 0} → ℕ → ℕ → Out A → Out A → Type 0
LongerBy e k (Gives a w1) o2 = (w1.left ≤ k) × (o2 ≡ Gives a (at w1.state (w1.left + e) w1.count))
LongerBy e k (Halts (Ended f) w1) o2 = (w1.left ≤ k) × (o2 ≡ Halts (Ended f) (at w1.state (w1.left + e) w1.count))
LongerBy e k (Halts Lost w1) o2 = (w1.left ≤ k) × (o2 ≡ Halts Lost (at w1.state (w1.left + e) w1.count))
LongerBy e k (Halts GoesOn w1) o2 = IsPrefix w1.state.tape.written (out_of o2)

weaken : {A : Type 0} (e j k : ℕ) (p q : Out A) → j ≤ k → LongerBy e j p q → LongerBy e k p q
weaken e j k (Gives b v) q le h = (omega (arith, h.0), h.1)
weaken e j k (Halts (Ended f) v) q le h = (omega (arith, h.0), h.1)
weaken e j k (Halts Lost v) q le h = (omega (arith, h.0), h.1)
weaken e j k (Halts GoesOn v) q le h = h

bind_longer : {A B : Type 0} (e k : ℕ) (o1 o2 : Out A) (g1 g2 : A → World → Out B) → LongerBy e k o1 o2 → ((a : A) → Grows B (g2 a)) → ((a : A) (s : State) (j c : ℕ) → j ≤ k → LongerBy e j (g1 a (at s j c)) (g2 a (at s (j + e) c))) → LongerBy e k (bind o1 g1) (bind o2 g2)
bind_longer e k (Gives a w1) o2 g1 g2 h gr l =
    subst (λ q. LongerBy e k (g1 a w1) (bind q g2)) (sym h.1) (weaken e w1.left k (g1 a w1) (g2 a (at w1.state (w1.left + e) w1.count)) h.0 (l a w1.state w1.left w1.count h.0))
bind_longer e k (Halts (Ended f) w1) o2 g1 g2 h gr l = (h.0, ap (λ q. bind q g2) h.1)
bind_longer e k (Halts Lost w1) o2 g1 g2 h gr l = (h.0, ap (λ q. bind q g2) h.1)
bind_longer {A} {B} e k (Halts GoesOn w1) o2 g1 g2 h gr l = go o2 h
  where
    go : (q : Out A) → IsPrefix w1.state.tape.written (out_of q) → IsPrefix w1.state.tape.written (out_of (bind q g2))
    go (Gives a v) p = prefix_in p (gr a v)
    go (Halts r v) p = p

settle_longer : {A : Type 0} (e k : ℕ) (p : Place) (o : Try A) (s : State) (c : ℕ) → LongerBy e k (settle p o (at s k c)) (settle p o (at s (k + e) c))
settle_longer e k p (Yields a) s c = (omega arith, refl)
settle_longer e k p (Traps t) s c = (omega arith, refl)
settle_longer e k p Fails s c = (omega arith, refl)

bind_longer_if : {A B : Type 0} (P : A → Type 0) (e k : ℕ) (o1 o2 : Out A) (g1 g2 : A → World → Out B) → LongerBy e k o1 o2 → IfGives P o2 → ((a : A) → P a → Grows B (g2 a)) → ((a : A) → P a → (s : State) (j c : ℕ) → j ≤ k → LongerBy e j (g1 a (at s j c)) (g2 a (at s (j + e) c))) → LongerBy e k (bind o1 g1) (bind o2 g2)
bind_longer_if P e k (Gives a w1) o2 g1 g2 h post gr l =
    let ok : P a = subst (IfGives P) h.1 post in
    subst (λ q. LongerBy e k (g1 a w1) (bind q g2)) (sym h.1) (weaken e w1.left k (g1 a w1) (g2 a (at w1.state (w1.left + e) w1.count)) h.0 (l a ok w1.state w1.left w1.count h.0))
bind_longer_if P e k (Halts (Ended f) w1) o2 g1 g2 h post gr l = (h.0, ap (λ q. bind q g2) h.1)
bind_longer_if P e k (Halts Lost w1) o2 g1 g2 h post gr l = (h.0, ap (λ q. bind q g2) h.1)
bind_longer_if {A} {B} P e k (Halts GoesOn w1) o2 g1 g2 h post gr l = go o2 h post
  where
    go : (q : Out A) → IsPrefix w1.state.tape.written (out_of q) → IfGives P q → IsPrefix w1.state.tape.written (out_of (bind q g2))
    go (Gives a v) p ok = prefix_in p (gr a ok v)
    go (Halts r v) p ok = p

taped_longer : (e k : ℕ) (p : Place) (m : Move) (s : State) (c : ℕ) → LongerBy e k (moving p m (at s k c)) (moving p m (at s (k + e) c))
taped_longer e k p (Moves t) s c = (omega arith, refl)
taped_longer e k p (Breaks f t) s c = (omega arith, refl)
taped_longer e k p Misses s c = (omega arith, refl)

took_longer : (e k : ℕ) (p : Place) (o : Try (Content × Tape)) (s : State) (c : ℕ) → LongerBy {A = Content} e k (bind (settle p o (at s k c)) (λ t w1. Gives t.0 (taping t.1 w1))) (bind (settle p o (at s (k + e) c)) (λ t w1. Gives t.0 (taping t.1 w1)))
took_longer e k p (Yields t) s c = (omega arith, refl)
took_longer e k p (Traps t) s c = (omega arith, refl)
took_longer e k p Fails s c = (omega arith, refl)

store_longer : (l : Linkage) (e k : ℕ) (p : Place) (q : Spot) (v : Content) (s : State) (c : ℕ) → LongerBy {A = ⊤} e k (bind (settle p (stored l q v s.store) (at s k c)) (λ st w1. Gives tt (holding st w1))) (bind (settle p (stored l q v s.store) (at s (k + e) c)) (λ st w1. Gives tt (holding st w1)))
store_longer l e k p (Held u x o) v s c = (omega arith, refl)
store_longer l e k p (Lent a) v s c = (omega arith, refl)

module _ (l : Linkage) (call1 call2 : ℕ → List Spot → World → Out ⊤) (most1 most2 : ℕ) (e m : ℕ)
    (grows2 : (v : ℕ) (ps : List Spot) → Grows ⊤ (call2 v ps))
    (calls : (v : ℕ) (ps : List Spot) (s : State) (k c : ℕ) → k ≤ m → LongerBy e k (call1 v ps (at s k c)) (call2 v ps (at s (k + e) c))) where
  -- the part grows, and is longer by e
  pub record L (A : Type 0) (m1 : ⊤ → World → Out A) (m2 : World → Out A) : Type 0 where
    pub grows : Grows A m2
    pub longer : (s : State) (k c : ℕ) → k ≤ m → LongerBy e k (m1 tt (at s k c)) (m2 (at s (k + e) c))

  abbrev tick : ℕ → ℕ
  tick c = c

  abbrev s1 : Setting
  s1 = record { linked = l; call = call1; begin = take_one; most = most1; tick = tick }

  abbrev s2 : Setting
  s2 = record { linked = l; call = call2; begin = take_one; most = most2; tick = tick }

  -- both sides, at the same places
  abbrev short_and_long : Sides ⊤
  short_and_long = record {
    linked1 = l;
    linked2 = l;
    call1 = λ i. call1;
    begin1 = λ i. take_one;
    most1 = λ i. most1;
    tick1 = λ i. tick;
    call2 = call2;
    begin2 = take_one;
    most2 = most2;
    tick2 = tick;
    K = λ u. Any;
    Listed = λ u. Any;
    Called = λ u. Any;
    Fair = AnySpot;
    At = λ p q. p ≡ q;
  }

  abbrev alone2 : Sides ⊤
  alone2 = alone l call2 take_one most2 tick grows2 begin_grows

  grow2 : Holds ⊤ alone2 (G l call2 take_one most2 tick grows2 begin_grows) (G l call2 take_one most2 tick grows2 begin_grows)
  grow2 = grows_hold l call2 take_one most2 tick grows2 begin_grows

  free : (f : Frames) → Good alone2 f
  free f = record { places = tt; actuals = any_fair f.actuals }

  longer_holds : Holds ⊤ short_and_long L L
  longer_holds = plainly ⊤ short_and_long L (record {
    scope = any_scope l;
    same = same_names (λ u. Any) AnySpot l;
    uses = however_used (λ u. Any) l;
    gives = λ a. record { grows = grow2.parts.gives a; longer = λ s k c le. (omega arith, refl) };
    ends = λ f. record { grows = λ w. prefix_self w.state.tape.written; longer = λ s k c le. (omega arith, refl) };
    traps = λ t p q same. record { grows = λ w. prefix_self w.state.tape.written; longer = λ s k c le. trapped t p q same s k c };
    binds = λ {A} {B} {P} {m1} {m2} {g1} {g2} h post k1. record {
      grows = λ w. bind_grows_if P w (m2 w) (λ a w1. g2 a w1) (h.grows w) (post w) (λ a ok. (k1 a ok).grows);
      longer = λ s k c le. bind_longer_if P e k (m1 tt (at s k c)) (m2 (at s (k + e) c)) (λ a w1. g1 a tt w1) (λ a w1. g2 a w1) (h.longer s k c le) (post (at s (k + e) c)) (λ a ok. (k1 a ok).grows) (λ a ok s3 j c3 lj. (k1 a ok).longer s3 j c3 (omega arith));
    };
    loads = λ f g k p fair. record { grows = grow2.parts.loads f (free f) k p tt; longer = λ s j c le. moved_there f g (λ q. LongerBy e j (settle f.here (asked k (held l p s.store)) (at s j c)) (settle q (asked k (held l p s.store)) (at s (j + e) c))) (settle_longer e j f.here (asked k (held l p s.store)) s c) };
    stores = λ f g p fair v. record { grows = grow2.parts.stores f (free f) p tt v; longer = λ s j c le. moved_there f g (λ q. LongerBy e j (store_at s1 (here f) p v (at s j c)) (bind (settle q (stored l p v s.store) (at s (j + e) c)) (λ st w1. Gives tt (holding st w1)))) (store_longer l e j f.here p v s c) };
    tapes = λ f g h step. record { grows = grow2.parts.tapes f (free f) h step; longer = λ s j c le. moved_there f g (λ q. LongerBy e j (taped f.here h (at s j c)) (taped q h (at s (j + e) c))) (taped_longer e j f.here (h s.tape) s c) };
    takes = λ f g h step. record { grows = grow2.parts.takes f (free f) h step; longer = λ s j c le. moved_there f g (λ q. LongerBy e j (taken_content f.here h (at s j c)) (taken_content q h (at s (j + e) c))) (took_longer e j f.here (h s.tape) s c) };
  }) (λ A m1 m2 h. record { grows = h.grows; longer = h.longer }) (λ u x v ps used eq fair. record { grows = grows2 v ps; longer = calls v ps })
    where
      here : Frames → Frame
      here f = record { unit = f.unit; actuals = f.actuals; place = f.here }

      moved_there : (f : Frames) (g : Good short_and_long f) (P : Place → Type 0) → P f.here → P f.there
      moved_there f g P h = subst P g.places h

      trapped : {A : Type 0} (t : Trap) (p q : Place) → p ≡ q → (s : State) (k c : ℕ) → LongerBy {A = A} e k (Halts (Ended (Trapped t p)) (at s k c)) (Halts (Ended (Trapped t q)) (at s (k + e) c))
      trapped t p q same s k c = (omega arith, ap (λ v. Halts (Ended (Trapped t v)) (at s (k + e) c)) (sym same))

  abbrev pub here : Frames → Frame
  here f = record { unit = f.unit; actuals = f.actuals; place = f.here }

  abbrev there : Frames → Frame
  there f = record { unit = f.unit; actuals = f.actuals; place = f.there }

  many_longer : (f : Frames) → Good short_and_long f → (x : Text) (lp : LoopParameters) (b1 b2 : World → Out ⊤) → Grows ⊤ b2 → ((s : State) (k c : ℕ) → k ≤ m → LongerBy e k (b1 (at s k c)) (b2 (at s (k + e) c))) →
      (n1 n2 : ℕ) (s : State) (k c : ℕ) → k ≤ m → k + e < n2 → LongerBy e k (item_turns n1 s1 (here f) x lp b1 (at s k c)) (item_turns n2 s2 (there f) x lp b2 (at s (k + e) c))
  many_longer f good x lp b1 b2 g h zero n2 s k c le lt = many_grow l call2 take_one most2 tick grows2 begin_grows n2 f x lp b2 g (at s (k + e) c)
  many_longer f good x lp b1 b2 g h (suc n1) zero s k c le lt = absurd (omega arith)
  many_longer f good x lp b1 b2 g h (suc n1) (suc n2) s zero c le lt = many_grow l call2 take_one most2 tick grows2 begin_grows (suc n2) f x lp b2 g (at s (0 + e) c)
  many_longer f good x lp b1 b2 g h (suc n1) (suc n2) s (suc k) c le lt =
      let q : suc k + e ≡ suc (k + e) = omega arith in
      let g3 : Grows ⊤ (item_turns n2 s2 (there f) x lp b2) = many_grow l call2 take_one most2 tick grows2 begin_grows n2 f x lp b2 g in
      let gt : Grows _ (loop_turn s2 (there f) x lp) = turn_grows l call2 take_one most2 tick grows2 begin_grows f x lp in
      let lt1 = (turn_holds ⊤ short_and_long L L longer_holds f good x tt lp).longer in
      subst (λ v. LongerBy e (suc k) (item_turns (suc n1) s1 (here f) x lp b1 (at s (suc k) c)) (item_turns (suc n2) s2 (there f) x lp b2 (at s v c))) (sym q)
      (weaken e k (suc k) _ _ (omega arith)
      (bind_longer e k (b1 (at s k (c + 1))) (b2 (at s (k + e) (c + 1))) (λ _ w2. bind (loop_turn s1 (here f) x lp w2) (λ on w3. choose on (item_turns n1 s1 (here f) x lp b1 w3) (Gives tt w3))) (λ _ w2. bind (loop_turn s2 (there f) x lp w2) (λ on w3. choose on (item_turns n2 s2 (there f) x lp b2 w3) (Gives tt w3)))
      (h s k (c + 1) (omega arith))
      (λ _ w. bind_grows w (loop_turn s2 (there f) x lp w) _ (gt w) (λ on w3. chosen_grows (item_turns n2 s2 (there f) x lp b2) on w3 g3))
      (λ _ sa j ca lj. bind_longer e j (loop_turn s1 (here f) x lp (at sa j ca)) (loop_turn s2 (there f) x lp (at sa (j + e) ca)) (λ on w3. choose on (item_turns n1 s1 (here f) x lp b1 w3) (Gives tt w3)) (λ on w3. choose on (item_turns n2 s2 (there f) x lp b2 w3) (Gives tt w3))
      (lt1 sa j ca (omega arith)) (λ on w3. chosen_grows (item_turns n2 s2 (there f) x lp b2) on w3 g3)
      (λ on sb i cb li. chosen_longer (item_turns n1 s1 (here f) x lp b1 (at sb i cb)) (item_turns n2 s2 (there f) x lp b2 (at sb (i + e) cb)) on sb i cb (many_longer f good x lp b1 b2 g h n1 n2 sb i cb (omega arith) (omega arith))))))
    where
      chosen_grows : (m2 : World → Out ⊤) (b : Bool) (w3 : World) → Grows ⊤ m2 → IsPrefix w3.state.tape.written (out_of {A = ⊤} (choose b (m2 w3) (Gives tt w3)))
      chosen_grows m2 true w3 gr = gr w3
      chosen_grows m2 false w3 gr = prefix_self w3.state.tape.written

      chosen_longer : (o1 o2 : Out ⊤) (b : Bool) (sb : State) (i cb : ℕ) → LongerBy e i o1 o2 → LongerBy e i (choose b o1 (Gives tt (at sb i cb))) (choose b o2 (Gives tt (at sb (i + e) cb)))
      chosen_longer o1 o2 true sb i cb p = p
      chosen_longer o1 o2 false sb i cb p = (omega arith, refl)

  -- a statement begins where one more may
  fetch_longer : m + e < most2 → (f : Frame) (code rest : List Line) (go1 go2 : Onward) (pr : Progress) → ((a : Stand) → Grows ⊤ (go2 a)) → ((r1 r2 : List Line) → LikeLines (λ p q. p ≡ q) r1 r2 → (pr1 : Progress) (s : State) (k c : ℕ) → k ≤ m → LongerBy e k (go1 (stand r1 pr1) (at s k c)) (go2 (stand r2 pr1) (at s (k + e) c))) →
      (s : State) (k c : ℕ) → k ≤ suc m → LongerBy e k (fetch s1 f code rest go1 pr (at s k c)) (fetch s2 f code rest go2 pr (at s (k + e) c))
  fetch_longer big f code [] go1 go2 pr g h s k c le = ends (is_main (l.context f.unit).header)
    where
      ends : (b : Bool) → LongerBy e k (past_end b (at s k c)) (past_end b (at s (k + e) c))
      ends true = (omega arith, refl)
      ends false = (omega arith, refl)
  fetch_longer big f code (line ∷ rest) go1 go2 pr g h s zero c le =
      fetch_grows l call2 take_one most2 tick grows2 begin_grows f code (line ∷ rest) go2 pr g (at s (0 + e) c)
  fetch_longer big f code (line ∷ rest) go1 go2 pr g h s (suc k) c le =
      let q : suc k + e ≡ suc (k + e) = omega arith in
      let both : Frames = record { unit = f.unit; actuals = f.actuals; here = line.place; there = line.place } in
      let r = performs ⊤ short_and_long L L longer_holds
      (λ f1 good x used lp m1 m2 hh. record { grows = many_grow l call2 take_one most2 tick grows2 begin_grows most2 f1 x lp m2 hh.grows; longer = λ s3 k3 c3 l3. many_longer f1 good x lp (m1 tt) m2 hh.grows hh.longer most1 most2 s3 k3 c3 l3 (omega arith) })
      both (record { places = refl; actuals = any_fair f.actuals }) code code (like_itself (λ p q. p ≡ q) (λ p. refl) code) (any_lines code) (λ i. go1) go2
      (λ r1 r2 lr ur pr1. record { grows = g (stand r2 pr1); longer = h r1 r2 lr pr1 }) line.label rest rest (like_itself (λ p q. p ≡ q) (λ p. refl) rest) (any_lines rest) pr line.act (any_act line.act) in
      subst (λ v. LongerBy e (suc k) (fetch s1 f code (line ∷ rest) go1 pr (at s (suc k) c)) (fetch s2 f code (line ∷ rest) go2 pr (at s v c))) (sym q)
      (weaken e k (suc k) _ _ (omega arith) (r.longer s k (c + 1) (omega arith)))

abbrev IsOver : End → Type 0
IsOver (Ended f) = ⊤
IsOver GoesOn = ⊥
IsOver Lost = ⊥

module _ (l : Linkage) (codes : ℕ → List Line) where
  pub exec_longer : (n1 n2 e : ℕ) (f : Frame) (a : Stand) (s : State) (k c : ℕ) → k < n1 → k + e < n2 → LongerBy e k (exec l codes n1 f a (at s k c)) (exec l codes n2 f a (at s (k + e) c))
  exec_longer zero n2 e f a s k c lt1 lt2 = absurd (omega arith)
  exec_longer (suc n1) zero e f a s k c lt1 lt2 = absurd (omega arith)
  exec_longer (suc n1) (suc n2) e f a s zero c lt1 lt2 = nothing_left (runnable a.rest)
    where
      grows2 : (v : ℕ) (ps : List Spot) → Grows ⊤ ((target l codes n2 (exec l codes n2)).call v ps)
      grows2 v ps w1 = exec_grows l codes n2 (record { unit = v; actuals = ps; place = nowhere }) (stand (codes v) no_loops) w1

      nothing_left : (rest : List Line) → LongerBy e 0 (fetch (target l codes n1 (exec l codes n1)) f (codes f.unit) rest (exec l codes n1 f) a.loops (at s 0 c)) (fetch (target l codes n2 (exec l codes n2)) f (codes f.unit) rest (exec l codes n2 f) a.loops (at s (0 + e) c))
      nothing_left [] = ends (is_main (l.context f.unit).header)
        where
          ends : (b : Bool) → LongerBy e 0 (past_end b (at s 0 c)) (past_end b (at s (0 + e) c))
          ends true = (omega arith, refl)
          ends false = (omega arith, refl)
      nothing_left (line ∷ rest) = fetch_grows l (target l codes n2 (exec l codes n2)).call take_one n2 (λ q. q) grows2 begin_grows f (codes f.unit) (line ∷ rest) (exec l codes n2 f) a.loops (λ a1 w1. exec_grows l codes n2 f a1 w1) (at s (0 + e) c)
  exec_longer (suc n1) (suc n2) e f a s (suc k) c lt1 lt2 =
      fetch_longer l (target l codes n1 (exec l codes n1)).call (target l codes n2 (exec l codes n2)).call n1 n2 e k
      (λ v ps w1. exec_grows l codes n2 (record { unit = v; actuals = ps; place = nowhere }) (stand (codes v) no_loops) w1)
      (λ v ps sa j ca lj. exec_longer n1 n2 e (record { unit = v; actuals = ps; place = nowhere }) (stand (codes v) no_loops) sa j ca (omega arith) (omega arith))
      (omega arith) f (codes f.unit) (runnable a.rest) (exec l codes n1 f) (exec l codes n2 f) a.loops
      (λ a1 w1. exec_grows l codes n2 f a1 w1)
      (λ r1 r2 lr pr1 sa j ca lj. subst (λ r. LongerBy e j (exec l codes n1 f (stand r1 pr1) (at sa j ca)) (exec l codes n2 f (stand r pr1) (at sa (j + e) ca))) (like_same r1 r2 lr) (exec_longer n1 n2 e f (stand r1 pr1) sa j ca (omega arith) (omega arith)))
      s (suc k) c (omega arith)

  pub f66_extends : (input : List Record) (a b : ℕ) → a ≤ b → Extends (f66 l codes input a) (f66 l codes input b)
  f66_extends input a b le =
      let main : Frame = record { unit = l.main; actuals = []; place = nowhere } in
      let first = stand (codes l.main) no_loops in
      let q : a + (b - a) ≡ b = omega arith in
      let h = exec_longer (suc a) (suc b) (b - a) main first (first_state l input) a 0 (omega arith) (omega arith) in
      shows (exec l codes (suc a) main first (at (first_state l input) a 0)) (exec l codes (suc b) main first (at (first_state l input) b 0))
      (subst (λ v. LongerBy (b - a) a (exec l codes (suc a) main first (at (first_state l input) a 0)) (exec l codes (suc b) main first (at (first_state l input) v 0))) q h)
    where
      shows : (p q : Out ⊤) → LongerBy (b - a) a p q → Extends (shown p) (shown q)
      shows (Gives u w) q h = record { over = λ x e1. ap shown (sym h.1); grows = subst (λ v. IsPrefix w.state.tape.written (shown v).records) (sym h.1) (prefix_self w.state.tape.written) }
      shows (Halts (Ended x) w) q h = record { over = λ y e1. ap shown (sym h.1); grows = subst (λ v. IsPrefix w.state.tape.written (shown v).records) (sym h.1) (prefix_self w.state.tape.written) }
      shows (Halts Lost w) q h = record { over = λ y e1. ap shown (sym h.1); grows = subst (λ v. IsPrefix w.state.tape.written (shown v).records) (sym h.1) (prefix_self w.state.tape.written) }
      shows (Halts GoesOn w) q h = record { over = λ y e1. absurd (subst IsOver (sym e1) tt); grows = same q h }
        where
          same : (q1 : Out ⊤) → IsPrefix w.state.tape.written (out_of q1) → IsPrefix w.state.tape.written (shown q1).records
          same (Gives u1 w1) p = p
          same (Halts e1 w1) p = p
