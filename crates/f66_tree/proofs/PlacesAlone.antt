-- Units that differ in places alone. Part by part, what is done with the statements as they are is done with the statements
-- that have no places, but for the place of a trap.
use Rattle.std.proofs.Common.{◌≡◌, Bool, true, false, ℕ, zero, suc, List, [], ◌∷◌, refl, sym, ap, ◌∙◌, subst}
use Rattle.std.specs.Prelude.{⊤, map}
use Rattle.ground.specs.declared.place.Place.{Place}
use Rattle.ground.specs.Content.{Content}
use Rattle.f66_tree.specs.Syntax.{Text, Line}
use Rattle.f66_tree.specs.World.{Record, Tape, World, Done, Stopped, Trapped, Wrong, Finish, Ended, GoesOn, Lost, Out, Gives, Halts, bind, Try, Yields, Traps, Fails, Move, Moves, Breaks, Misses, settle, moving, holding, taping, take_one, take_from, choose, shown}
use Rattle.f66_tree.specs.Units.{Spot, Held, Lent, Linkage, Setting, is_main}
use Rattle.f66_tree.specs.Evaluation.{ticked, asked, held, stored}
use Rattle.f66_tree.specs.Statements.{LoopParameters, loop_turn, item_turns}
use Rattle.f66_tree.specs.Execution.{stand, Progress, perform, fetch, past_end, runnable, no_loops, nowhere, first_state, target, exec, f66}
use Rattle.f66_tree.specs.Laws.{placeless, shown_placeless, PlacesTellTrapsAlone}
use Rattle.f66_tree.proofs.Posts.{IfGives}
use Rattle.f66_tree.proofs.Related.{plainly, same_names, however_used, Sides, side1, side2, Frames, one, two, Good, Holds, turn_holds}
use Rattle.f66_tree.proofs.RelatedRuns.{LikeLines, like_runnable, performs}
use Rattle.f66_tree.proofs.AnyNames.{Any, AnySpot, any_scope, any_act, any_lines, any_fair}

-- the same but for the place of a trap
abbrev pub AlikeEnd : {A : Type 0} → Finish → World → Out A → Type 0
AlikeEnd (Trapped t p) w o = (q : Place) × (o ≡ Halts (Ended (Trapped t q)) w)
AlikeEnd f w o = o ≡ Halts (Ended f) w

abbrev pub Alike : {A : Type 0} → Out A → Out A → Type 0
Alike (Gives a w) o = o ≡ Gives a w
Alike (Halts (Ended f) w) o = AlikeEnd f w o
Alike (Halts GoesOn w) o = o ≡ Halts GoesOn w
Alike (Halts Lost w) o = o ≡ Halts Lost w

pub alike_end : (A : Type 0) (f : Finish) (w : World) → AlikeEnd {A = A} f w (Halts (Ended f) w)
alike_end A Done w = refl
alike_end A (Stopped n) w = refl
alike_end A (Trapped t p) w = (p, refl)
alike_end A Wrong w = refl

pub bind_alike : {A B : Type 0} (P : A → Type 0) (o1 o2 : Out A) (g1 g2 : A → World → Out B) → Alike o1 o2 → IfGives P o2 → ((a : A) → P a → (w : World) → Alike (g1 a w) (g2 a w)) → Alike (bind o1 g1) (bind o2 g2)
bind_alike P (Gives a w) o2 g1 g2 h post k = subst (λ q. Alike (g1 a w) (bind q g2)) (sym h) (k a (subst (IfGives P) h post) w)
bind_alike P (Halts (Ended Done) w) o2 g1 g2 h post k = ap (λ q. bind q g2) h
bind_alike P (Halts (Ended (Stopped n)) w) o2 g1 g2 h post k = ap (λ q. bind q g2) h
bind_alike P (Halts (Ended (Trapped t p)) w) o2 g1 g2 h post k = (h.0, ap (λ q. bind q g2) h.1)
bind_alike P (Halts (Ended Wrong) w) o2 g1 g2 h post k = ap (λ q. bind q g2) h
bind_alike P (Halts GoesOn w) o2 g1 g2 h post k = ap (λ q. bind q g2) h
bind_alike P (Halts Lost w) o2 g1 g2 h post k = ap (λ q. bind q g2) h

pub settle_alike : {A : Type 0} (p q : Place) (o : Try A) (w : World) → Alike (settle p o w) (settle q o w)
settle_alike p q (Yields a) w = refl
settle_alike p q (Traps t) w = (q, refl)
settle_alike p q Fails w = refl

pub taped_alike : (p q : Place) (m : Move) (w : World) → Alike (moving p m w) (moving q m w)
taped_alike p q (Moves t) w = refl
taped_alike p q (Breaks e t) w = (q, refl)
taped_alike p q Misses w = refl

pub took_alike : (p q : Place) (o : Try (Content × Tape)) (w : World) → Alike {A = Content} (bind (settle p o w) (λ x w1. Gives x.0 (taping x.1 w1))) (bind (settle q o w) (λ x w1. Gives x.0 (taping x.1 w1)))
took_alike p q (Yields t) w = refl
took_alike p q (Traps t) w = (q, refl)
took_alike p q Fails w = refl

pub store_alike : (l : Linkage) (p q : Place) (s : Spot) (c : Content) (w : World) → Alike {A = ⊤} (bind (settle p (stored l s c w.state.store) w) (λ st w1. Gives tt (holding st w1))) (bind (settle q (stored l s c w.state.store) w) (λ st w1. Gives tt (holding st w1)))
store_alike l p q (Held u x o) c w = refl
store_alike l p q (Lent v) c w = (q, refl)

abbrev pub AllAlike : (A : Type 0) → (World → Out A) → (World → Out A) → Type 0
AllAlike A m1 m2 = (w : World) → Alike (m1 w) (m2 w)

module _ (l : Linkage) (call1 call2 : ℕ → List Spot → World → Out ⊤) (begin : World → Out ⊤) (most : ℕ) (tick : ℕ → ℕ)
    (calls : (v : ℕ) (ps : List Spot) (w : World) → Alike (call1 v ps w) (call2 v ps w)) where
  -- the same statements at any places
  abbrev pub anywhere : Sides ⊤
  anywhere = record {
    linked1 = l;
    linked2 = l;
    call1 = λ i. call1;
    begin1 = λ i. begin;
    most1 = λ i. most;
    tick1 = λ i. tick;
    call2 = call2;
    begin2 = begin;
    most2 = most;
    tick2 = tick;
    K = λ u. Any;
    Listed = λ u. Any;
    Called = λ u. Any;
    Fair = AnySpot;
    At = λ p q. ⊤;
  }

  abbrev pub Al : (A : Type 0) → (⊤ → World → Out A) → (World → Out A) → Type 0
  Al A m1 m2 = (w : World) → Alike (m1 tt w) (m2 w)

  pub alike_holds : Holds ⊤ anywhere Al Al
  alike_holds = plainly ⊤ anywhere Al (record {
    scope = any_scope l;
    same = same_names (λ u. Any) AnySpot l;
    uses = however_used (λ u. Any) l;
    gives = λ a w. refl;
    ends = λ {A} e w. alike_end A e w;
    traps = λ t p q at w. (q, refl);
    binds = λ {A} {B} {P} {m1} {m2} {g1} {g2} h post k w. bind_alike P (m1 tt w) (m2 w) (λ a w1. g1 a tt w1) (λ a w1. g2 a w1) (h w) (post w) k;
    loads = λ f g k p fair w. settle_alike f.here f.there (asked k (held l p w.state.store)) w;
    stores = λ f g p fair c w. store_alike l f.here f.there p c w;
    tapes = λ f g h step w. taped_alike f.here f.there (h w.state.tape) w;
    takes = λ f g h step w. took_alike f.here f.there (h w.state.tape) w;
  }) (λ A m1 m2 h w. h (ticked (side2 anywhere) w)) (λ u x v ps used e fair. calls v ps)

  pub good : (f : Frames) → Good anywhere f
  good f = record { places = tt; actuals = any_fair f.actuals }

  pub many_alike : (n : ℕ) (f : Frames) (x : Text) (k : LoopParameters) (m1 m2 : World → Out ⊤) → AllAlike ⊤ m1 m2 → AllAlike ⊤ (begin) (begin) → AllAlike ⊤ (item_turns n (side1 anywhere tt) (one f) x k m1) (item_turns n (side2 anywhere) (two f) x k m2)
  many_alike zero f x k m1 m2 h b w = refl
  many_alike (suc n) f x k m1 m2 h b w =
      bind_alike (λ _. ⊤) (begin w) (begin w) _ _ (b w) (any (begin w)) (λ _ _ w1. bind_alike (λ _. ⊤) (m1 w1) (m2 w1) _ _ (h w1) (any (m2 w1)) (λ _ _ w2.
      bind_alike (λ _. ⊤) (loop_turn (side1 anywhere tt) (one f) x k w2) (loop_turn (side2 anywhere) (two f) x k w2) _ _ (turn_holds ⊤ anywhere Al Al alike_holds f (good f) x tt k w2) (any (loop_turn (side2 anywhere) (two f) x k w2))
      (λ on _ w3. chosen on w3 (many_alike n f x k m1 m2 h b w3))))
    where
      any : {A : Type 0} (o : Out A) → IfGives (λ (a : A). ⊤) o
      any (Gives a v) = tt
      any (Halts e v) = tt

      chosen : (v : Bool) (w3 : World) → Alike (item_turns n (side1 anywhere tt) (one f) x k m1 w3) (item_turns n (side2 anywhere) (two f) x k m2 w3) → Alike {A = ⊤} (choose v (item_turns n (side1 anywhere tt) (one f) x k m1 w3) (Gives tt w3)) (choose v (item_turns n (side2 anywhere) (two f) x k m2 w3) (Gives tt w3))
      chosen true w3 q = q
      chosen false w3 q = refl

pub begin_alike : AllAlike ⊤ take_one take_one
begin_alike w = by_left w.left
  where
    by_left : (k : ℕ) → Alike (take_from w.state k w.count) (take_from w.state k w.count)
    by_left zero = refl
    by_left (suc k) = refl

abbrev Wherever : Place → Place → Type 0
Wherever p q = ⊤

pub like_placeless : (code : List Line) → LikeLines Wherever code (map placeless code)
like_placeless [] = tt
like_placeless (a ∷ as') = (refl, refl, tt, like_placeless as')

module _ (l : Linkage) (codes : ℕ → List Line) where
  abbrev bare : ℕ → List Line
  bare v = map placeless (codes v)

  exec_alike : (n : ℕ) (f : Frames) (r1 r2 : List Line) → LikeLines Wherever r1 r2 → (pr : Progress) → AllAlike ⊤ (exec l codes n (one f) (stand r1 pr)) (exec l bare n (two f) (stand r2 pr))
  exec_alike zero f r1 r2 lr pr w = refl
  exec_alike (suc n) f r1 r2 lr pr w =
      by_rest (runnable r1) (runnable r2) (like_runnable Wherever r1 r2 lr)
      (λ v ps. exec_alike n (record { unit = v; actuals = ps; here = nowhere; there = nowhere }) (codes v) (bare v) (like_placeless (codes v)) no_loops)
      (λ q1 q2 lq pr1. exec_alike n f q1 q2 lq pr1)
    where
      t1 : Setting
      t1 = target l codes n (exec l codes n)

      by_rest : (q1 q2 : List Line) → LikeLines Wherever q1 q2 → ((v : ℕ) (ps : List Spot) → AllAlike ⊤ ((target l codes n (exec l codes n)).call v ps) ((target l bare n (exec l bare n)).call v ps)) →
          ((s1 s2 : List Line) → LikeLines Wherever s1 s2 → (pr1 : Progress) → AllAlike ⊤ (exec l codes n (one f) (stand s1 pr1)) (exec l bare n (two f) (stand s2 pr1))) →
          Alike (fetch (target l codes n (exec l codes n)) (one f) (codes f.unit) q1 (exec l codes n (one f)) pr w) (fetch (target l bare n (exec l bare n)) (two f) (bare f.unit) q2 (exec l bare n (two f)) pr w)
      by_rest [] [] lq calls go = past (is_main (l.context f.unit).header)
        where
          past : (b : Bool) → Alike (past_end b w) (past_end b w)
          past true = refl
          past false = refl
      by_rest [] (a2 ∷ q2) lq calls go = absurd lq
      by_rest (a1 ∷ q1) [] lq calls go = absurd lq
      by_rest (a1 ∷ q1) (a2 ∷ q2) lq calls go =
          let call1 = (target l codes n (exec l codes n)).call in
          let call2 = (target l bare n (exec l bare n)).call in
          let both : Frames = record { unit = f.unit; actuals = f.actuals; here = a1.place; there = a2.place } in
          let d = anywhere l call1 call2 take_one n (λ c. c) calls in
          let does_one = performs ⊤ d (Al l call1 call2 take_one n (λ c. c) calls) (Al l call1 call2 take_one n (λ c. c) calls) (alike_holds l call1 call2 take_one n (λ c. c) calls)
          (λ f1 g1 x used k m1 m2 h. many_alike l call1 call2 take_one n (λ c. c) calls n f1 x k (m1 tt) m2 h begin_alike)
          both (good l call1 call2 take_one n (λ c. c) calls both) (codes f.unit) (bare f.unit) (like_placeless (codes f.unit)) (any_lines (codes f.unit)) (λ i. exec l codes n (one f)) (exec l bare n (two f))
          (λ s1 s2 ls us pr1. go s1 s2 ls pr1) a1.label q1 q2 lq.3 (any_lines q1) pr a1.act (any_act a1.act) in
          bind_alike (λ _. ⊤) (take_one w) (take_one w) _ _ (begin_alike w) (any (take_one w)) (λ _ _ w1.
          subst (λ o. Alike (perform (side1 d tt) (one both) (codes f.unit) a1.label a1.act q1 (exec l codes n (one f)) pr w1) (perform (side2 d) (two both) (bare f.unit) o a2.act q2 (exec l bare n (two f)) pr w1)) lq.0
          (subst (λ a. Alike (perform (side1 d tt) (one both) (codes f.unit) a1.label a1.act q1 (exec l codes n (one f)) pr w1) (perform (side2 d) (two both) (bare f.unit) a1.label a q2 (exec l bare n (two f)) pr w1)) lq.1 (does_one w1)))
        where
          any : {A : Type 0} (o : Out A) → IfGives (λ (a : A). ⊤) o
          any (Gives a v) = tt
          any (Halts e v) = tt

pub shown_alike : (p q : Out ⊤) → Alike p q → shown_placeless (shown p) ≡ shown_placeless (shown q)
shown_alike (Gives a w) q h = ap (λ o. shown_placeless (shown o)) (sym h)
shown_alike (Halts (Ended Done) w) q h = ap (λ o. shown_placeless (shown o)) (sym h)
shown_alike (Halts (Ended (Stopped n)) w) q h = ap (λ o. shown_placeless (shown o)) (sym h)
shown_alike (Halts (Ended (Trapped t p)) w) q h = ap (λ o. shown_placeless (shown o)) (sym h.1)
shown_alike (Halts (Ended Wrong) w) q h = ap (λ o. shown_placeless (shown o)) (sym h)
shown_alike (Halts GoesOn w) q h = ap (λ o. shown_placeless (shown o)) (sym h)
shown_alike (Halts Lost w) q h = ap (λ o. shown_placeless (shown o)) (sym h)

to_placeless : (l : Linkage) (codes : ℕ → List Line) (input : List Record) (n : ℕ) → shown_placeless (f66 l codes input n) ≡ shown_placeless (f66 l (λ v. map placeless (codes v)) input n)
to_placeless l codes input n =
    let w : World = record { state = first_state l input; left = n; count = 0 } in
    shown_alike _ _ (exec_alike l codes (suc n) (record { unit = l.main; actuals = []; here = nowhere; there = nowhere }) (codes l.main) (map placeless (codes l.main)) (like_placeless (codes l.main)) no_loops w)

pub places_alone : PlacesTellTrapsAlone
places_alone l codes1 codes2 same input n =
    let equal : (λ (v : ℕ). map placeless (codes1 v)) ≡ (λ v. map placeless (codes2 v)) = λ i v. same v i in
    to_placeless l codes1 input n ∙ ap (λ codes. shown_placeless (f66 l codes input n)) equal ∙ sym (to_placeless l codes2 input n)
