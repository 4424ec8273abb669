-- Records of input that a run does not ask for. Part by part, what is done with the records of the input is done with more
-- behind them, unless a record is asked for where the shorter input has none.
use Rattle.std.proofs.Common.{◌≡◌, ◌≢◌, Bool, true, false, ℕ, zero, suc, List, [], ◌∷◌, refl, sym, ap, subst}
use Rattle.std.specs.Prelude.{⊤}
use Rattle.ground.specs.declared.place.Place.{Place}
use Rattle.ground.specs.declared.trap.Trap.{Trap}
use Rattle.ground.specs.declared.trap.Trap.TheVariants.{EndOfInput}
use Rattle.ground.specs.Content.{Content}
use Rattle.f66_tree.specs.Syntax.{Text, Line}
use Rattle.f66_tree.specs.World.{Record, Tape, World, Done, Stopped, Trapped, Wrong, Finish, Ended, GoesOn, Lost, Out, Gives, Halts, bind, Try, Yields, Traps, Fails, Move, Moves, Breaks, Misses, settle, moving, holding, taping, take_one, take_from, choose, shown}
use Rattle.f66_tree.specs.FirstLaws.{longer, Unasked, SameTake}
use Rattle.f66_tree.specs.Units.{Spot, Held, Lent, Linkage, Frame, is_main}
use Rattle.f66_tree.specs.Evaluation.{ticked, asked, held, stored}
use Rattle.f66_tree.specs.Statements.{LoopParameters, loop_turn, taped, taken_content, item_turns}
use Rattle.f66_tree.specs.Execution.{stand, Progress, fetch, past_end, runnable, no_loops, nowhere, first_state, target, exec}
use Rattle.f66_tree.specs.Laws.{UnaskedChangeNothing}
use Rattle.f66_tree.proofs.Posts.{IfGives, post_any}
use Rattle.f66_tree.proofs.Related.{plainly, same_names, however_used, Sides, side1, side2, Frames, one, two, Good, Holds, turn_holds}
use Rattle.f66_tree.proofs.RelatedRuns.{like_itself, like_same, performs}
use Rattle.f66_tree.proofs.AnyNames.{Any, AnySpot, any_scope, any_act, any_lines, any_fair}

module _ (more : List Record) where
  -- a world with more records of input
  abbrev pub fuller : World → World
  fuller w = taping (longer more w.state.tape) w

  abbrev pub SparesEnd : {A : Type 0} → Finish → World → Out A → Type 0
  SparesEnd (Trapped EndOfInput p) w o = ⊤
  SparesEnd f w o = o ≡ Halts (Ended f) (fuller w)

  abbrev pub SparesOut : {A : Type 0} → Out A → Out A → Type 0
  SparesOut (Gives a w) o = o ≡ Gives a (fuller w)
  SparesOut (Halts (Ended f) w) o = SparesEnd f w o
  SparesOut (Halts GoesOn w) o = o ≡ Halts GoesOn (fuller w)
  SparesOut (Halts Lost w) o = o ≡ Halts Lost (fuller w)

  pub trap_spares : (A : Type 0) (t : Trap) (p : Place) (w : World) → SparesOut {A = A} (Halts (Ended (Trapped t p)) w) (Halts (Ended (Trapped t p)) (fuller w))
  trap_spares A EndOfInput p w = tt
  trap_spares A _ p w = refl

  pub end_spares : (A : Type 0) (f : Finish) (w : World) → SparesOut {A = A} (Halts (Ended f) w) (Halts (Ended f) (fuller w))
  end_spares A Done w = refl
  end_spares A (Stopped n) w = refl
  end_spares A (Trapped t p) w = trap_spares A t p w
  end_spares A Wrong w = refl

  trap_bind : {A B : Type 0} (t : Trap) (p : Place) (w : World) (o : Out A) (g : A → World → Out B) → SparesEnd (Trapped t p) w o → SparesEnd (Trapped t p) w (bind o g)
  trap_bind EndOfInput p w o g h = tt
  trap_bind _ p w o g h = ap (λ q. bind q g) h

  pub bind_spares : {A B : Type 0} (P : A → Type 0) (o1 o2 : Out A) (g1 g2 : A → World → Out B) → SparesOut o1 o2 → IfGives P o2 → ((a : A) → P a → (w : World) → SparesOut (g1 a w) (g2 a (fuller w))) → SparesOut (bind o1 g1) (bind o2 g2)
  bind_spares P (Gives a w) o2 g1 g2 h post k = subst (λ q. SparesOut (g1 a w) (bind q g2)) (sym h) (k a (subst (IfGives P) h post) w)
  bind_spares P (Halts (Ended Done) w) o2 g1 g2 h post k = ap (λ q. bind q g2) h
  bind_spares P (Halts (Ended (Stopped n)) w) o2 g1 g2 h post k = ap (λ q. bind q g2) h
  bind_spares P (Halts (Ended (Trapped t p)) w) o2 g1 g2 h post k = trap_bind t p w o2 g2 h
  bind_spares P (Halts (Ended Wrong) w) o2 g1 g2 h post k = ap (λ q. bind q g2) h
  bind_spares P (Halts GoesOn w) o2 g1 g2 h post k = ap (λ q. bind q g2) h
  bind_spares P (Halts Lost w) o2 g1 g2 h post k = ap (λ q. bind q g2) h

  settle_spares : (A : Type 0) (p : Place) (o : Try A) (w : World) → SparesOut (settle p o w) (settle p o (fuller w))
  settle_spares A p (Yields a) w = refl
  settle_spares A p (Traps t) w = trap_spares A t p w
  settle_spares A p Fails w = refl

  taped_spares : (p : Place) (m1 m2 : Move) (w : World) → Unasked more m1 m2 → SparesOut (moving p m1 w) (moving p m2 (fuller w))
  taped_spares p (Moves t) m2 w h = ap (λ m. moving p m (fuller w)) h
  taped_spares p (Breaks e t) m2 w h = by_trap e h
    where
      by_trap : (e : Trap) → Unasked more (Breaks e t) m2 → SparesOut (Halts (Ended (Trapped e p)) (taping t w)) (moving p m2 (fuller w))
      by_trap EndOfInput q = tt
      by_trap _ q = ap (λ m. moving p m (fuller w)) q
  taped_spares p Misses m2 w h = ap (λ m. moving p m (fuller w)) h

  took_spares : (p : Place) (o1 o2 : Try (Content × Tape)) (w : World) → SameTake more o1 o2 → SparesOut {A = Content} (bind (settle p o1 w) (λ x w1. Gives x.0 (taping x.1 w1))) (bind (settle p o2 (fuller w)) (λ x w1. Gives x.0 (taping x.1 w1)))
  took_spares p (Yields x) o2 w h = ap (λ o. bind (settle p o (fuller w)) (λ (x : Content × Tape) w1. Gives x.0 (taping x.1 w1))) h
  took_spares p (Traps t) o2 w h = subst (λ o. SparesOut {A = Content} (Halts (Ended (Trapped t p)) w) (bind (settle p o (fuller w)) (λ x w1. Gives x.0 (taping x.1 w1)))) (sym h) (trap_spares Content t p w)
  took_spares p Fails o2 w h = ap (λ o. bind (settle p o (fuller w)) (λ (x : Content × Tape) w1. Gives x.0 (taping x.1 w1))) h

  store_spares : (l : Linkage) (p : Place) (s : Spot) (c : Content) (w : World) → SparesOut {A = ⊤} (bind (settle p (stored l s c w.state.store) w) (λ st w1. Gives tt (holding st w1))) (bind (settle p (stored l s c w.state.store) (fuller w)) (λ st w1. Gives tt (holding st w1)))
  store_spares l p (Held u x o) c w = refl
  store_spares l p (Lent v) c w = refl

  abbrev pub AllSpare : (A : Type 0) → (World → Out A) → (World → Out A) → Type 0
  AllSpare A m1 m2 = (w : World) → SparesOut (m1 w) (m2 (fuller w))

  module _ (l : Linkage) (call1 call2 : ℕ → List Spot → World → Out ⊤) (begin : World → Out ⊤) (most : ℕ) (tick : ℕ → ℕ)
      (calls : (v : ℕ) (ps : List Spot) → AllSpare ⊤ (call1 v ps) (call2 v ps)) where
    -- the same statements at the same places
    abbrev pub inputs : Sides ⊤
    inputs = record {
      linked1 = l;
      linked2 = l;
      call1 = λ i. call1;
      begin1 = λ i. begin;
      most1 = λ i. most;
      tick1 = λ i. tick;
      call2 = call2;
      begin2 = begin;
      most2 = most;
      tick2 = tick;
      K = λ u. Any;
      Listed = λ u. Any;
      Called = λ u. Any;
      Fair = AnySpot;
      At = λ p q. p ≡ q;
    }

    abbrev pub Sp : (A : Type 0) → (⊤ → World → Out A) → (World → Out A) → Type 0
    Sp A m1 m2 = AllSpare A (m1 tt) m2

    pub spares_hold : Holds ⊤ inputs Sp Sp
    spares_hold = plainly ⊤ inputs Sp (record {
      scope = any_scope l;
      same = same_names (λ u. Any) AnySpot l;
      uses = however_used (λ u. Any) l;
      gives = λ a w. refl;
      ends = λ {A} e w. end_spares A e w;
      traps = λ {A} t p q same w. subst (λ v. SparesOut {A = A} (Halts (Ended (Trapped t p)) w) (Halts (Ended (Trapped t v)) (fuller w))) same (trap_spares A t p w);
      binds = λ {A} {B} {P} {m1} {m2} {g1} {g2} h post k w. bind_spares P (m1 tt w) (m2 (fuller w)) (λ a w1. g1 a tt w1) (λ a w1. g2 a w1) (h w) (post (fuller w)) k;
      loads = λ f g k p fair w. subst (λ v. SparesOut (settle f.here (asked k (held l p w.state.store)) w) (settle v (asked k (held l p w.state.store)) (fuller w))) g.places (settle_spares Content f.here (asked k (held l p w.state.store)) w);
      stores = λ f g p fair c w. subst (λ v. SparesOut {A = ⊤} (bind (settle f.here (stored l p c w.state.store) w) (λ st w1. Gives tt (holding st w1))) (bind (settle v (stored l p c w.state.store) (fuller w)) (λ st w1. Gives tt (holding st w1)))) g.places (store_spares l f.here p c w);
      tapes = λ f g h step w. subst (λ v. SparesOut (taped f.here h w) (taped v h (fuller w))) g.places (taped_spares f.here (h w.state.tape) (h (longer more w.state.tape)) w (step.unasked more w.state.tape));
      takes = λ f g h step w. subst (λ v. SparesOut (taken_content f.here h w) (taken_content v h (fuller w))) g.places (took_spares f.here (h w.state.tape) (h (longer more w.state.tape)) w (step.unasked more w.state.tape));
    }) (λ A m1 m2 h w. h (ticked (side2 inputs) w)) (λ u x v ps used e fair. calls v ps)

    pub good : (f : Frames) → f.here ≡ f.there → Good inputs f
    good f same = record { places = same; actuals = any_fair f.actuals }

    pub many_spare : (n : ℕ) (f : Frames) → Good inputs f → (x : Text) (k : LoopParameters) (m1 m2 : World → Out ⊤) → AllSpare ⊤ m1 m2 → AllSpare ⊤ begin begin → AllSpare ⊤ (item_turns n (side1 inputs tt) (one f) x k m1) (item_turns n (side2 inputs) (two f) x k m2)
    many_spare zero f g x k m1 m2 h b w = refl
    many_spare (suc n) f g x k m1 m2 h b w =
        bind_spares (λ _. ⊤) (begin w) (begin (fuller w)) _ _ (b w) (post_any (begin (fuller w))) (λ _ _ w1. bind_spares (λ _. ⊤) (m1 w1) (m2 (fuller w1)) _ _ (h w1) (post_any (m2 (fuller w1))) (λ _ _ w2.
        bind_spares (λ _. ⊤) (loop_turn (side1 inputs tt) (one f) x k w2) (loop_turn (side2 inputs) (two f) x k (fuller w2)) _ _ (turn_holds ⊤ inputs Sp Sp spares_hold f g x tt k w2) (post_any (loop_turn (side2 inputs) (two f) x k (fuller w2)))
        (λ on _ w3. chosen on w3 (many_spare n f g x k m1 m2 h b w3))))
      where
        chosen : (v : Bool) (w3 : World) → SparesOut (item_turns n (side1 inputs tt) (one f) x k m1 w3) (item_turns n (side2 inputs) (two f) x k m2 (fuller w3)) → SparesOut {A = ⊤} (choose v (item_turns n (side1 inputs tt) (one f) x k m1 w3) (Gives tt w3)) (choose v (item_turns n (side2 inputs) (two f) x k m2 (fuller w3)) (Gives tt (fuller w3)))
        chosen true w3 q = q
        chosen false w3 q = refl

  begin_spares : AllSpare ⊤ take_one take_one
  begin_spares w = by_left w.left
    where
      by_left : (k : ℕ) → SparesOut (take_from w.state k w.count) (take_from (fuller w).state k w.count)
      by_left zero = refl
      by_left (suc k) = refl

  module _ (l : Linkage) (codes : ℕ → List Line) where
    exec_spares : (n : ℕ) (f : Frame) (r : List Line) (pr : Progress) → AllSpare ⊤ (exec l codes n f (stand r pr)) (exec l codes n f (stand r pr))
    exec_spares zero f r pr w = refl
    exec_spares (suc n) f r pr w =
        by_rest (runnable r) (λ v ps. exec_spares n (record { unit = v; actuals = ps; place = nowhere }) (codes v) no_loops) (λ q pr1. exec_spares n f q pr1)
      where
        by_rest : (q : List Line) → ((v : ℕ) (ps : List Spot) → AllSpare ⊤ ((target l codes n (exec l codes n)).call v ps) ((target l codes n (exec l codes n)).call v ps)) → ((s : List Line) (pr1 : Progress) → AllSpare ⊤ (exec l codes n f (stand s pr1)) (exec l codes n f (stand s pr1))) →
            SparesOut (fetch (target l codes n (exec l codes n)) f (codes f.unit) q (exec l codes n f) pr w) (fetch (target l codes n (exec l codes n)) f (codes f.unit) q (exec l codes n f) pr (fuller w))
        by_rest [] calls go = past (is_main (l.context f.unit).header)
          where
            past : (b : Bool) → SparesOut (past_end b w) (past_end b (fuller w))
            past true = refl
            past false = refl
        by_rest (a ∷ q) calls go =
            let call = (target l codes n (exec l codes n)).call in
            let both : Frames = record { unit = f.unit; actuals = f.actuals; here = a.place; there = a.place } in
            bind_spares (λ _. ⊤) (take_one w) (take_one (fuller w)) _ _ (begin_spares w) (post_any (take_one (fuller w))) (λ _ _ w1.
            performs ⊤ (inputs l call call take_one n (λ c. c) calls) (Sp l call call take_one n (λ c. c) calls) (Sp l call call take_one n (λ c. c) calls) (spares_hold l call call take_one n (λ c. c) calls)
            (λ f1 g1 x used k m1 m2 h. many_spare l call call take_one n (λ c. c) calls n f1 g1 x k (m1 tt) m2 h begin_spares)
            both (good l call call take_one n (λ c. c) calls both refl) (codes f.unit) (codes f.unit) (like_itself (λ p q. p ≡ q) (λ p. refl) (codes f.unit)) (any_lines (codes f.unit)) (λ i. exec l codes n f) (exec l codes n f)
            (λ s1 s2 ls us pr1 w2. subst (λ s. SparesOut (exec l codes n f (stand s1 pr1) w2) (exec l codes n f (stand s pr1) (fuller w2))) (like_same s1 s2 ls) (go s1 pr1 w2)) a.label q q (like_itself (λ p q. p ≡ q) (λ p. refl) q) (any_lines q) pr a.act (any_act a.act) w1)

  shown_trap : (t : Trap) (p : Place) (w : World) (o : Out ⊤) → SparesEnd (Trapped t p) w o → ((q : Place) → (shown (Halts (Ended (Trapped t p)) w)).end ≢ Ended (Trapped EndOfInput q)) → shown o ≡ shown (Halts (Ended (Trapped t p)) w)
  shown_trap EndOfInput p w o h not_asked = absurd (not_asked p refl)
  shown_trap _ p w o h not_asked = ap shown h

  pub shown_spares : (o1 o2 : Out ⊤) → SparesOut o1 o2 → ((p : Place) → (shown o1).end ≢ Ended (Trapped EndOfInput p)) → shown o2 ≡ shown o1
  shown_spares (Gives a w) o2 h not_asked = ap shown h
  shown_spares (Halts (Ended Done) w) o2 h not_asked = ap shown h
  shown_spares (Halts (Ended (Stopped n)) w) o2 h not_asked = ap shown h
  shown_spares (Halts (Ended (Trapped t p)) w) o2 h not_asked = shown_trap t p w o2 h not_asked
  shown_spares (Halts (Ended Wrong) w) o2 h not_asked = ap shown h
  shown_spares (Halts GoesOn w) o2 h not_asked = ap shown h
  shown_spares (Halts Lost w) o2 h not_asked = ap shown h

pub unasked_alone : UnaskedChangeNothing
unasked_alone l codes input more n not_asked =
    shown_spares more _ _ (exec_spares more l codes (suc n) (record { unit = l.main; actuals = []; place = nowhere }) (codes l.main) no_loops (record { state = first_state l input; left = n; count = 0 })) not_asked
