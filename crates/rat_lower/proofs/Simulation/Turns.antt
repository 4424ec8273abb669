-- Implied DO loops within a statement follow: their turns are bounded besides.
use Rattle.std.proofs.Common.{◌≡◌, true, false, Bool, ℕ, zero, suc, ◌+◌, ◌*◌, ◌-◌, ◌≤◌, ◌<◌, List, ap, ◌∙◌, refl, arith}
use Rattle.std.specs.Prelude.{⊤}
use Rattle.f66_tree.specs.Syntax.{Text}
use Rattle.f66_tree.specs.World.{Store, State, World, counted, Ended, GoesOn, Lost, Out, Gives, Halts, bind, choose}
use Rattle.f66_tree.specs.Units.{Spot, Setting}
use Rattle.f66_tree.specs.Statements.{LoopParameters, loop_turn, item_turns}
use Rattle.f66_tree.proofs.Posts.{post_any}
use Rattle.f66_tree.proofs.Related.{Sides, side1, side2, Frames, one, two, Good, Holds, turn_holds}
use Rattle.rat_lower.proofs.Simulation.Spared.{Lowering, near, still_near, kept_self, own_rank}
use Rattle.rat_lower.proofs.Simulation.Tracks.{Tracks, tracks_bind, fewer, same_fuel, T, TW, sides}

-- what bounds an implied DO: the fuel, and the turns that are left
record Both : Type 0 where
  fuel : ℕ
  turns : ℕ
  most : ℕ
  is1 : most ≤ fuel
  is2 : most ≤ turns

abbrev most_of : Both → ℕ
most_of j = j.most

module _ (g : Lowering) where
  module _ {A : Type 0} (t : ℕ → ℕ → World → Out A) where
    fold : {b x : ℕ} {v : Store} {s : State} (o : Out A) → Tracks Both most_of g b v s x (λ j. t j.turns j.fuel) o → Tracks ℕ same_fuel g b v s x (λ f. t f f) o
    fold (Gives a w) h = record { by = (h.by.0, h.by.1, h.by.2, h.by.3, λ f k c lt. h.by.4 (record { fuel = f; turns = f; most = f; is1 = omega arith; is2 = omega arith }) k c lt) }
    fold (Halts (Ended e) w) h = record { by = (h.by.0, h.by.1, h.by.2, λ f k c lt. h.by.3 (record { fuel = f; turns = f; most = f; is1 = omega arith; is2 = omega arith }) k c lt) }
    fold (Halts GoesOn w) h = record { by = (h.by.0, h.by.1, h.by.2, h.by.3, λ f c lt. h.by.4 (record { fuel = f; turns = f; most = f; is1 = omega arith; is2 = omega arith }) c lt) }
    fold (Halts Lost w) h = record { by = tt }

    -- a turn begins
    shift : {m x : ℕ} {v : Store} {s : State} (t1 : ℕ → ℕ → World → Out A) (o : Out A) → ((n f k c : ℕ) → t (suc n) f (near g v s (suc k) c) ≡ t1 n f (near g v s k (c + 1))) → Tracks Both most_of g m v s (1 + x) (λ j. t1 j.turns j.fuel) o → Tracks Both most_of g (suc m) v s x (λ j. t j.turns j.fuel) o
    shift {m} {x} {v} {s} t1 (Gives a w) is h = record { by = (h.by.0 + 1, omega (arith, h.by.1), h.by.2, h.by.3, λ j k c lt. go j.turns j.fuel j.most j.is1 j.is2 k c lt) }
      where
        go : (n f q : ℕ) → q ≤ f → q ≤ n → (k c : ℕ) → h.by.0 + 1 + k < q → t n f (near g v s (h.by.0 + 1 + k) c) ≡ Gives a (near g h.by.2 w.state k (c + (h.by.0 + 1)))
        go zero f q le1 le2 k c lt = absurd (omega arith)
        go (suc n) f q le1 le2 k c lt =
            let e : h.by.0 + 1 + k ≡ suc (h.by.0 + k) = omega arith in
            let e2 : c + 1 + h.by.0 ≡ c + (h.by.0 + 1) = omega arith in
            ap (λ u. t (suc n) f (near g v s u c)) e ∙ is n f (h.by.0 + k) c ∙ h.by.4 (record { fuel = f; turns = n; most = h.by.0 + k + 1; is1 = omega arith; is2 = omega arith }) k (c + 1) (omega arith) ∙ ap (λ u. Gives a (near g h.by.2 w.state k u)) e2
    shift {m} {x} {v} {s} t1 (Halts (Ended e0) w) is h = record { by = (h.by.0 + 1, omega (arith, h.by.1), h.by.2, λ j k c lt. go j.turns j.fuel j.most j.is1 j.is2 k c lt) }
      where
        go : (n f q : ℕ) → q ≤ f → q ≤ n → (k c : ℕ) → h.by.0 + 1 + k < q → t n f (near g v s (h.by.0 + 1 + k) c) ≡ Halts (Ended e0) (near g h.by.2 w.state k (c + (h.by.0 + 1)))
        go zero f q le1 le2 k c lt = absurd (omega arith)
        go (suc n) f q le1 le2 k c lt =
            let e : h.by.0 + 1 + k ≡ suc (h.by.0 + k) = omega arith in
            let e2 : c + 1 + h.by.0 ≡ c + (h.by.0 + 1) = omega arith in
            ap (λ u. t (suc n) f (near g v s u c)) e ∙ is n f (h.by.0 + k) c ∙ h.by.3 (record { fuel = f; turns = n; most = h.by.0 + k + 1; is1 = omega arith; is2 = omega arith }) k (c + 1) (omega arith) ∙ ap (λ u. Halts (Ended e0) (near g h.by.2 w.state k u)) e2
    shift {m} {x} {v} {s} t1 (Halts GoesOn w) is h = record { by = (h.by.0 + 1, omega (arith, h.by.1), omega (arith, h.by.2), h.by.3, λ j c lt. go j.turns j.fuel j.most j.is1 j.is2 c lt) }
      where
        go : (n f q : ℕ) → q ≤ f → q ≤ n → (c : ℕ) → h.by.0 + 1 < q → t n f (near g v s (h.by.0 + 1) c) ≡ Halts GoesOn (near g h.by.3 w.state 0 (c + (h.by.0 + 1)))
        go zero f q le1 le2 c lt = absurd (omega arith)
        go (suc n) f q le1 le2 c lt =
            let e : h.by.0 + 1 ≡ suc h.by.0 = omega arith in
            let e2 : c + 1 + h.by.0 ≡ c + (h.by.0 + 1) = omega arith in
            ap (λ u. t (suc n) f (near g v s u c)) e ∙ is n f h.by.0 c ∙ h.by.4 (record { fuel = f; turns = n; most = h.by.0 + 1; is1 = omega arith; is2 = omega arith }) (c + 1) (omega arith) ∙ ap (λ u. Halts GoesOn (near g h.by.3 w.state 0 u)) e2
    shift t1 (Halts Lost w) is h = record { by = tt }

  lift : {A : Type 0} {b x : ℕ} {v : Store} {s : State} {t : ℕ → World → Out A} (o : Out A) → Tracks ℕ same_fuel g b v s x t o → Tracks Both most_of g b v s x (λ j. t j.fuel) o
  lift (Gives a w) h = record { by = (h.by.0, h.by.1, h.by.2, h.by.3, λ j k c lt. h.by.4 j.fuel k c (omega (arith, j.is1))) }
  lift (Halts (Ended e) w) h = record { by = (h.by.0, h.by.1, h.by.2, λ j k c lt. h.by.3 j.fuel k c (omega (arith, j.is1))) }
  lift (Halts GoesOn w) h = record { by = (h.by.0, h.by.1, h.by.2, h.by.3, λ j c lt. h.by.4 j.fuel c (omega (arith, j.is1))) }
  lift (Halts Lost w) h = record { by = tt }

-- Where the relation bounds c turns, and the source's loops may make m0.
module _ (g : Lowering) (c m0 : ℕ) (few : c ≤ m0) (tick2 : ℕ → ℕ) (call1 : ℕ → ℕ → List Spot → World → Out ⊤) (call2 : ℕ → List Spot → World → Out ⊤)
    (hold : Holds ℕ (sides g ℕ same_fuel c m0 tick2 call1 (λ f. f) call2) (T ℕ same_fuel g c) (TW ℕ same_fuel g c)) where
  abbrev S : Sides ℕ
  S = sides g ℕ same_fuel c m0 tick2 call1 (λ f. f) call2

  abbrev S1 : ℕ → Setting
  S1 f = side1 S f

  abbrev S2 : Setting
  S2 = side2 S

  abbrev TR : (A : Type 0) → (ℕ → World → Out A) → (World → Out A) → Type 0
  TR A m1 m2 = T ℕ same_fuel g c A m1 m2

  turns_track : (f : Frames) → Good S f → (y : Text) → g.K f.unit y → (lp : LoopParameters) (body1 : ℕ → World → Out ⊤) (body2 : World → Out ⊤) → TR ⊤ body1 body2 → (m r : ℕ) → r ≤ m → r ≤ c → (v : Store) (w : World) (x : ℕ) → x ≤ 32 * w.count → Tracks Both most_of g r v w.state x (λ j. item_turns j.turns (S1 j.fuel) (one f) y lp (body1 j.fuel)) (item_turns m S2 (two f) y lp body2 w)
  turns_track f ok y used lp body1 body2 h zero r lr le v w x small = record { by = (0, omega arith, omega arith, v, λ j c lt. go j.turns j.most j.is2 c lt j.fuel) }
    where
      go : (n q : ℕ) → q ≤ n → (c : ℕ) → 0 < q → (fu : ℕ) → item_turns n (S1 fu) (one f) y lp (body1 fu) (near g v w.state 0 c) ≡ Halts GoesOn (near g v w.state 0 (c + 0))
      go zero q le2 c lt fu = absurd (omega arith)
      go (suc n) q le2 c lt fu = let e : c ≡ c + 0 = omega arith in ap (λ u. Halts GoesOn (near g v w.state 0 u)) e
  turns_track f ok y used lp body1 body2 h (suc m) r lr le v w x small =
      fewer Both most_of g {b = suc (r - 1)} (item_turns (suc m) S2 (two f) y lp body2 w) (omega arith) (shift g (λ n fu. item_turns n (S1 fu) (one f) y lp (body1 fu)) (λ n fu w1. bind (body1 fu w1) (λ _ w2. bind (loop_turn (S1 fu) (one f) y lp w2) (λ on w3. choose on (item_turns n (S1 fu) (one f) y lp (body1 fu) w3) (Gives tt w3))))
      (bind (body2 (counted w)) (λ _ w2. bind (loop_turn S2 (two f) y lp w2) (λ on w3. choose on (item_turns m S2 (two f) y lp body2 w3) (Gives tt w3)))) (λ n fu k c. refl)
      (tracks_bind Both most_of g (λ _. ⊤) {t = λ j w1. body1 j.fuel w1} (body2 (counted w)) (λ _ w2. bind (loop_turn S2 (two f) y lp w2) (λ on w3. choose on (item_turns m S2 (two f) y lp body2 w3) (Gives tt w3)))
      (λ _ j w2. bind (loop_turn (S1 j.fuel) (one f) y lp w2) (λ on w3. choose on (item_turns j.turns (S1 j.fuel) (one f) y lp (body1 j.fuel) w3) (Gives tt w3)))
      (fewer Both most_of g (body2 (counted w)) (omega arith) (lift g (body2 (counted w)) (h v (counted w) (1 + x) (omega arith)))) (post_any (body2 (counted w)))
      (λ _ _ v2 w2 y2 ok2. tracks_bind Both most_of g (λ _. ⊤) {t = λ j w3. loop_turn (S1 j.fuel) (one f) y lp w3} (loop_turn S2 (two f) y lp w2) (λ on w3. choose on (item_turns m S2 (two f) y lp body2 w3) (Gives tt w3))
      (λ on j w3. choose on (item_turns j.turns (S1 j.fuel) (one f) y lp (body1 j.fuel) w3) (Gives tt w3))
      (fewer Both most_of g (loop_turn S2 (two f) y lp w2) (omega arith) (lift g (loop_turn S2 (two f) y lp w2) (turn_holds ℕ S (T ℕ same_fuel g c) (TW ℕ same_fuel g c) hold f ok y used lp v2 w2 y2 ok2))) (post_any (loop_turn S2 (two f) y lp w2))
      (λ on _ v3 w3 y3 ok3. chosen on v3 w3 y3 ok3 (turns_track f ok y used lp body1 body2 h m (r - 1) (omega arith) (omega arith) v3 w3 y3 ok3)))))
    where
      chosen : (q : Bool) (v3 : Store) (w3 : World) (y3 : ℕ) → y3 ≤ 32 * w3.count → Tracks Both most_of g (r - 1) v3 w3.state y3 (λ j. item_turns j.turns (S1 j.fuel) (one f) y lp (body1 j.fuel)) (item_turns m S2 (two f) y lp body2 w3) →
          Tracks Both most_of g (r - 1) v3 w3.state y3 (λ j w4. choose q (item_turns j.turns (S1 j.fuel) (one f) y lp (body1 j.fuel) w4) (Gives tt w4)) (choose q (item_turns m S2 (two f) y lp body2 w3) (Gives tt w3))
      chosen true v3 w3 y3 ok3 h1 = h1
      chosen false v3 w3 y3 ok3 h1 = record { by = (0, omega arith, v3, kept_self g (own_rank g) v3, λ j k c lt. ap (λ w5. Gives tt w5) (still_near g v3 w3.state k c)) }

  pub many_track : (f : Frames) → Good S f → (y : Text) → g.K f.unit y → (lp : LoopParameters) (body1 : ℕ → World → Out ⊤) (body2 : World → Out ⊤) → TR ⊤ body1 body2 → TR ⊤ (λ i. item_turns i (S1 i) (one f) y lp (body1 i)) (item_turns m0 S2 (two f) y lp body2)
  many_track f ok y used lp body1 body2 h v w x small =
      fold g (λ n fu. item_turns n (S1 fu) (one f) y lp (body1 fu)) (item_turns m0 S2 (two f) y lp body2 w) (turns_track f ok y used lp body1 body2 h m0 c few (omega arith) v w x small)
