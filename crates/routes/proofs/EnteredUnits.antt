-- A run rests on the units that it may enter alone, the main and those to which a name leads: whatever statements stand under other
-- numbers, it is the same.
use Rattle.std.proofs.Common.{◌≡◌, ℕ, zero, suc, List, [], ◌∷◌, Some, refl, ap, ◌∙◌}
use Rattle.std.specs.Prelude.{⊤}
use Rattle.f66_tree.specs.Syntax.{Text, Line}
use Rattle.f66_tree.specs.World.{Record, World, Trapped, Ended, Out, Gives, Halts, bind, settle, moving, taping, take_one, choose, shown}
use Rattle.f66_tree.specs.Units.{Spot, Linkage, Frame, moved_to}
use Rattle.f66_tree.specs.Evaluation.{ticked, asked, held, store_at}
use Rattle.f66_tree.specs.Statements.{LoopParameters, loop_turn, item_turns}
use Rattle.f66_tree.specs.Execution.{Stand, stand, Progress, perform, fetch, runnable, no_loops, nowhere, first_state, target, exec, f66}
use Rattle.f66_tree.proofs.Posts.{IfGives, post_any}
use Rattle.f66_tree.proofs.Related.{plainly, same_names, however_used, Sides, side1, side2, Frames, one, two, Good, Holds, turn_holds}
use Rattle.f66_tree.proofs.RelatedRuns.{like_itself, like_same, performs}
use Rattle.f66_tree.proofs.AnyNames.{Any, AnySpot, any_scope, any_act, any_lines, any_fair}

bind_same : {A B : Type 0} (P : A → Type 0) (o1 o2 : Out A) (g1 g2 : A → World → Out B) → o1 ≡ o2 → IfGives P o2 → ((a : A) → P a → (w : World) → g1 a w ≡ g2 a w) → bind o1 g1 ≡ bind o2 g2
bind_same {A} P o1 o2 g1 g2 e post k = ap (λ o. bind o g1) e ∙ go o2 post
  where
    go : (o : Out A) → IfGives P o → bind o g1 ≡ bind o g2
    go (Gives a w) h = k a h w
    go (Halts f w) h = refl

abbrev Same : (A : Type 0) → (⊤ → World → Out A) → (World → Out A) → Type 0
Same A m1 m2 = (w : World) → m1 tt w ≡ m2 w

module _ (l : Linkage) (call1 call2 : ℕ → List Spot → World → Out ⊤) (most : ℕ) (calls : (x : Text) (v : ℕ) (ps : List Spot) → l.find x ≡ Some v → (w : World) → call1 v ps w ≡ call2 v ps w) where
  abbrev both : Sides ⊤
  both = record {
    linked1 = l;
    linked2 = l;
    call1 = λ i. call1;
    begin1 = λ i. take_one;
    most1 = λ i. most;
    tick1 = λ i c. c;
    call2 = call2;
    begin2 = take_one;
    most2 = most;
    tick2 = λ c. c;
    K = λ u. Any;
    Listed = λ u. Any;
    Called = λ u. Any;
    Fair = AnySpot;
    At = λ p q. p ≡ q;
  }

  same_holds : Holds ⊤ both Same Same
  same_holds = plainly ⊤ both Same (record {
    scope = any_scope l;
    same = same_names (λ u. Any) AnySpot l;
    uses = however_used (λ u. Any) l;
    gives = λ a w. refl;
    ends = λ e w. refl;
    traps = λ t p q at w. ap (λ r. Halts (Ended (Trapped t r)) w) at;
    binds = λ {A} {B} {P} {m1} {m2} {g1} {g2} h post k w. bind_same P (m1 tt w) (m2 w) (λ a w1. g1 a tt w1) (λ a w1. g2 a w1) (h w) (post w) k;
    loads = λ f g k p fair w. ap (λ q. settle q (asked k (held l p w.state.store)) w) g.places;
    stores = λ f g p fair c w. ap (λ q. store_at (side2 both) (record { unit = f.unit; actuals = f.actuals; place = q }) p c w) g.places;
    tapes = λ f g h step w. ap (λ q. moving q (h w.state.tape) w) g.places;
    takes = λ f g h step w. ap (λ q. bind (settle q (h w.state.tape) w) (λ x w1. Gives x.0 (taping x.1 w1))) g.places;
  }) (λ A m1 m2 h w. h (ticked (side2 both) w)) (λ u x v ps used e fair. calls x v ps e)

  many_same : (n : ℕ) (f : Frames) → Good both f → (x : Text) (k : LoopParameters) (m1 m2 : World → Out ⊤) → ((w : World) → m1 w ≡ m2 w) → (w : World) → item_turns n (side1 both tt) (one f) x k m1 w ≡ item_turns n (side2 both) (two f) x k m2 w
  many_same zero f good x k m1 m2 h w = refl
  many_same (suc n) f good x k m1 m2 h w =
      bind_same (λ _. ⊤) (take_one w) (take_one w) _ _ refl (post_any (take_one w)) (λ _ _ w1. bind_same (λ _. ⊤) (m1 w1) (m2 w1) _ _ (h w1) (post_any (m2 w1)) (λ _ _ w2.
      bind_same (λ _. ⊤) (loop_turn (side1 both tt) (one f) x k w2) (loop_turn (side2 both) (two f) x k w2) _ _ (turn_holds ⊤ both Same Same same_holds f good x tt k w2) (post_any (loop_turn (side2 both) (two f) x k w2))
      (λ on _ w3. ap (λ o. choose on o (Gives tt w3)) (many_same n f good x k m1 m2 h w3))))

  module _ (f : Frame) (code : List Line) (go1 go2 : (s : Stand) → World → Out ⊤) (goes : (rest : List Line) (pr : Progress) (w : World) → go1 (stand rest pr) w ≡ go2 (stand rest pr) w) where
    fetch_same : (rest : List Line) (pr : Progress) (w : World) → fetch (side1 both tt) f code rest go1 pr w ≡ fetch (side2 both) f code rest go2 pr w
    fetch_same [] pr w = refl
    fetch_same (s ∷ rest) pr w =
        bind_same (λ _. ⊤) (take_one w) (take_one w) _ _ refl (post_any (take_one w)) (λ _ _ w1. does_one w1)
      where
        at : Frames
        at = record { unit = f.unit; actuals = f.actuals; here = s.place; there = s.place }

        does_one : (w1 : World) → perform (side1 both tt) (moved_to s.place f) code s.label s.act rest go1 pr w1 ≡ perform (side2 both) (moved_to s.place f) code s.label s.act rest go2 pr w1
        does_one =
            performs ⊤ both Same Same same_holds (λ f1 g1 x used k m1 m2 h. many_same most f1 g1 x k (m1 tt) m2 h) at (record { places = refl; actuals = any_fair f.actuals }) code code (like_itself _ (λ p. refl) code) (any_lines code) (λ i. go1) go2
            (λ r1 r2 like used pr1 w2. ap (λ r. go1 (stand r pr1) w2) (like_same r1 r2 like) ∙ goes r2 pr1 w2) s.label rest rest (like_itself _ (λ p. refl) rest) (any_lines rest) pr s.act (any_act s.act)

module _ (l : Linkage) (codes others : ℕ → List Line) (alike : (x : Text) (v : ℕ) → l.find x ≡ Some v → codes v ≡ others v) where
  exec_same : (n : ℕ) (f : Frame) → codes f.unit ≡ others f.unit → (rest : List Line) (pr : Progress) (w : World) → exec l codes n f (stand rest pr) w ≡ exec l others n f (stand rest pr) w
  exec_same zero f is rest pr w = refl
  exec_same (suc n) f is rest pr w =
      fetch_same l (target l codes n (exec l codes n)).call (target l others n (exec l others n)).call n
      (λ x v ps e w1. ap (λ code. exec l codes n (record { unit = v; actuals = ps; place = nowhere }) (stand code no_loops) w1) (alike x v e) ∙ exec_same n (record { unit = v; actuals = ps; place = nowhere }) (alike x v e) (others v) no_loops w1)
      f (codes f.unit) (exec l codes n f) (exec l others n f) (λ r pr1 w1. exec_same n f is r pr1 w1) (runnable rest) pr w
      ∙ ap (λ code. fetch (target l others n (exec l others n)) f code (runnable rest) (exec l others n f) pr w) is

  -- a run over these input records is the same
  pub entered_alone : codes l.main ≡ others l.main → (input : List Record) (n : ℕ) → f66 l codes input n ≡ f66 l others input n
  entered_alone is input n =
      let w : World = record { state = first_state l input; left = n; count = 0 } in
      ap (λ code. shown (exec l codes (suc n) (record { unit = l.main; actuals = []; place = nowhere }) (stand code no_loops) w)) is
      ∙ ap shown (exec_same (suc n) (record { unit = l.main; actuals = []; place = nowhere }) is (others l.main) no_loops w)
