-- Loops follow: with at most m turns the source's loop stops at its bound only where the target has begun m statements.
use Rattle.std.proofs.Common.{◌≡◌, true, false, Bool, ℕ, zero, suc, ◌+◌, ◌*◌, ◌≤◌, ◌<◌, List, [], ◌∷◌, length, Option, sym, ap, ◌∙◌, subst, arith}
use Rattle.ground.specs.declared.place.Place.{Place}
use Rattle.f66_tree.specs.Syntax.{Text, Act, Formula, Line}
use Rattle.f66_tree.specs.World.{State, World, counted, GoesOn, Gives, Halts, bind, choose}
use Rattle.f66_tree.specs.Units.{Setting, Frame, moved_to}
use Rattle.f66_tree.specs.Uses.{NamesBy}
use Rattle.f66_tree.specs.Statements.{LoopParameters, loop_turn}
use Rattle.f66_tree.specs.Execution.{from_label, closers, close, fetch, exec}
use Rattle.f66_tree.proofs.Comes.{at, Part, Comes, comes_on, one}
use Rattle.rat_tree.specs.Meaning.{Went, Flow, Continuation, went, turned, tested, turns, always, stepped, until, do_turns}
use Rattle.rat_tree.specs.Uses.{NamesIfAnyBy, ActIfAnyBy}
use Rattle.rat_lower.specs.Code.{Rings, jump, unless, here, with_test, with_act}
use Rattle.rat_lower.specs.Checked.{IsPlainIfAny}
use Rattle.rat_lower.proofs.Simulation.Spared.{Lowering, near, spared, code, F, Own}
use Rattle.rat_lower.proofs.Simulation.Tracks.{fewer, same_fuel}
use Rattle.rat_lower.proofs.Simulation.Values.{track_turn}
use Rattle.rat_lower.proofs.Simulation.Follows.{Extra, spare_as, Keeps, keeps_self, Calls, Raw, Run, Under, Follows, first, bind_follows, past_jump, past_here, turned_follows}
use Rattle.rat_lower.proofs.Simulation.Parts.{Src, unless_follows, tested_follows, performed_follows}
use Rattle.rat_lower.proofs.Simulation.Labels.{Starts}

module _ (g : Lowering) (b : ℕ) (call : Calls g b) where
  abbrev So : Setting
  So = Src g b call

  abbrev U : ℕ → Setting
  U n = Under g n

  abbrev R : List Line → Extra → Part
  R rest pr = Run g rest pr

  abbrev Fo : (m top : ℕ) (ls : Rings) (pr : Extra) (t : Part) (s : State) (x : ℕ) (next : List Line) (o : Flow) → Type 0
  Fo m top ls pr t s x next o = Follows g 1 m top ls pr t s x next o

  abbrev f0 : Frame
  f0 = F g

  abbrev co : List Line
  co = code g

  -- where no further statement may begin
  pub waits : (rest : List Line) (pr : Extra) (s : State) → Starts rest → (n c : ℕ) → 0 < n → R rest pr n (at s 0 c) ≡ Halts GoesOn (near g pr.spare s 0 (c + 0))
  waits rest pr s h zero c lt = absurd (omega arith)
  waits rest pr s h (suc n) c lt =
      let e : c ≡ c + 0 = omega arith in
      ap (λ q. fetch (U n) f0 co q (exec g.target g.codes n f0) pr.loops (near g pr.spare s 0 c)) h.2 ∙ ap (λ q. Halts GoesOn (near g pr.spare s 0 q)) e

  -- what the part after a turn has to do: it comes back to the head, or leaves the loop
  pub record Closes (top : ℕ) (ls : Rings) (mid head next : List Line) (bottom : Continuation → Continuation → Continuation) : Type 0 where
    pub by : (m : ℕ) → m ≤ b → (go : Continuation) (pr : Extra) (w : World) (x : ℕ) → 14 + x ≤ 32 * w.count → ((pr1 : Extra) (w1 : World) (x1 : ℕ) → Keeps g top pr pr1 → 8 + x1 ≤ 32 * w1.count → Fo m top ls pr1 (R head pr1) w1.state x1 next (go w1)) → Fo m top ls pr (R mid pr) w.state x next (bottom go went w)

  back_to : (p : Place) (n : ℕ) (head out : List Line) (pr : Extra) (s : State) → from_label n co ≡ head → Comes (R (jump p n ∷ out) pr) s (R head pr) s 1
  back_to p n head out pr s e = subst (λ q. Comes (R (jump p n ∷ out) pr) s (R q pr) s 1) e (past_jump g p n out pr s)

  pub always_closes : (top : ℕ) (ls : Rings) (n n1 : ℕ) (p : Place) (head next out : List Line) → from_label n co ≡ head → closers n1 co ≡ [] → Closes top ls (here n1 p ∷ jump p n ∷ out) head next always
  always_closes top ls n n1 p head next out at_head no_do = record {
    by = λ m few go pr w x le k.
        first g {b1 = m} {x1 = 2 + x} (go w) (keeps_self g top pr) (comes_on (past_here g p n1 (jump p n ∷ out) pr w.state no_do) (back_to p n head out pr w.state at_head)) (omega arith) (omega arith) (omega arith) (k pr w (2 + x) (keeps_self g top pr) (omega arith));
  }

  pub stepped_closes : (top : ℕ) (ls : Rings) (n n1 : ℕ) (p : Place) (step : Option Act) (head next out : List Line) → IsPlainIfAny step → ActIfAnyBy (Own g) step → from_label n co ≡ head → closers n1 co ≡ [] → Closes top ls (here n1 p ∷ with_act p step (jump p n ∷ out)) head next (stepped So f0 p step)
  stepped_closes top ls n n1 p step head next out is used at_head no_do = record {
    by = λ m few go pr w x le k.
        first g {b1 = m} {x1 = 1 + x} (stepped So f0 p step go went w) (keeps_self g top pr) (past_here g p n1 (with_act p step (jump p n ∷ out)) pr w.state no_do) (omega arith) (omega arith) (omega arith)
        (performed_follows g b call 9 p step w go is used few (omega arith) (λ pr1 w1 x1 kp le1.
        first g {b1 = m} {x1 = 1 + x1} (go w1) (keeps_self g top pr1) (back_to p n head out pr1 w1.state at_head) (omega arith) (omega arith) (omega arith) (k pr1 w1 (1 + x1) kp (omega arith))));
  }

  pub until_closes : (top : ℕ) (ls : Rings) (n n1 n2 : ℕ) (p q : Place) (e : Formula) (head next : List Line) → NamesBy (Own g) e → from_label n co ≡ head → closers n1 co ≡ [] → closers n2 co ≡ [] → Closes top ls (here n1 p ∷ unless q e n ∷ here n2 p ∷ next) head next (until So f0 q e)
  until_closes top ls n n1 n2 p q e head next used at_head no_do no_do2 = record {
    by = λ m few go pr w x le k.
        first g {b1 = m} {x1 = 1 + x} (until So f0 q e go went w) (keeps_self g top pr) (past_here g p n1 (unless q e n ∷ here n2 p ∷ next) pr w.state no_do) (omega arith) (omega arith) (omega arith)
        (unless_follows g b call 10 q e n w went go used few (omega arith)
        (λ pr1 w1 y kp ok. record { by = (1, omega arith, pr1, keeps_self g top pr1, past_here g p n2 next pr1 w1.state no_do2) })
        (λ pr1 w1 y kp ok. subst (λ z. Fo m top ls pr1 (R z pr1) w1.state (1 + y) next (go w1)) (sym at_head) (k pr1 w1 (1 + y) kp (omega arith))));
  }

  module _ (top n n1 n2 : ℕ) (ls : Rings) (p : Place) (o : Option Formula) (inner mid next : List Line) (body : Continuation) (bottom : Continuation → Continuation → Continuation)
      (at_mid : from_label n1 co ≡ mid) (at_out : from_label n2 co ≡ here n2 p ∷ next) (no_do : closers n co ≡ []) (no_do2 : closers n2 co ≡ [])
      (starts : Starts inner) (used : NamesIfAnyBy (Own g) o)
      (runs : (pr : Extra) (w : World) (x : ℕ) → x ≤ 32 * w.count → Fo b top ((n2, n1) ∷ ls) pr (R inner pr) w.state x mid (body w))
      (closes : Closes top ls mid (here n p ∷ with_test p o n2 inner) next bottom) where
    leave : {m : ℕ} (pr : Extra) (w : World) (x : ℕ) → 1 + x ≤ 32 * w.count → Fo m top ls pr (R (from_label n2 co) pr) w.state x next (went w)
    leave pr w x le = record { by = (1, le, pr, keeps_self g top pr, subst (λ q. Comes (R q pr) w.state (R next pr) w.state 1) (sym at_out) (past_here g p n2 next pr w.state no_do2)) }

    pub turns_follow : (m : ℕ) → m ≤ b → (pr : Extra) (w : World) (x : ℕ) → 8 + x ≤ 32 * w.count → Fo m top ls pr (R (here n p ∷ with_test p o n2 inner) pr) w.state x next (turns m (tested So f0 p o) body bottom w)
    turns_follow zero few pr w x le =
        first g {b1 = 0} {x1 = 1 + x} (tested So f0 p o (λ w1. Halts GoesOn w1) went w) (keeps_self g top pr) (past_here g p n (with_test p o n2 inner) pr w.state no_do) (omega arith) (omega arith) (omega arith)
        (tested_follows g b call 6 p o n2 w (λ w1. Halts GoesOn w1) went used few (omega arith)
        (λ pr1 w1 y kp ok. record { by = (0, omega arith, omega arith, pr1.spare, λ i c lt. waits inner pr1 w1.state starts i c lt) })
        (λ pr1 w1 y kp ok. leave pr1 w1 (1 + y) (omega arith)))
    turns_follow (suc m) few pr w x le =
        let go = turns m (tested So f0 p o) body bottom in
        let turn : Continuation = λ w1. turned (body (counted w1)) (bottom go went) in
        first g {b1 = m} {x1 = 1 + x} (tested So f0 p o turn went w) (keeps_self g top pr) (past_here g p n (with_test p o n2 inner) pr w.state no_do) (omega arith) (omega arith) (omega arith)
        (tested_follows g b call 6 p o n2 w turn went used (omega arith) (omega arith)
        (λ pr1 w1 y kp1 ok. turned_follows g 14 n2 n1 p (body (counted w1)) (bottom go went) (omega arith) (omega arith) (omega arith) at_out no_do2 at_mid (runs pr1 (counted w1) (14 + y) (omega arith))
        (λ pr2 w2 x2 kp le2. closes.by m (omega arith) go pr2 w2 x2 le2 (λ pr3 w3 x3 kp3 le3. turns_follow m (omega arith) pr3 w3 x3 le3)))
        (λ pr1 w1 y kp ok. leave pr1 w1 (1 + y) (omega arith)))

  -- a DO
  module _ (top n1 n2 : ℕ) (ls : Rings) (p : Place) (x : Text) (inner next : List Line) (body : Continuation)
      (at_mid : from_label n1 co ≡ here n1 p ∷ here n2 p ∷ next) (at_out : from_label n2 co ≡ here n2 p ∷ next) (no_do2 : closers n2 co ≡ []) (one_do : closers n1 co ≡ record { variable = x; inner = inner } ∷ [])
      (starts : Starts inner) (used : g.K g.unit x) (fits : length inner ≤ top)
      (runs : (pr : Extra) (w : World) (y : ℕ) → y ≤ 32 * w.count → Fo b (length inner) ((n2, n1) ∷ ls) pr (R inner pr) w.state y (here n1 p ∷ here n2 p ∷ next) (body w)) where
    abbrev out : List Line
    out = here n2 p ∷ next

    closing : (k : LoopParameters) (pr : Extra) (s : State) → pr.loops (length inner) ≡ k → (i j c : ℕ) → R (here n1 p ∷ out) pr (suc i) (at s (suc j) c) ≡ bind (loop_turn (U i) (moved_to p f0) x k (near g pr.spare s j (c + 1))) (λ on w1. choose on (Raw g inner pr.loops i w1) (Raw g out pr.loops i w1))
    closing k pr s e i j c =
        ap (λ q. close (U i) (moved_to p f0) q out (exec g.target g.codes i f0) pr.loops (near g pr.spare s j (c + 1))) one_do
        ∙ ap (λ q. bind (loop_turn (U i) (moved_to p f0) x q (near g pr.spare s j (c + 1))) (λ on w1. choose on (Raw g inner pr.loops i w1) (Raw g out pr.loops i w1))) e

    pub counts_follow : (k : LoopParameters) (m : ℕ) → m ≤ b → (pr : Extra) (w : World) (y : ℕ) → pr.loops (length inner) ≡ k → 2 + y ≤ 32 * w.count → Fo m top ls pr (R inner pr) w.state y next (do_turns So f0 m p x k body w)
    counts_follow k zero few pr w y is le = record { by = (0, omega arith, omega arith, pr.spare, λ i c lt. waits inner pr w.state starts i c lt) }
    counts_follow k (suc m) few pr w y is le =
        let turn : Continuation = λ w1. bind (loop_turn So (moved_to p f0) x k w1) (λ on w2. choose on (do_turns So f0 m p x k body w2) (Gives Went w2)) in
        turned_follows g 8 n2 n1 p (body (counted w)) turn few (omega arith) fits at_out no_do2 at_mid (runs pr (counted w) (8 + y) (omega arith))
        (λ pr1 w1 y1 kp ok.
        let is1 : pr1.loops (length inner) ≡ k = kp.by (length inner) (omega arith) ∙ is in
        first g {b1 = m} {x1 = 1 + y1} (turn w1) (keeps_self g top pr1)
        (one (R (here n1 p ∷ out) pr1) (λ i w2. bind (loop_turn (U i) (moved_to p f0) x k (spared g pr1.spare w2)) (λ on w3. choose on (Raw g inner pr1.loops i w3) (Raw g out pr1.loops i w3))) w1.state (λ i j c. closing k pr1 w1.state is1 i j c)) (omega arith) (omega arith) (omega arith)
        (bind_follows g 5 (λ i. loop_turn (U i) (moved_to p f0) x k) (loop_turn So (moved_to p f0) x k w1) (λ on i w3. choose on (Raw g inner pr1.loops i w3) (Raw g out pr1.loops i w3)) (λ on w2. choose on (do_turns So f0 m p x k body w2) (Gives Went w2))
        (fewer ℕ same_fuel g (loop_turn So (moved_to p f0) x k w1) (omega arith) (track_turn g b (λ n. n + 1) (λ n. omega arith) (λ i. (U i).call) call.does call.track p x used k pr1.spare w1 (5 + (1 + y1)) (omega arith)))
        (λ on v w2 y2 kp2 ok2. by_answer on (spare_as pr1 v) w2 y2 is1 ok2 (counts_follow k m (omega arith) (spare_as pr1 v) w2 y2 is1 (omega arith)))))
      where
        by_answer : (on : Bool) (pr1 : Extra) (w2 : World) (y2 : ℕ) → pr1.loops (length inner) ≡ k → 5 + y2 ≤ 32 * w2.count → Fo m top ls pr1 (R inner pr1) w2.state y2 next (do_turns So f0 m p x k body w2) → Fo m top ls pr1 (λ i w3. choose on (R inner pr1 i w3) (R out pr1 i w3)) w2.state y2 next (choose on (do_turns So f0 m p x k body w2) (Gives Went w2))
        by_answer true pr1 w2 y2 is1 ok2 ih = ih
        by_answer false pr1 w2 y2 is1 ok2 ih = record { by = (1, omega arith, pr1, keeps_self g top pr1, past_here g p n2 next pr1 w2.state no_do2) }
