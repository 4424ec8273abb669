-- Each statement but a list and a switch follows.
use Rattle.std.proofs.Common.{◌≡◌, true, false, Bool, ℕ, ◌+◌, ◌*◌, ◌≤◌, ◌<◌, List, [], ◌∷◌, length, Option, Some, None, refl, sym, ap, ◌∙◌, subst, arith, eqb-true}
use Rattle.std.specs.Prelude.{if◌then◌else◌, nat_eq, ⊤}
use Rattle.ground.specs.declared.place.Place.{Place}
use Rattle.f66_tree.specs.Syntax.{Text, Act, Assign, Loop, Return, Formula, Ref, Par, Line, unlabelled_line}
use Rattle.f66_tree.specs.World.{State, World, counted, Out, Gives, bind, settle}
use Rattle.f66_tree.specs.Units.{moved_to}
use Rattle.f66_tree.specs.Uses.{NamesBy, NameOfPar, NamesOfActBy}
use Rattle.f66_tree.specs.Evaluation.{base, store_at, value_of}
use Rattle.f66_tree.specs.Statements.{Normal, LoopParameters, loop_start, does}
use Rattle.f66_tree.specs.Execution.{Progress, begun, closers, leads, exec}
use Rattle.f66_tree.proofs.Comes.{Comes, comes_here, comes_on, one}
use Rattle.rat_tree.specs.Syntax.{Command, If, IfElse, While, For, Repeat, RepeatUntil, Do, Break, Next, Plain, Labelled}
use Rattle.rat_tree.specs.Meaning.{course_of, Flow, Continuation, went, tested, turns, always, stepped, until, do_turns, pred_of, fits_case, meaning}
use Rattle.rat_tree.specs.Uses.{NamesIfAnyBy, ActIfAnyBy}
use Rattle.rat_lower.specs.Code.{Rings, label_behind, label_again, jump, unless, here, with_test, with_act, labels}
use Rattle.rat_lower.specs.Checked.{bit, IsPlain, IsPlainIfAny}
use Rattle.rat_lower.proofs.Simulation.Spared.{Lowering, near, kept_self, own_rank, own_name, spared, code, Own}
use Rattle.rat_lower.proofs.Simulation.Values.{track_start, track_stored}
use Rattle.rat_lower.proofs.Simulation.Follows.{Extra, keeps_self, Calls, Raw, Under, first, bind_follows, past_jump, past_here}
use Rattle.rat_lower.proofs.Simulation.Counts.{same_number, ends, heads}
use Rattle.rat_lower.proofs.Simulation.Labels.{AreUnique, no_closers, one_closer, Within, within_self, within_cons, within_in, within_tail, within_test, within_act, within_code, found, longer_in, starts_code}
use Rattle.rat_lower.proofs.Simulation.Parts.{bind_assoc, stored_then, unless_follows, does_follows, plain_follows, labelled_follows, performed_follows}
use Rattle.rat_lower.proofs.Simulation.Words.{words}
use Rattle.rat_lower.proofs.Simulation.Loops.{Closes, always_closes, stepped_closes, until_closes, turns_follow, counts_follow}
use Rattle.rat_lower.proofs.Simulation.Lists.{behind, passing}
use Rattle.rat_tree.specs.Syntax as ratfor_tree

module _ (g : Lowering) (b : ℕ) (call : Calls g b) (made : ℕ → ℕ) (spare : Text) (unique : AreUnique (code g)) where
  open words g b call made spare use {So, R, Fo, f0, co, cd, Right}

  pub when_right : (p : Place) (e : Formula) (s : Command) → NamesBy (Own g) e → Right s → Right (If p e s)
  when_right p e s used r n ls next has clear top fits_case pr w x le =
      let inner = within_tail _ has in
      let end = within_in (within_code made spare (own_name g) s (n + 1) ls (here (made n) p ∷ next)) inner in
      let no_do : closers (made n) co ≡ [] = no_closers (made n) co (omega (arith, clear (made n), ap bit (same_number (made n)))) in
      unless_follows g b call 4 p e (made n) (counted w) (meaning So f0 b s) went used (omega arith) (omega arith)
      (λ pr1 w1 y kp ok. passing g b call made spare unique (meaning So f0 b s w1) (omega arith) (r (n + 1) ls (here (made n) p ∷ next) inner (λ q. omega (arith, clear q)) top (omega arith) pr1 w1 (2 + y) (omega arith)) (λ pr2 s1. past_here g p (made n) next pr2 s1 no_do))
      (λ pr1 w1 y kp ok. behind g b call made spare unique (made n) p end no_do ls pr1 w1 (1 + y) (omega arith))

  pub either_right : (p : Place) (e : Formula) (s t : Command) → NamesBy (Own g) e → Right s → Right t → Right (IfElse p e s t)
  either_right p e s t used rs rt n ls next has clear top fits_case pr w x le =
      let last = here (made (n + 1)) p ∷ next in
      let second = cd t (n + 2 + labels s) ls last in
      let mid = jump p (made (n + 1)) ∷ here (made n) p ∷ second in
      let inner = within_tail _ has in
      let at_mid = within_in (within_code made spare (own_name g) s (n + 2) ls mid) inner in
      let at_else = within_tail _ at_mid in
      let at_second = within_tail _ at_else in
      let at_last = within_in (within_code made spare (own_name g) t (n + 2 + labels s) ls last) at_second in
      let no_do : closers (made n) co ≡ [] = no_closers (made n) co (omega (arith, clear (made n), ap bit (same_number (made n)))) in
      let no_do1 : closers (made (n + 1)) co ≡ [] = no_closers (made (n + 1)) co (omega (arith, clear (made (n + 1)), ap bit (same_number (made (n + 1))))) in
      let over : (pr1 : Extra) (s1 : State) → Comes (R mid pr1) s1 (R next pr1) s1 2 = λ pr1 s1.
      comes_on (subst (λ q. Comes (R mid pr1) s1 (R q pr1) s1 1) (found (made (n + 1)) p unique at_last) (past_jump g p (made (n + 1)) (here (made n) p ∷ second) pr1 s1)) (past_here g p (made (n + 1)) next pr1 s1 no_do1) in
      unless_follows g b call 6 p e (made n) (counted w) (meaning So f0 b s) (meaning So f0 b t) used (omega arith) (omega arith)
      (λ pr1 w1 y kp ok. passing g b call made spare unique (meaning So f0 b s w1) (omega arith) (rs (n + 2) ls mid inner (λ q. omega (arith, clear q)) top (omega arith) pr1 w1 (2 + y) (omega arith)) over)
      (λ pr1 w1 y kp ok.
      let nay = passing g b call made spare unique (meaning So f0 b t w1) (omega arith) (rt (n + 2 + labels s) ls last at_second (λ q. omega (arith, clear q)) top (omega (arith, fits_case, longer_in (within_code made spare (own_name g) s (n + 2) ls mid))) pr1 w1 (2 + (2 + y)) (omega arith)) (λ pr2 s1. past_here g p (made (n + 1)) next pr2 s1 no_do1) in
      subst (λ q. Fo b top ls pr1 (R q pr1) w1.state (1 + y) next (meaning So f0 b t w1)) (sym (found (made n) p unique at_else))
      (first g {j1 = 1} {b1 = b} {x1 = 2 + y} (meaning So f0 b t w1) (keeps_self g top pr1) (past_here g p (made n) second pr1 w1.state no_do) (omega arith) (omega arith) (omega arith) nay))

  -- a loop, whose parts stand in their places
  loop_right : (n : ℕ) (ls : Rings) (p : Place) (o : Option Formula) (s : Command) (mid next : List Line) (bottom : Continuation → Continuation → Continuation) → NamesIfAnyBy (Own g) o → Right s →
      Within (here (made n) p ∷ with_test p o (made (n + 2)) (cd s (n + 3) ((made (n + 2), made (n + 1)) ∷ ls) (here (made (n + 1)) p ∷ mid))) co →
      Within (here (made (n + 2)) p ∷ next) mid → ((q : ℕ) → ends q co + (bit (nat_eq (made n) q) + bit (nat_eq (made (n + 1)) q) + bit (nat_eq (made (n + 2)) q) + heads made q s (n + 3)) ≤ 1) → (top : ℕ) → length (here (made n) p ∷ with_test p o (made (n + 2)) (cd s (n + 3) ((made (n + 2), made (n + 1)) ∷ ls) (here (made (n + 1)) p ∷ mid))) ≤ top →
      Closes g b call top ls (here (made (n + 1)) p ∷ mid) (here (made n) p ∷ with_test p o (made (n + 2)) (cd s (n + 3) ((made (n + 2), made (n + 1)) ∷ ls) (here (made (n + 1)) p ∷ mid))) next bottom →
      (pr : Extra) (w : World) (x : ℕ) → 8 + x ≤ 32 * w.count →
      Fo b top ls pr (R (here (made n) p ∷ with_test p o (made (n + 2)) (cd s (n + 3) ((made (n + 2), made (n + 1)) ∷ ls) (here (made (n + 1)) p ∷ mid))) pr) w.state x next (turns b (tested So f0 p o) (meaning So f0 b s) bottom w)
  loop_right n ls p o s mid next bottom used r has has_out clear top fits_case closes pr w x le =
      let ls1 : Rings = (made (n + 2), made (n + 1)) ∷ ls in
      let inner = cd s (n + 3) ls1 (here (made (n + 1)) p ∷ mid) in
      let in_test = within_test p o (made (n + 2)) inner in
      let at_inner = within_in in_test (within_tail _ has) in
      let at_mid = within_in (within_code made spare (own_name g) s (n + 3) ls1 (here (made (n + 1)) p ∷ mid)) at_inner in
      let at_out = within_in has_out (within_tail _ at_mid) in
      let no_do : closers (made n) co ≡ [] = no_closers (made n) co (omega (arith, clear (made n), ap bit (same_number (made n)))) in
      let no_do2 : closers (made (n + 2)) co ≡ [] = no_closers (made (n + 2)) co (omega (arith, clear (made (n + 2)), ap bit (same_number (made (n + 2))))) in
      turns_follow g b call top (made n) (made (n + 1)) (made (n + 2)) ls p o inner (here (made (n + 1)) p ∷ mid) next (meaning So f0 b s) bottom
      (found (made (n + 1)) p unique at_mid) (found (made (n + 2)) p unique at_out) no_do no_do2 (starts_code made spare (own_name g) s (n + 3) ls1 (here (made (n + 1)) p ∷ mid) (_, _, refl)) used
      (λ pr1 w1 x1 le1. r (n + 3) ls1 (here (made (n + 1)) p ∷ mid) at_inner (λ q. omega (arith, clear q)) top (omega (arith, fits_case, longer_in in_test)) pr1 w1 x1 (omega (arith, le1)))
      closes b (omega arith) pr w x le

  pub whilst_right : (p : Place) (e : Formula) (s : Command) → NamesBy (Own g) e → Right s → Right (While p e s)
  whilst_right p e s used r n ls next has clear top fits_case pr w x le =
      let out = here (made (n + 2)) p ∷ next in
      let no_do1 : closers (made (n + 1)) co ≡ [] = no_closers (made (n + 1)) co (omega (arith, clear (made (n + 1)), ap bit (same_number (made (n + 1))))) in
      loop_right n ls p (Some e) s (jump p (made n) ∷ out) next always used r has (within_cons _ (within_self out)) clear top fits_case
      (always_closes g b call top ls (made n) (made (n + 1)) p _ next out (found (made n) p unique has) no_do1) pr (counted w) x (omega arith)

  pub repeats_right : (p : Place) (s : Command) → Right s → Right (Repeat p s)
  repeats_right p s r n ls next has clear top fits_case pr w x le =
      let out = here (made (n + 2)) p ∷ next in
      let no_do1 : closers (made (n + 1)) co ≡ [] = no_closers (made (n + 1)) co (omega (arith, clear (made (n + 1)), ap bit (same_number (made (n + 1))))) in
      loop_right n ls p None s (jump p (made n) ∷ out) next always tt r has (within_cons _ (within_self out)) clear top fits_case
      (always_closes g b call top ls (made n) (made (n + 1)) p _ next out (found (made n) p unique has) no_do1) pr (counted w) x (omega arith)

  pub until_right : (p : Place) (s : Command) (e : Formula) (q : Place) → NamesBy (Own g) e → Right s → Right (RepeatUntil p s e q)
  until_right p s e q used r n ls next has clear top fits_case pr w x le =
      let out = here (made (n + 2)) p ∷ next in
      let no_do1 : closers (made (n + 1)) co ≡ [] = no_closers (made (n + 1)) co (omega (arith, clear (made (n + 1)), ap bit (same_number (made (n + 1))))) in
      let no_do2 : closers (made (n + 2)) co ≡ [] = no_closers (made (n + 2)) co (omega (arith, clear (made (n + 2)), ap bit (same_number (made (n + 2))))) in
      loop_right n ls p None s (unless q e (made n) ∷ out) next (until So f0 q e) tt r has (within_cons _ (within_self out)) clear top fits_case
      (until_closes g b call top ls (made n) (made (n + 1)) (made (n + 2)) p q e _ next used (found (made n) p unique has) no_do1 no_do2) pr (counted w) x (omega arith)

  pub through_right : (p : Place) (before : Option Act) (o : Option Formula) (step : Option Act) (s : Command) → IsPlainIfAny before → IsPlainIfAny step → ActIfAnyBy (Own g) before → NamesIfAnyBy (Own g) o → ActIfAnyBy (Own g) step → Right s → Right (For p before o step s)
  through_right p before o step s is_before is_step used_before used used_step r n ls next has clear top fits_case pr w x le =
      let out = here (made (n + 2)) p ∷ next in
      let mid = with_act p step (jump p (made n) ∷ out) in
      let head = here (made n) p ∷ with_test p o (made (n + 2)) (cd s (n + 3) ((made (n + 2), made (n + 1)) ∷ ls) (here (made (n + 1)) p ∷ mid)) in
      let in_act = within_act p before head in
      let at_head = within_in in_act has in
      let no_do1 : closers (made (n + 1)) co ≡ [] = no_closers (made (n + 1)) co (omega (arith, clear (made (n + 1)), ap bit (same_number (made (n + 1))))) in
      performed_follows g b call 8 p before (counted w) (turns b (tested So f0 p o) (meaning So f0 b s) (stepped So f0 p step)) is_before used_before (omega arith) (omega arith)
      (λ pr1 w1 x1 kp le1. loop_right n ls p o s mid next (stepped So f0 p step) used r at_head (within_in (within_cons _ (within_self out)) (within_act p step (jump p (made n) ∷ out))) clear top (omega (arith, fits_case, longer_in in_act))
      (stepped_closes g b call top ls (made n) (made (n + 1)) p step head next out is_step used_step (found (made n) p unique at_head) no_do1) pr1 w1 x1 le1)

  pub leave_right : (p : Place) (k : ℕ) → Right (Break p k)
  leave_right p k n ls next has clear top fits_case pr w x le = record { by = (1, omega arith, pr, keeps_self g top pr, past_jump g p (label_behind ls (pred_of k)) next pr w.state) }

  pub again_right : (p : Place) (k : ℕ) → Right (Next p k)
  again_right p k n ls next has clear top fits_case pr w x le = record { by = (1, omega arith, pr, keeps_self g top pr, past_jump g p (label_again ls (pred_of k)) next pr w.state) }

  -- a value is stored in the unit's own name, and then the unit is left
  pub gives_right : (p : Place) (o : Option Formula) → g.K g.unit (own_name g) → NamesIfAnyBy (Own g) o → Right (ratfor_tree.Return p o)
  gives_right p None known used n ls next has clear top fits_case pr w x le = plain_follows g b call None p Return w tt tt refl le
  gives_right p (Some e) known used n ls next has clear top fits_case pr w x le =
      let last = unlabelled_line p Return ∷ next in
      let leaves : ⊤ → World → Flow = λ _ w1. bind (does So (moved_to p f0) Return w1) (λ y w2. Gives (course_of y) w2) in
      subst (λ o. Fo b top ls pr (R (unlabelled_line p (Assign (Ref (own_name g)) e) ∷ last) pr) w.state x next o)
      (stored_then p (base So f0 (own_name g)) (λ q w1. value_of So (moved_to p f0) e w1) (λ q a w2. store_at So (moved_to p f0) q a w2) leaves (counted w))
      (first g {j1 = 1} {b1 = b} {x1 = 1 + x} (bind (stores (counted w)) leaves) (keeps_self g top pr)
      (one (R (unlabelled_line p (Assign (Ref (own_name g)) e) ∷ last) pr) (λ i w1. bind (stores_too i (spared g pr.spare w1)) (λ _ w2. Raw g last pr.loops i w2)) w.state (λ i j c. begins i (near g pr.spare w.state j (c + 1)))) (omega arith) (omega arith) (omega arith)
      (bind_follows g 2 stores_too (stores (counted w)) (λ _ i w2. Raw g last pr.loops i w2) leaves
      (track_stored g b (λ n. n + 1) (λ n. omega arith) (λ i. (Under g i).call) call.does call.track p (own_name g) e known used pr.spare (counted w) (2 + (1 + x)) (omega arith))
      (λ _ v w1 y kp ok. does_follows g b call None p Return w1 tt refl (omega arith) (λ i j c. refl))))
    where
      stores : World → Out ⊤
      stores w0 = bind (settle p (base So f0 (own_name g)) w0) (λ q w1. bind (value_of So (moved_to p f0) e w1) (λ a w2. store_at So (moved_to p f0) q a w2))

      stores_too : ℕ → World → Out ⊤
      stores_too i w0 = bind (settle p (base (Under g i) f0 (own_name g)) w0) (λ q w1. bind (value_of (Under g i) (moved_to p f0) e w1) (λ a w2. store_at (Under g i) (moved_to p f0) q a w2))

      begins : (i : ℕ) (w0 : World) → bind (does (Under g i) (moved_to p f0) (Assign (Ref (own_name g)) e) w0) (λ y w1. leads (Under g i) (moved_to p f0) co None (unlabelled_line p Return ∷ next) (exec g.target g.codes i f0) pr.loops y w1) ≡ bind (stores_too i w0) (λ _ w2. Raw g (unlabelled_line p Return ∷ next) pr.loops i w2)
      begins i w0 =
          ap (λ o. bind o (λ y w1. leads (Under g i) (moved_to p f0) co None (unlabelled_line p Return ∷ next) (exec g.target g.codes i f0) pr.loops y w1))
          (sym (stored_then p (base (Under g i) f0 (own_name g)) (λ q w1. value_of (Under g i) (moved_to p f0) e w1) (λ q a w2. store_at (Under g i) (moved_to p f0) q a w2) (λ _ w4. Gives Normal w4) w0))
          ∙ bind_assoc (stores_too i w0) (λ _ w4. Gives Normal w4) (λ y w1. leads (Under g i) (moved_to p f0) co None (unlabelled_line p Return ∷ next) (exec g.target g.codes i f0) pr.loops y w1)

  pub plain_right : (m : Option ℕ) (p : Place) (a : Act) → IsPlain a → NamesOfActBy (Own g) a → Right (Plain m p a)
  plain_right None p a is used n ls next has clear top fits_case pr w x le = labelled_follows g b call None p a w is used refl le
  plain_right (Some m) p a is used n ls next has clear top fits_case pr w x le =
      labelled_follows g b call (Some m) p a w is used (no_closers m co (omega (arith, clear m, ap bit (same_number m)))) le

  pub marked_right : (m : ℕ) (p : Place) (s : Command) → Right s → Right (Labelled m p s)
  marked_right m p s r n ls next has clear top fits_case pr w x le =
      let no_do : closers m co ≡ [] = no_closers m co (omega (arith, clear m, ap bit (same_number m))) in
      first g {j1 = 1} {b1 = b} {x1 = 1 + x} (meaning So f0 b s (counted w)) (keeps_self g top pr) (past_here g p m (cd s n ls next) pr w.state no_do) (omega arith) (omega arith) (omega arith)
      (r n ls next (within_tail _ has) (λ q. omega (arith, clear q)) top (omega arith) pr (counted w) (1 + x) (omega arith))

  pub counts_right : (p : Place) (y : Text) (i1 i2 i3 : Par) (s : Command) → g.K g.unit y → NameOfPar (g.K g.unit) i1 → NameOfPar (g.K g.unit) i2 → NameOfPar (g.K g.unit) i3 → Right s → Right (Do p y i1 i2 i3 s)
  counts_right p y i1 i2 i3 s used u1 u2 u3 r n ls next has clear top fits_case pr w x le =
      let out = here (made (n + 1)) p ∷ next in
      let mid = here (made n) p ∷ out in
      let ls1 : Rings = (made (n + 1), made n) ∷ ls in
      let inner = cd s (n + 2) ls1 mid in
      let at_inner = within_tail _ has in
      let at_mid = within_in (within_code made spare (own_name g) s (n + 2) ls1 mid) at_inner in
      let at_out = within_tail _ at_mid in
      let no_do1 : closers (made (n + 1)) co ≡ [] = no_closers (made (n + 1)) co (omega (arith, clear (made (n + 1)), ap bit (same_number (made (n + 1))))) in
      let one_do : closers (made n) co ≡ record { variable = y; inner = inner } ∷ [] = one_closer (made n) p y i1 i2 i3 (omega (arith, clear (made n))) has in
      first g {j1 = 1} {b1 = b} {x1 = 1 + x} (meaning So f0 b (Do p y i1 i2 i3 s) w) (keeps_self g top pr)
      (one (R (unlabelled_line p (Loop (made n) y i1 i2 i3) ∷ inner) pr) (λ i w1. bind (loop_start (Under g i) (moved_to p f0) y i1 i2 i3 (spared g pr.spare w1)) (λ k w2. Raw g inner (begun (length inner) k pr.loops) i w2)) w.state (λ i j c. refl)) (omega arith) (omega arith) (omega arith)
      (bind_follows g 2 (λ i. loop_start (Under g i) (moved_to p f0) y i1 i2 i3) (loop_start So (moved_to p f0) y i1 i2 i3 (counted w)) (λ k i w2. Raw g inner (begun (length inner) k pr.loops) i w2) (λ k w1. do_turns So f0 b p y k (meaning So f0 b s) w1)
      (track_start g b (λ n. n + 1) (λ n. omega arith) (λ i. (Under g i).call) call.does call.track p y i1 i2 i3 used u1 u2 u3 pr.spare (counted w) (2 + (1 + x)) (omega arith))
      (λ k v w1 x1 kp ok.
      let pr1 : Extra = record { loops = begun (length inner) k pr.loops; spare = v } in
      let is : pr1.loops (length inner) ≡ k = ap (λ v. if v then k else pr.loops (length inner)) (same_number (length inner)) in
      first g {j1 = 1} {b1 = b} {x1 = x1} (do_turns So f0 b p y k (meaning So f0 b s) w1) (record { by = λ q le1. other q (length inner) k pr.loops (omega (arith, fits_case, le1)); kept = kept_self g (1 + own_rank g) v }) (comes_here (R inner pr1) w1.state) (omega arith) (omega arith) (omega arith)
      (counts_follow g b call top (made n) (made (n + 1)) ls p y inner next (meaning So f0 b s)
      (found (made n) p unique at_mid) (found (made (n + 1)) p unique at_out) no_do1 one_do (starts_code made spare (own_name g) s (n + 2) ls1 mid (_, _, refl)) used (omega (arith, fits_case))
      (λ pr2 w2 x2 le2. r (n + 2) ls1 mid at_inner (λ q. omega (arith, clear q)) (length inner) (omega arith) pr2 w2 x2 (omega (arith, le2))) k b (omega arith) pr1 w1 x1 is ok)))
    where
      other : (q key : ℕ) (k : LoopParameters) (p0 : Progress) → key < q → begun key k p0 q ≡ p0 q
      other q key k p0 lt = go (nat_eq q key) refl
        where
          go : (t : Bool) → nat_eq q key ≡ t → begun key k p0 q ≡ p0 q
          go true e = let h = eqb-true q key e in absurd (omega arith)
          go false e = ap (λ t. if t then k else p0 q) e
