-- Parts of a run keep the records written.
use Rattle.std.proofs.Common.{Bool, true, false, ℕ, zero, suc, List, [], ◌∷◌}
use Rattle.std.specs.Prelude.{⊤}
use Rattle.ground.specs.declared.place.Place.{Place}
use Rattle.ground.specs.Content.{Content}
use Rattle.f66_tree.specs.Syntax.{Text, Line}
use Rattle.f66_tree.specs.World.{Record, State, Tape, World, Out, Gives, Halts, bind, Try, Yields, Traps, Fails, IfYields, Move, Moves, Breaks, Misses, AfterMove, settle, moving, holding, taping, take_one, take_from, IsPrefix, choose}
use Rattle.f66_tree.specs.FirstLaws.{Keeps}
use Rattle.f66_tree.specs.Units.{Spot, Held, Lent, Linkage, Setting, Frame, is_main, around, moved_to}
use Rattle.f66_tree.specs.Evaluation.{ticked, stored}
use Rattle.f66_tree.specs.Statements.{LoopParameters, loop_turn, item_turns}
use Rattle.f66_tree.specs.Execution.{Stand, stand, Onward, Progress, fetch, past_end, runnable, no_loops, nowhere, target, exec}
use Rattle.f66_tree.proofs.Prefixes.{prefix_self, prefix_in}
use Rattle.f66_tree.proofs.Posts.{IfGives}
use Rattle.f66_tree.proofs.Related.{plainly, same_names, however_used, Sides, Frames, Good, Holds, turn_holds}
use Rattle.f66_tree.proofs.RelatedRuns.{like_itself, performs}
use Rattle.f66_tree.proofs.AnyNames.{Any, AnySpot, any_scope, any_act, any_lines, any_fair}

abbrev pub out_of : {A : Type 0} → Out A → List Record
out_of (Gives a w) = w.state.tape.written
out_of (Halts e w) = w.state.tape.written

abbrev pub Grows : (A : Type 0) → (World → Out A) → Type 0
Grows A t = (w : World) → IsPrefix w.state.tape.written (out_of (t w))

pub bind_grows : {A B : Type 0} (w : World) (o : Out A) (g : A → World → Out B) → IsPrefix w.state.tape.written (out_of o) → ((a : A) → Grows B (g a)) → IsPrefix w.state.tape.written (out_of (bind o g))
bind_grows w (Gives a w1) g h k = prefix_in h (k a w1)
bind_grows w (Halts r w1) g h k = h

pub bind_grows_if : {A B : Type 0} (P : A → Type 0) (w : World) (o : Out A) (g : A → World → Out B) → IsPrefix w.state.tape.written (out_of o) → IfGives P o → ((a : A) → P a → Grows B (g a)) → IsPrefix w.state.tape.written (out_of (bind o g))
bind_grows_if P w (Gives a w1) g h post k = prefix_in h (k a post w1)
bind_grows_if P w (Halts r w1) g h post k = h

settle_grows : {A : Type 0} (p : Place) (o : Try A) (w : World) → IsPrefix w.state.tape.written (out_of (settle p o w))
settle_grows p (Yields a) w = prefix_self w.state.tape.written
settle_grows p (Traps t) w = prefix_self w.state.tape.written
settle_grows p Fails w = prefix_self w.state.tape.written

taped_grows : (p : Place) (m : Move) (w : World) → AfterMove (Keeps w.state.tape) m → IsPrefix w.state.tape.written (out_of (moving p m w))
taped_grows p (Moves t) w h = h
taped_grows p (Breaks e t) w h = h
taped_grows p Misses w h = prefix_self w.state.tape.written

took_grows : (p : Place) (o : Try (Content × Tape)) (w : World) → IfYields (λ (x : Content × Tape). Keeps w.state.tape x.1) o → IsPrefix w.state.tape.written (out_of (bind (settle p o w) (λ x w1. Gives x.0 (taping x.1 w1))))
took_grows p (Yields x) w h = h
took_grows p (Traps t) w h = prefix_self w.state.tape.written
took_grows p Fails w h = prefix_self w.state.tape.written

store_grows : (l : Linkage) (p : Place) (q : Spot) (c : Content) (w : World) → IsPrefix w.state.tape.written (out_of {A = ⊤} (bind (settle p (stored l q c w.state.store) w) (λ st w1. Gives tt (holding st w1))))
store_grows l p (Held u x o) c w = prefix_self w.state.tape.written
store_grows l p (Lent v) c w = prefix_self w.state.tape.written

-- one side alone
module _ (l : Linkage) (call : ℕ → List Spot → World → Out ⊤) (begin : World → Out ⊤) (most : ℕ) (tick : ℕ → ℕ)
    (calls : (v : ℕ) (ps : List Spot) → Grows ⊤ (call v ps)) (begins : Grows ⊤ begin) where
  abbrev s : Setting
  s = record { linked = l; call = call; begin = begin; most = most; tick = tick }

  abbrev pub alone : Sides ⊤
  alone = record {
    linked1 = l;
    linked2 = l;
    call1 = λ i. call;
    begin1 = λ i. begin;
    most1 = λ i. most;
    tick1 = λ i. tick;
    call2 = call;
    begin2 = begin;
    most2 = most;
    tick2 = tick;
    K = λ u. Any;
    Listed = λ u. Any;
    Called = λ u. Any;
    Fair = AnySpot;
    At = λ p q. ⊤;
  }

  abbrev pub G : (A : Type 0) → (⊤ → World → Out A) → (World → Out A) → Type 0
  G A m1 m2 = Grows A m2

  pub grows_hold : Holds ⊤ alone G G
  grows_hold = plainly ⊤ alone G (record {
    scope = any_scope l;
    same = same_names (λ u. Any) AnySpot l;
    uses = however_used (λ u. Any) l;
    gives = λ a w. prefix_self w.state.tape.written;
    ends = λ e w. prefix_self w.state.tape.written;
    traps = λ t p q at w. prefix_self w.state.tape.written;
    binds = λ {A} {B} {P} {m1} {m2} {g1} {g2} h post k w. bind_grows_if P w (m2 w) (λ a w1. g2 a w1) (h w) (post w) k;
    loads = λ f g k p fair w. settle_grows f.there _ w;
    stores = λ f g p fair c w. store_grows l f.there p c w;
    tapes = λ f g h step w. taped_grows f.there (h w.state.tape) w (step.keeps w.state.tape);
    takes = λ f g h step w. took_grows f.there (h w.state.tape) w (step.keeps w.state.tape);
  }) (λ A m1 m2 h w. h (ticked s w)) (λ u x v ps used e fair. calls v ps)

  abbrev both : Frame → Frames
  both f = record { unit = f.unit; actuals = f.actuals; here = f.place; there = f.place }

  fine : (f : Frames) → Good alone f
  fine f = record { places = tt; actuals = any_fair f.actuals }

  pub turn_grows : (f : Frames) (x : Text) (k : LoopParameters) → Grows _ (loop_turn s (record { unit = f.unit; actuals = f.actuals; place = f.there }) x k)
  turn_grows f x k = turn_holds ⊤ alone G G grows_hold f (fine f) x tt k

  pub many_grow : (n : ℕ) (f : Frames) (x : Text) (k : LoopParameters) (body : World → Out ⊤) → Grows ⊤ body → Grows ⊤ (item_turns n s (record { unit = f.unit; actuals = f.actuals; place = f.there }) x k body)
  many_grow zero f x k body h w = prefix_self w.state.tape.written
  many_grow (suc n) f x k body h w =
      bind_grows w (begin w) _ (begins w) (λ _ w1. bind_grows w1 (body w1) _ (h w1) (λ _ w2.
      bind_grows w2 (loop_turn s (record { unit = f.unit; actuals = f.actuals; place = f.there }) x k w2) _ (turn_grows f x k w2)
      (λ on w3. chosen on (item_turns n s (record { unit = f.unit; actuals = f.actuals; place = f.there }) x k body) w3 (many_grow n f x k body h))))
    where
      chosen : (b : Bool) (t : World → Out ⊤) (w3 : World) → Grows ⊤ t → IsPrefix w3.state.tape.written (out_of {A = ⊤} (choose b (t w3) (Gives tt w3)))
      chosen true t w3 g = g w3
      chosen false t w3 g = prefix_self w3.state.tape.written

  pub fetch_grows : (f : Frame) (code rest : List Line) (go : Onward) (pr : Progress) → ((at : Stand) → Grows ⊤ (go at)) → Grows ⊤ (fetch s f code rest go pr)
  fetch_grows f code [] go pr g w = ends (is_main (around s f).header)
    where
      ends : (b : Bool) → IsPrefix w.state.tape.written (out_of (past_end b w))
      ends true = prefix_self w.state.tape.written
      ends false = prefix_self w.state.tape.written
  fetch_grows f code (line ∷ rest) go pr g w =
      bind_grows w (begin w) _ (begins w) (λ _ w1. performs ⊤ alone G G grows_hold (λ f1 ok x used k m1 m2 h. many_grow most f1 x k m2 h)
      (both (moved_to line.place f)) (fine (both (moved_to line.place f))) code code (like_itself (λ p q. ⊤) (λ p. tt) code) (any_lines code) (λ i. go) go (λ r1 r2 lr ur pr1. g (stand r2 pr1))
      line.label rest rest (like_itself (λ p q. ⊤) (λ p. tt) rest) (any_lines rest) pr line.act (any_act line.act) w1)

one_grows : (st : State) (k c : ℕ) → IsPrefix st.tape.written (out_of (take_from st k c))
one_grows st zero c = prefix_self st.tape.written
one_grows st (suc k) c = prefix_self st.tape.written

pub begin_grows : Grows ⊤ take_one
begin_grows w = one_grows w.state w.left w.count

module _ (l : Linkage) (codes : ℕ → List Line) where
  pub exec_grows : (n : ℕ) (f : Frame) (at : Stand) → Grows ⊤ (exec l codes n f at)
  exec_grows zero f at w = prefix_self w.state.tape.written
  exec_grows (suc n) f at w =
      fetch_grows l (target l codes n (exec l codes n)).call take_one n (λ c. c) (λ v ps w1. exec_grows n (record { unit = v; actuals = ps; place = nowhere }) (stand (codes v) no_loops) w1) begin_grows
      f (codes f.unit) (runnable at.rest) (exec l codes n f) at.loops (λ a w1. exec_grows n f a w1) w
