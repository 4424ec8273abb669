-- A content goes from a unit to a record, or comes from one.
use Rattle.std.proofs.Common.{◌≡◌, ℕ, List, Some, refl, sym, ap, ◌∙◌, subst, slice_get}
use Rattle.std.specs.Prelude.{Result, Ok, Err, pos, ⊤}
use Rattle.ground.specs.declared.place.Place.{Place}
use Rattle.ground.specs.declared.trap.Trap.{Trap}
use Rattle.ground.specs.declared.value.Kind.{Kind}
use Rattle.ground.specs.declared.value.Value.{Value}
use Rattle.ground.specs.Content.{Content}
use Rattle.f66_tree.specs.declared.editing.Way.TheVariants.{Reading, Writing}
use Rattle.f66_tree.specs.Fields.{Fields}
use Rattle.f66_tree.specs.Evaluation.{asked}
use Rattle.f66_tree.specs.Records.{put, take}
use Rattle.f66_tree.specs.Statements.{taped}
use Rattle.f66_tree.specs.World.{Record, Tape, Store, World, Trapped, Ended, Out, Gives, Halts, bind, Move, Moves, Breaks, Misses, Try, Yields, Traps, Fails, settle, moving, holding, taping}
use Rattle.format_io.specs.Places.{Stand as Standing}
use Rattle.record_flow.specs.Flows.{tape}
use Rattle.record_flow.specs.declared.flow.Break.{Break}
use Rattle.record_flow.specs.declared.flow.Break.TheVariants as breaks
use Rattle.record_flow.specs.Moves.{IsPut, IsTaken}
use Rattle.record_flow.specs.Values.{content}
use Rattle.stack_code.specs.StackMachine.{Spot, At, load, store, transfer}
use Rattle.runner.specs.declared.words.Word.{Word}
use Rattle.runner.specs.declared.words.Cell.{Cell}
use Rattle.runner.specs.Words.{Shows, Agrees, content_of, content_in}
use Rattle.runner.specs.Exchanges.{IsAsked, IsSet, Comes, Trips, GoesRight, IsTransfer, Transfers}
use Rattle.runner.proofs.Cells.{same_unit}

-- ---- a content goes out ----

module _ (kind : Kind) (word : Word) (cells : List Cell) (u : ℕ) (told : pos u ≡ word.value) (cell : Cell) (there : slice_get cells u ≡ Some cell) where
  module _ (p : Spot) (w : World) (shows : Shows (At p) word) (agrees : Agrees cells w.state.store) where
    loaded : load kind p w.state.store ≡ asked kind (content_of cell)
    loaded = ap (asked kind) (ap w.state.store (sym (same_unit p word u shows told)) ∙ agrees.same u ∙ ap content_in there)

    gone : (place : Place) (r : Try Content) → asked kind (content_of cell) ≡ r → transfer place Writing kind p w ≡ bind (settle place r w) (λ c w1. taped place (put c) w1)
    gone place r e = ap (λ t. bind (settle place t w) (λ c w1. taped place (put c) w1)) (loaded ∙ e)

  asked_value : (v : Value) → IsAsked (asked kind (content_of cell)) (Ok v) → asked kind (content_of cell) ≡ Yields (content v)
  asked_value v m = by (asked kind (content_of cell)) m
    where
      by : (t : Try Content) → IsAsked t (Ok v) → t ≡ Yields (content v)
      by (Yields c) h = ap Yields h
      by (Traps e) h = absurd h
      by Fails h = absurd h

  asked_trap : (e : Trap) → IsAsked (asked kind (content_of cell)) (Err e) → asked kind (content_of cell) ≡ Traps e
  asked_trap e m = by (asked kind (content_of cell)) m
    where
      by : (t : Try Content) → IsAsked t (Err e) → t ≡ Traps e
      by (Yields c) h = absurd h
      by (Traps d) h = ap Traps h
      by Fails h = absurd h

  pub gives_none : (old : Standing) (e : Trap) → IsAsked (asked kind (content_of cell)) (Err e) → Transfers Writing kind word old old cells cells (Err e)
  gives_none old e m fs p place w unread written shows agrees taped_is right = record { state = w.state; is = gone p w shows agrees place (Traps e) (asked_trap e m); shows = ap (λ t. t.written) taped_is }

  module _ (v : Value) (m : IsAsked (asked kind (content_of cell)) (Ok v)) (old new : Standing) where
    module _ (fs : Fields) (p : Spot) (place : Place) (w : World) (unread written : List Record) (shows : Shows (At p) word) (agrees : Agrees cells w.state.store) (taped_is : w.state.tape ≡ tape fs old unread written) where
      moves_by : (x : Move) → put (content v) (tape fs old unread written) ≡ x → transfer place Writing kind p w ≡ moving place x w
      moves_by x e = gone p w shows agrees place (Yields (content v)) (asked_value v m) ∙ ap (λ t. moving place (put (content v) t) w) taped_is ∙ ap (λ y. moving place y w) e

      put_well : IsPut (put (content v) (tape fs old unread written)) (Ok tt) (tape fs new unread written) → Comes (transfer place Writing kind p w) w cells (tape fs new unread written)
      put_well e = record { store = w.state.store; is = moves_by (Moves (tape fs new unread written)) e; agrees = agrees }

      put_badly : (stop : Break) (trap : Trap) → ((d : Trap) → stop ≡ breaks.Trapped d → trap ≡ d) → IsPut (put (content v) (tape fs old unread written)) (Err stop) (tape fs new unread written) → GoesRight (transfer place Writing kind p w) → Trips (transfer place Writing kind p w) place w trap written
      put_badly (breaks.Trapped d) trap is b right = subst (λ x. Trips (transfer place Writing kind p w) place w x written) (sym (is d refl)) (record { state = record { store = w.state.store; tape = b.0 }; is = moves_by (Breaks d b.0) b.1; shows = b.2 })
      put_badly breaks.Wrong trap is b right = absurd (subst GoesRight (moves_by Misses b) right)

    pub gives_well : ((fs : Fields) (unread written : List Record) → IsPut (put (content v) (tape fs old unread written)) (Ok tt) (tape fs new unread written)) → Transfers Writing kind word old new cells cells (Ok tt)
    gives_well step fs p place w unread written shows agrees taped_is right = put_well fs p place w unread written shows agrees taped_is (step fs unread written)

    pub gives_badly : (stop : Break) (trap : Trap) → ((d : Trap) → stop ≡ breaks.Trapped d → trap ≡ d) → ((fs : Fields) (unread written : List Record) → IsPut (put (content v) (tape fs old unread written)) (Err stop) (tape fs new unread written)) → Transfers Writing kind word old new cells cells (Err trap)
    gives_badly stop trap is step fs p place w unread written shows agrees taped_is right = put_badly fs p place w unread written shows agrees taped_is stop trap is (step fs unread written) right

-- ---- a content comes in ----

module _ (kind : Kind) (word : Word) (cells cells1 : List Cell) (old new : Standing) where
  module _ (fs : Fields) (p : Spot) (place : Place) (w : World) (unread written : List Record) (taped_is : w.state.tape ≡ tape fs old unread written) where
    abbrev stores : Content → World → Out ⊤
    stores c w1 = bind (settle place (store p c w1.state.store) w1) (λ st w2. Gives tt (holding st w2))

    came : (r : Try (Content × Tape)) → take (tape fs old unread written) ≡ r → transfer place Reading kind p w ≡ bind (bind (settle place r w) (λ x w1. Gives x.0 (taping x.1 w1))) stores
    came r e = ap (λ t. bind (bind (settle place (take t) w) (λ x w1. Gives x.0 (taping x.1 w1))) stores) taped_is ∙ ap (λ t. bind (bind (settle place t w) (λ x w1. Gives x.0 (taping x.1 w1))) stores) e

    stored : (v : Value) (r : Result (Unit {0}) Trap) (o : Try Store) → take (tape fs old unread written) ≡ Yields (content v, tape fs new unread written) → store p (content v) w.state.store ≡ o → IsSet o cells1 r → IsTransfer (transfer place Reading kind p w) place w cells1 (tape fs new unread written) r
    stored v (Ok u) (Yields st) e is set = record { store = st; is = came _ e ∙ ap (λ t. bind (settle place t (taping (tape fs new unread written) w)) (λ st1 w2. Gives tt (holding st1 w2))) is; agrees = set }
    stored v (Err d) (Traps t) e is set = record { state = record { store = w.state.store; tape = tape fs new unread written }; is = came _ e ∙ ap (λ t1. bind (settle place t1 (taping (tape fs new unread written) w)) (λ st1 w2. Gives tt (holding st1 w2))) (is ∙ ap Traps set); shows = refl }
    stored v (Ok u) (Traps t) e is set = absurd set
    stored v (Ok u) Fails e is set = absurd set
    stored v (Err d) (Yields st) e is set = absurd set
    stored v (Err d) Fails e is set = absurd set

    took_badly : (stop : Break) (trap : Trap) → ((d : Trap) → stop ≡ breaks.Trapped d → trap ≡ d) → IsTaken (take (tape fs old unread written)) (Err stop) (tape fs new unread written) → GoesRight (transfer place Reading kind p w) → Trips (transfer place Reading kind p w) place w trap written
    took_badly (breaks.Trapped d) trap is e right = record { state = w.state; is = came (Traps d) e ∙ ap (λ x. Halts (Ended (Trapped x place)) w) (sym (is d refl)); shows = ap (λ t. t.written) taped_is }
    took_badly breaks.Wrong trap is e right = absurd (subst GoesRight (came Fails e) right)

  pub receives : (v : Value) (r : Result (Unit {0}) Trap) → ((fs : Fields) (unread written : List Record) → IsTaken (take (tape fs old unread written)) (Ok v) (tape fs new unread written)) → ((p : Spot) (st : Store) → Shows (At p) word → Agrees cells st → IsSet (store p (content v) st) cells1 r) → Transfers Reading kind word old new cells cells1 r
  receives v r step set fs p place w unread written shows agrees taped_is right = stored fs p place w unread written taped_is v r (store p (content v) w.state.store) (step fs unread written) refl (set p w.state.store shows agrees)

  pub receives_none : (stop : Break) (trap : Trap) → ((d : Trap) → stop ≡ breaks.Trapped d → trap ≡ d) → ((fs : Fields) (unread written : List Record) → IsTaken (take (tape fs old unread written)) (Err stop) (tape fs new unread written)) → Transfers Reading kind word old new cells cells1 (Err trap)
  receives_none stop trap is step fs p place w unread written shows agrees taped_is right = took_badly fs p place w unread written taped_is stop trap is (step fs unread written) right
