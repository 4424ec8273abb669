-- Items and rows of a list go right where their spots are within the store.
use Rattle.std.proofs.Common.{ℕ, zero, suc, ◌+◌}
use Rattle.std.specs.Prelude.{⊤}
use Rattle.ground.specs.declared.place.Place.{Place}
use Rattle.ground.specs.declared.value.Kind.{Kind}
use Rattle.ground.specs.Content.{Content}
use Rattle.f66_tree.specs.declared.editing.Way.{Way}
use Rattle.f66_tree.specs.declared.editing.Way.TheVariants.{Reading, Writing}
use Rattle.f66_tree.specs.World.{Tape, World, Out, Gives, bind, Try, Yields, Traps, Fails, Move, Moves, Breaks, Misses, moving, settle, taping}
use Rattle.f66_tree.specs.Records.{due, put, take}
use Rattle.f66_tree.specs.Statements.{taken_content}
use Rattle.f66_tree.proofs.Tries.{IsOfKind, TriesRightly}
use Rattle.f66_tree.proofs.EditLemmas.{MovesRightly, Awaits, due_rightly, put_rightly, take_rightly}
use Rattle.stack_code.specs.StackMachine.{Spot, load, store, shift, transfer, edited, row}
use Rattle.stack_code.specs.Safety.{IsRight, IsWithin}
use Rattle.stack_code.proofs.SafeLemmas.{settle_right, bind_right}
use Rattle.stack_code.proofs.SafeOps.{load_right, store_right, shift_right}

-- ---- within a run ----

pub moving_right : {B : Type 0} (P : Tape → Type 0) (Q : B → Type 0) (p : Place) (m : Move) (w : World) (g : Unit {0} → World → Out B) → MovesRightly P m → ((t : Tape) → P t → IsRight Q (g tt (taping t w))) → IsRight Q (bind (moving p m w) g)
moving_right P Q p (Moves t) w g h go = go t h
moving_right P Q p (Breaks e t) w g h go = tt
moving_right P Q p Misses w g h go = absurd h

took_right : (k : Kind) (p : Place) (w : World) (Q : Unit {0} → Type 0) (g : Content → World → Out (Unit {0})) → Awaits k w.state.tape.hand.mark → ((v : Content) (w1 : World) → IsRight Q (g v w1)) → IsRight Q (bind (taken_content p take w) g)
took_right k p w Q g awaits go = by_take (take w.state.tape) (take_rightly k w.state.tape awaits)
  where
    by_take : (t : Try (Content × Tape)) → TriesRightly (λ x. IsOfKind k x.0) t → IsRight Q (bind (bind (settle p t w) (λ r w1. Gives r.0 (taping r.1 w1))) g)
    by_take (Yields x) h = go x.0 (taping x.1 w)
    by_take (Traps e) h = tt
    by_take Fails h = absurd h

Fine : Unit {0} → Type 0
Fine x = Unit {0}

unit_right : (o : Out (Unit {0})) → IsRight (λ _. Unit {0}) o → IsRight (λ _. Unit {0}) o
unit_right o h = h

moved_right : (P : Tape → Type 0) (p : Place) (m : Move) (w : World) → MovesRightly P m → IsRight (λ (x : Unit {0}). Unit {0}) (moving p m w)
moved_right P p (Moves t) w h = tt
moved_right P p (Breaks e t) w h = tt
moved_right P p Misses w h = absurd h

transfer_right : (p : Place) (way : Way) (k : Kind) (s : Spot) (w : World) → Awaits k w.state.tape.hand.mark → IsRight (λ (x : Unit {0}). Unit {0}) (transfer p way k s w)
transfer_right p Reading k s w awaits = took_right k p w (λ _. Unit {0}) _ awaits (λ v w1. settle_right (λ _. Unit {0}) (λ _. Unit {0}) p (store s v w1.state.store) w1 _ (store_right s v w1.state.store) (λ st h. tt))
transfer_right p Writing k s w awaits = settle_right (IsOfKind k) (λ _. Unit {0}) p (load k s w.state.store) w _ (load_right k s w.state.store) (λ v h. moved_right (λ _. ⊤) p (put v w.state.tape) w (put_rightly k v w.state.tape awaits h))

pub edited_right : (p : Place) (way : Way) (k : Kind) (s : Spot) (w : World) → IsRight (λ (x : Unit {0}). Unit {0}) (edited p way k s w)
edited_right p way k s w = moving_right (λ t. Awaits k t.hand.mark) (λ _. Unit {0}) p (due k w.state.tape) w _ (due_rightly k w.state.tape) (λ t h. transfer_right p way k s (taping t w) h)

pub row_right : (units : ℕ) (p : Place) (way : Way) (k : Kind) (s : Spot) → IsWithin units s → (n i : ℕ) (w : World) → IsRight (λ (x : Unit {0}). Unit {0}) (row p way k s n i w)
row_right units p way k s h zero i w = tt
row_right units p way k s h (suc n) i w =
    settle_right (IsWithin units) (λ _. Unit {0}) p (shift s i) w _ (shift_right units s i h) (λ q hq. bind_right (λ _. Unit {0}) (λ _. Unit {0}) (edited p way k q w) _ (edited_right p way k q w) (λ u w2 hu. row_right units p way k s h n (i + 1) w2))
