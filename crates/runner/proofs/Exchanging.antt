-- An item's edit is found, and a content comes or goes.
use Rattle.std.proofs.Common.{◌≡◌, ℕ, ◌++◌, List, refl, sym, ap, ◌∙◌, subst}
use Rattle.std.specs.Prelude.{Ok, Err, ⊤}
use Rattle.std.specs.declared.option.Option.{Option}
use Rattle.ground.specs.declared.place.Place.{Place}
use Rattle.ground.specs.declared.trap.Trap.{Trap}
use Rattle.ground.specs.declared.trap.Trap.TheVariants.{EndOfInput}
use Rattle.ground.specs.declared.value.Kind.{Kind}
use Rattle.f66_tree.specs.declared.editing.Way.{Way}
use Rattle.f66_tree.specs.Fields.{Fields}
use Rattle.f66_tree.specs.Records.{due}
use Rattle.f66_tree.specs.World.{Record, Tape, World, Out, Gives, Halts, bind, Move, Moves, Breaks, Misses, AfterMove, IsPrefix, moving, taping}
use Rattle.f66_tree.proofs.Prefixes.{prefix_in}
use Rattle.record_flow.specs.declared.flow.Stop.{Stop}
use Rattle.record_flow.specs.declared.flow.Stop.TheVariants as stops
use Rattle.record_flow.specs.Flows as flows
use Rattle.record_flow.specs.Flows.{tape, Flows, MayFollow}
use Rattle.record_flow.specs.Steps.{LacksInStep, IsStep}
use Rattle.record_flow.proofs.Taking.{reads_by, flows_by}
use Rattle.stack_code.specs.StackMachine.{Spot, transfer, edited}
use Rattle.runner.specs.declared.words.Word.{Word}
use Rattle.runner.specs.declared.words.Cell.{Cell}
use Rattle.runner.specs.Exchanges.{GoesRight, AreWritten, Transfers, LacksItem, IsExchange}
use Rattle.runner.proofs.Keeping.{Stays, transfer_stays}

pub still : (ws : List Record) (v : World) (o : Out ⊤) → IsPrefix ws v.state.tape.written → Stays v o → AreWritten ws o
still ws v (Gives a x) h k = prefix_in h k
still ws v (Halts e x) h k = prefix_in h k

module _ (way : Way) (kind : Kind) (p : Spot) (place : Place) where
  edits : (w : World) (t : Tape) (m : Move) → w.state.tape ≡ t → due kind t ≡ m → edited place way kind p w ≡ bind (moving place m w) (λ _ w1. transfer place way kind p w1)
  edits w t m e1 e2 = ap (λ x. bind (moving place (due kind x) w) (λ _ w1. transfer place way kind p w1)) e1 ∙ ap (λ x. bind (moving place x w) (λ _ w1. transfer place way kind p w1)) e2

  -- where the edit isn't found
  written_by : (ws : List Record) (w : World) (m : Move) → AfterMove (λ t. IsPrefix ws t.written) m → GoesRight (bind (moving place m w) (λ _ w1. transfer place way kind p w1)) → AreWritten ws (bind (moving place m w) (λ _ w1. transfer place way kind p w1))
  written_by ws w (Moves t) h r = still ws (taping t w) (transfer place way kind p (taping t w)) h (transfer_stays place way kind p (taping t w))
  written_by ws w (Breaks e t) h r = h
  written_by ws w Misses h r = absurd r

module _ {S K : Type 0} (left : S → Option (List ℕ)) (puts : K → List ℕ → K → Type 0) (faults : S → ℕ) (failures : K → ℕ) (i0 i1 : S) (o0 o1 : K) (way : Way) (kind : Kind) (word : Word) (fs : Fields) (old mid : flows.State) (cells : List Cell) where
  abbrev go : Spot → Place → World → Out ⊤
  go p place = edited place way kind p

  lacks_item : (rs : List Record) → LacksInStep (due kind) fs old.stand rs → LacksItem go word fs old.stand cells rs
  lacks_item rs lacks p place w written shows f =
      let l = lacks written in
      (l.0.written, record { state = record { store = w.state.store; tape = l.0 }; is = edits way kind p place w _ (Breaks EndOfInput l.0) f.taped l.1; shows = refl })

  pub not_found : (stop : Stop) → IsStep left puts faults failures i0 i1 o0 o1 (due kind) fs old mid (Err stop) → IsExchange left puts faults failures i0 i1 o0 o1 go word fs old mid cells cells (Err stop)
  not_found (stops.Trapped e) s = (s.0, s.1, flows_by left puts lacks_item s.2, s.3, λ p place w unread written m shows f. let b = s.4 unread written m in record { state = record { store = w.state.store; tape = b.0 }; is = edits way kind p place w _ (Breaks e b.0) f.taped b.1; shows = b.2 })
  not_found stops.Input s = (s.0, s.1, flows_by left puts lacks_item s.2, s.3, s.4, s.5, λ p place w written shows f. let b = s.6 written in record { state = record { store = w.state.store; tape = b.0 }; is = edits way kind p place w _ (Breaks EndOfInput b.0) f.taped b.1; shows = b.2 })
  not_found stops.Output s = (s.0, s.1, reads_by left lacks_item s.2, s.3, s.4, s.5, λ p place w unread written shows f. let e = edits way kind p place w _ _ f.taped refl in subst (AreWritten (written ++ s.1)) (sym e) (written_by way kind p place (written ++ s.1) w _ (s.6 unread written) (subst GoesRight e f.right)), s.7)

  module _ (new : flows.State) (cells1 : List Cell) (s : IsStep left puts faults failures i0 i1 o0 o1 (due kind) fs old mid (Ok tt)) (same : new.intake ≡ mid.intake) where
    flows_there : Flows left puts (LacksItem go word fs old.stand cells) i0 i1 o0 o1 old.intake new.intake s.0 s.1
    flows_there = subst (λ c. Flows left puts (LacksItem go word fs old.stand cells) i0 i1 o0 o1 old.intake c s.0 s.1) (sym same) (flows_by left puts lacks_item s.2)

    found : (p : Spot) (place : Place) (w : World) (unread written : List Record) → w.state.tape ≡ tape fs old.stand (s.0 ++ unread) written → go p place w ≡ transfer place way kind p (taping (tape fs mid.stand unread (written ++ s.1)) w)
    found p place w unread written e = edits way kind p place w _ _ e (s.4 unread written)

    pub item_goes : Transfers way kind word mid.stand new.stand cells cells1 (Ok tt) → IsExchange left puts faults failures i0 i1 o0 o1 go word fs old new cells cells1 (Ok tt)
    item_goes t = (
      s.0,
      s.1,
      flows_there,
      s.3,
      λ p place w unread written shows f.
          let e = found p place w unread written f.taped in
          let c = t fs p place (taping (tape fs mid.stand unread (written ++ s.1)) w) unread (written ++ s.1) shows f.agrees refl (subst GoesRight e f.right) in
          record { store = c.store; is = e ∙ c.is; agrees = c.agrees },
    )

    pub item_trips : (e : Trap) → Transfers way kind word mid.stand new.stand cells cells1 (Err e) → IsExchange left puts faults failures i0 i1 o0 o1 go word fs old new cells cells1 (Err (stops.Trapped e))
    item_trips trap t = (
      s.0,
      s.1,
      flows_there,
      s.3,
      λ p place w unread written m shows f.
          let e = found p place w unread written f.taped in
          let c = t fs p place (taping (tape fs mid.stand unread (written ++ s.1)) w) unread (written ++ s.1) shows f.agrees refl (subst GoesRight e f.right) in
          record { state = c.state; is = e ∙ c.is; shows = c.shows },
    )
