-- A turn for an item is the one of the definition, and so is what is to come behind it.
use Rattle.std.proofs.Common.{◌≡◌, ◌<◌, subst, refl, Ok, Err, false, true}
use Rattle.f66_tree.specs.declared.editing.Turn.TheVariants.{Ready, RecordDone}
use Rattle.f66_tree.specs.Turns.{next_turn}
use Rattle.format_io.specs.Places.{hand_of}
use Rattle.record_flow.specs.Moves.{onward, ahead}
use Rattle.record_flow.proofs.Turning.{ready_is, stopped_is, ready_goes, done_goes, change_goes}
use Rattle.record_flow.specs.declared.flow.Stop.TheVariants.{Trapped}
use Rattle.record_flow.specs.Flows.{State, files}
use Rattle.record_flow.specs.Steps.{LacksOnWalk, IsTurned}
use Rattle.record_flow.proofs.Taking.{flows_nothing}
use Rattle.record_flow.proofs.Turns.{item_stopped, item_on, item_nearer}
use Rattle.record_flow.proofs.flow.Flow.turn.Goals as goal

pub returns-in-Err-clause-turn : goal.returns-in-Err-clause-turn
returns-in-Err-clause-turn g c =
    let fs = c.args.plan.now in
    let new : State = record { intake = c.self.inside.intake; stand = c.next_item.new.self } in
    subst (λ o. IsTurned g.S.Source.left g.K.Sink.puts g.S.Source.faults g.K.Sink.faults c.args.input.now c.args.input.now c.args.out.now c.args.out.now (onward c.args.kind) fs o new (Err (Trapped c.in-Err.trap))) c.self.view_is (
      flows_nothing g.S.Source.left g.K.Sink.puts (LacksOnWalk (onward c.args.kind) fs c.self.inside.edit) g.met.K.Sink.nothing c.args.input.now c.args.out.now c.self.inside.intake,
      record { input = refl; out = refl },
      λ unread written m. stopped_is (hand_of fs c.self.inside.edit) c.args.kind (files unread written) c.in-Err.trap c.in-Err.ensures.turn,
    )

pub returns-in-Ok-Ready-clause-turn : goal.returns-in-Ok-Ready-clause-turn
returns-in-Ok-Ready-clause-turn g c =
    let fs = c.args.plan.now in
    let h = hand_of fs c.self.inside.edit in
    let h1 = hand_of fs c.next_item.new.self in
    let new : State = record { intake = c.self.inside.intake; stand = c.next_item.new.self } in
    let turned : next_turn h c.args.kind ≡ Ok (Ready c.in-Ok-Ready.field-0-0, h1) = subst (λ t. next_turn h c.args.kind ≡ Ok (t, h1)) c.in-Ok-Ready.field-0-is c.in-Ok-Ready.ensures.turn in
    subst (λ o. IsTurned g.S.Source.left g.K.Sink.puts g.S.Source.faults g.K.Sink.faults c.args.input.now c.args.input.now c.args.out.now c.args.out.now (onward c.args.kind) fs o new (Ok true)) c.self.view_is (
      flows_nothing g.S.Source.left g.K.Sink.puts (LacksOnWalk (onward c.args.kind) fs c.self.inside.edit) g.met.K.Sink.nothing c.args.input.now c.args.out.now c.self.inside.intake,
      record { input = refl; out = refl },
      λ unread written. ready_is h h1 c.args.kind (files unread written) _ turned,
    )

pub returns-in-Ok-Ready-clause-going : goal.returns-in-Ok-Ready-clause-going
returns-in-Ok-Ready-clause-going g c =
    let fs = c.args.plan.now in
    let h = hand_of fs c.self.inside.edit in
    let h1 = hand_of fs c.next_item.new.self in
    let turned : next_turn h c.args.kind ≡ Ok (Ready c.in-Ok-Ready.field-0-0, h1) = subst (λ t. next_turn h c.args.kind ≡ Ok (t, h1)) c.in-Ok-Ready.field-0-is c.in-Ok-Ready.ensures.turn in
    ready_goes h h1 c.args.kind _ turned

pub returns-in-Err-change-clause-turn : goal.returns-in-Err-change-clause-turn
returns-in-Err-change-clause-turn g c =
    let fs = c.args.plan.now in
    let h = hand_of fs c.self.inside.edit in
    let h1 = hand_of fs c.next_item.new.self in
    let turned : next_turn h c.args.kind ≡ Ok (RecordDone, h1) = subst (λ t. next_turn h c.args.kind ≡ Ok (t, h1)) c.in-Ok-RecordDone.field-0-is c.in-Ok-RecordDone.ensures.turn in
    subst (λ o. IsTurned g.S.Source.left g.K.Sink.puts g.S.Source.faults g.K.Sink.faults c.args.input.now c.change.new.input c.args.out.now c.change.new.out (onward c.args.kind) fs o c.change.new.self (Err c.in-Err-change.stop)) c.self.view_is
    (item_stopped g.S.Source.left g.K.Sink.puts g.S.Source.faults g.K.Sink.faults c.args.input.now c.change.new.input c.args.out.now c.change.new.out fs c.self.inside.intake c.self.inside.edit c.next_item.new.self c.change.new.self c.args.kind turned c.in-Err-change.stop c.in-Err-change.ensures.changed)

pub returns-in-Ok-clause-turn : goal.returns-in-Ok-clause-turn
returns-in-Ok-clause-turn g c =
    let fs = c.args.plan.now in
    let h = hand_of fs c.self.inside.edit in
    let h1 = hand_of fs c.next_item.new.self in
    let turned : next_turn h c.args.kind ≡ Ok (RecordDone, h1) = subst (λ t. next_turn h c.args.kind ≡ Ok (t, h1)) c.in-Ok-RecordDone.field-0-is c.in-Ok-RecordDone.ensures.turn in
    subst (λ o. IsTurned g.S.Source.left g.K.Sink.puts g.S.Source.faults g.K.Sink.faults c.args.input.now c.change.new.input c.args.out.now c.change.new.out (onward c.args.kind) fs o c.change.new.self (Ok false)) c.self.view_is
    (item_on g.S.Source.left g.K.Sink.puts g.S.Source.faults g.K.Sink.faults c.args.input.now c.change.new.input c.args.out.now c.change.new.out fs c.self.inside.intake c.self.inside.edit c.next_item.new.self c.change.new.self c.args.kind turned c.in-Ok.ensures.changed)

pub returns-in-Ok-clause-nearer : goal.returns-in-Ok-clause-nearer
returns-in-Ok-clause-nearer g c =
    let fs = c.args.plan.now in
    let h = hand_of fs c.self.inside.edit in
    let h1 = hand_of fs c.next_item.new.self in
    let turned : next_turn h c.args.kind ≡ Ok (RecordDone, h1) = subst (λ t. next_turn h c.args.kind ≡ Ok (t, h1)) c.in-Ok-RecordDone.field-0-is c.in-Ok-RecordDone.ensures.turn in
    subst (λ o. ahead (hand_of fs c.change.new.self.stand) < ahead (hand_of fs o.stand)) c.self.view_is
    (item_nearer g.S.Source.left g.K.Sink.puts g.S.Source.faults g.K.Sink.faults c.args.input.now c.change.new.input c.args.out.now c.change.new.out fs c.self.inside.intake c.self.inside.edit c.next_item.new.self c.change.new.self c.args.kind turned c.in-Ok.ensures.changed)

pub returns-in-Ok-clause-going : goal.returns-in-Ok-clause-going
returns-in-Ok-clause-going g c =
    let fs = c.args.plan.now in
    let h = hand_of fs c.self.inside.edit in
    let h1 = hand_of fs c.next_item.new.self in
    let turned : next_turn h c.args.kind ≡ Ok (RecordDone, h1) = subst (λ t. next_turn h c.args.kind ≡ Ok (t, h1)) c.in-Ok-RecordDone.field-0-is c.in-Ok-RecordDone.ensures.turn in
    change_goes h1.way h1.mark _ (done_goes h h1 c.args.kind turned) c.in-Ok.ensures.mark
