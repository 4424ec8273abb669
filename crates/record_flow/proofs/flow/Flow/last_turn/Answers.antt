-- A turn where no item is left is the one of the definition, and so is what is to come behind it.
use Rattle.std.proofs.Common.{◌≡◌, ◌<◌, subst, refl, Ok, Err, false, true}
use Rattle.std.specs.Prelude.{Some, None}
use Rattle.f66_tree.specs.Turns.{last_turn}
use Rattle.format_io.specs.Places.{hand_of}
use Rattle.record_flow.specs.Moves.{to_close, left_of}
use Rattle.record_flow.proofs.Ending.{over_is, unclosed_is}
use Rattle.record_flow.specs.declared.flow.Stop.TheVariants.{Trapped}
use Rattle.record_flow.specs.Flows.{State, files}
use Rattle.record_flow.specs.Steps.{LacksOnWalk, IsTurned}
use Rattle.record_flow.proofs.Taking.{flows_nothing}
use Rattle.record_flow.proofs.Turns.{end_stopped, end_on, end_nearer}
use Rattle.record_flow.proofs.flow.Flow.last_turn.Goals as goal

pub returns-in-Err-clause-turn : goal.returns-in-Err-clause-turn
returns-in-Err-clause-turn g c =
    let fs = c.args.plan.now in
    let new : State = record { intake = c.self.inside.intake; stand = c.finish.new.self } in
    subst (λ o. IsTurned g.S.Source.left g.K.Sink.puts g.S.Source.faults g.K.Sink.faults c.args.input.now c.args.input.now c.args.out.now c.args.out.now to_close fs o new (Err (Trapped c.in-Err.trap))) c.self.view_is (
      flows_nothing g.S.Source.left g.K.Sink.puts (LacksOnWalk to_close fs c.self.inside.edit) g.met.K.Sink.nothing c.args.input.now c.args.out.now c.self.inside.intake,
      record { input = refl; out = refl },
      λ unread written m. unclosed_is (hand_of fs c.self.inside.edit) (files unread written) c.in-Err.trap c.in-Err.ensures.turn,
    )

pub returns-in-Ok-None-clause-turn : goal.returns-in-Ok-None-clause-turn
returns-in-Ok-None-clause-turn g c =
    let fs = c.args.plan.now in
    let h = hand_of fs c.self.inside.edit in
    let h1 = hand_of fs c.finish.new.self in
    let new : State = record { intake = c.self.inside.intake; stand = c.finish.new.self } in
    let turned : last_turn h ≡ Ok (None, h1) = subst (λ t. last_turn h ≡ Ok (t, h1)) c.in-Ok-None.field-0-is c.in-Ok-None.ensures.turn in
    subst (λ o. IsTurned g.S.Source.left g.K.Sink.puts g.S.Source.faults g.K.Sink.faults c.args.input.now c.args.input.now c.args.out.now c.args.out.now to_close fs o new (Ok true)) c.self.view_is (
      flows_nothing g.S.Source.left g.K.Sink.puts (LacksOnWalk to_close fs c.self.inside.edit) g.met.K.Sink.nothing c.args.input.now c.args.out.now c.self.inside.intake,
      record { input = refl; out = refl },
      λ unread written. over_is h h1 (files unread written) turned,
    )

pub returns-in-Err-change-clause-turn : goal.returns-in-Err-change-clause-turn
returns-in-Err-change-clause-turn g c =
    let fs = c.args.plan.now in
    let h = hand_of fs c.self.inside.edit in
    let h1 = hand_of fs c.finish.new.self in
    let turned : last_turn h ≡ Ok (Some c.in-Ok-Some.field-0-0, h1) = subst (λ t. last_turn h ≡ Ok (t, h1)) c.in-Ok-Some.field-0-is c.in-Ok-Some.ensures.turn in
    subst (λ o. IsTurned g.S.Source.left g.K.Sink.puts g.S.Source.faults g.K.Sink.faults c.args.input.now c.change.new.input c.args.out.now c.change.new.out to_close fs o c.change.new.self (Err c.in-Err-change.stop)) c.self.view_is
    (end_stopped g.S.Source.left g.K.Sink.puts g.S.Source.faults g.K.Sink.faults c.args.input.now c.change.new.input c.args.out.now c.change.new.out fs c.self.inside.intake c.self.inside.edit c.finish.new.self c.change.new.self c.in-Ok-Some.field-0-0 turned c.in-Err-change.stop c.in-Err-change.ensures.changed)

pub returns-in-Ok-clause-turn : goal.returns-in-Ok-clause-turn
returns-in-Ok-clause-turn g c =
    let fs = c.args.plan.now in
    let h = hand_of fs c.self.inside.edit in
    let h1 = hand_of fs c.finish.new.self in
    let turned : last_turn h ≡ Ok (Some c.in-Ok-Some.field-0-0, h1) = subst (λ t. last_turn h ≡ Ok (t, h1)) c.in-Ok-Some.field-0-is c.in-Ok-Some.ensures.turn in
    subst (λ o. IsTurned g.S.Source.left g.K.Sink.puts g.S.Source.faults g.K.Sink.faults c.args.input.now c.change.new.input c.args.out.now c.change.new.out to_close fs o c.change.new.self (Ok false)) c.self.view_is
    (end_on g.S.Source.left g.K.Sink.puts g.S.Source.faults g.K.Sink.faults c.args.input.now c.change.new.input c.args.out.now c.change.new.out fs c.self.inside.intake c.self.inside.edit c.finish.new.self c.change.new.self c.in-Ok-Some.field-0-0 turned c.in-Ok.ensures.mark c.in-Ok.ensures.changed)

pub returns-in-Ok-clause-nearer : goal.returns-in-Ok-clause-nearer
returns-in-Ok-clause-nearer g c =
    let fs = c.args.plan.now in
    let h = hand_of fs c.self.inside.edit in
    let h1 = hand_of fs c.finish.new.self in
    let turned : last_turn h ≡ Ok (Some c.in-Ok-Some.field-0-0, h1) = subst (λ t. last_turn h ≡ Ok (t, h1)) c.in-Ok-Some.field-0-is c.in-Ok-Some.ensures.turn in
    subst (λ o. left_of (hand_of fs c.change.new.self.stand) < left_of (hand_of fs o.stand)) c.self.view_is
    (end_nearer g.S.Source.left g.K.Sink.puts g.S.Source.faults g.K.Sink.faults c.args.input.now c.change.new.input c.args.out.now c.change.new.out fs c.self.inside.intake c.self.inside.edit c.finish.new.self c.change.new.self c.in-Ok-Some.field-0-0 turned c.in-Ok-Some.ensures.way c.in-Ok.ensures.changed)
