-- What was found is what the definition has.
use Rattle.std.proofs.Common.{subst, ap, ◌∙◌, take, arith, Ok, Err}
use Rattle.ground.specs.declared.trap.Trap.TheVariants.{EndOfInput, LongRecord}
use Rattle.f66_tree.specs.Fields.{NoField}
use Rattle.f66_tree.specs.Turns.{with_record}
use Rattle.format_io.specs.Places.{hand_of}
use Rattle.record_flow.specs.declared.flow.Stop.TheVariants.{Trapped, Input}
use Rattle.record_flow.specs.Flows.{State}
use Rattle.record_flow.specs.Steps.{IsFetched}
use Rattle.record_flow.proofs.Fetching.{reads_none, reads_one, record_fits, record_is_long, long_comes, none_comes}
use Rattle.record_flow.proofs.flow.Flow.fetch.Goals as goal

pub returns-then-size-gt65535-clause-fetched : goal.returns-then-size-gt65535-clause-fetched
returns-then-size-gt65535-clause-fetched g c =
    let new : State = record { intake = c.find.new.self; stand = c.self.inside.edit } in
    subst (λ o. IsFetched g.S.Source.left g.S.Source.faults c.args.input.now c.find.new.input o new (Err (Trapped LongRecord))) c.self.view_is
    (reads_none g.S.Source.left c.args.input.now c.find.new.input c.self.inside.intake c.find.new.self c.in-Record.ensures.grows c.in-Record.ensures.at_end, c.in-Record.ensures.counts, record_is_long c.find.new.self c.in-Record.size c.in-Record.next c.in-Record.ensures.found (omega arith))

pub returns-else-size-gt65535-clause-fetched : goal.returns-else-size-gt65535-clause-fetched
returns-else-size-gt65535-clause-fetched g c =
    let size = c.in-Record.size in
    let new : State = record { intake = c.pass.new.self; stand = c.take_record.new.self } in
    subst (λ o. IsFetched g.S.Source.left g.S.Source.faults c.args.input.now c.find.new.input o new (Ok tt)) c.self.view_is (
      take size c.find.new.self.hand,
      reads_one g.S.Source.left c.args.input.now c.find.new.input c.self.inside.intake c.find.new.self c.pass.new.self size c.in-Record.next c.in-Record.ensures.grows c.in-Record.ensures.at_end c.in-Record.ensures.found c.pass.ensures.hand c.pass.ensures.ended,
      c.in-Record.ensures.counts,
      record_fits c.find.new.self size c.in-Record.next c.in-Record.ensures.found (omega arith),
      λ fs. c.take_record.ensures.hand fs ∙ ap (λ l. with_record (hand_of fs c.self.inside.edit) (take size l)) c.hand.ensures,
    )

pub returns-else-size-gt65535-clause-mark : goal.returns-else-size-gt65535-clause-mark
returns-else-size-gt65535-clause-mark g c = ap (λ h. h.mark) (c.take_record.ensures.hand NoField)

pub returns-in-Long-clause-fetched : goal.returns-in-Long-clause-fetched
returns-in-Long-clause-fetched g c =
    let new : State = record { intake = c.find.new.self; stand = c.self.inside.edit } in
    subst (λ o. IsFetched g.S.Source.left g.S.Source.faults c.args.input.now c.find.new.input o new (Err (Trapped LongRecord))) c.self.view_is
    (reads_none g.S.Source.left c.args.input.now c.find.new.input c.self.inside.intake c.find.new.self c.in-Long.ensures.grows c.in-Long.ensures.at_end, c.in-Long.ensures.counts, long_comes c.find.new.self c.in-Long.ensures.found)

pub returns-in-Nothing-clause-fetched : goal.returns-in-Nothing-clause-fetched
returns-in-Nothing-clause-fetched g c =
    let new : State = record { intake = c.find.new.self; stand = c.self.inside.edit } in
    subst (λ o. IsFetched g.S.Source.left g.S.Source.faults c.args.input.now c.find.new.input o new (Err (Trapped EndOfInput))) c.self.view_is
    (reads_none g.S.Source.left c.args.input.now c.find.new.input c.self.inside.intake c.find.new.self c.in-Nothing.ensures.grows c.in-Nothing.ensures.at_end, c.in-Nothing.ensures.counts, none_comes c.find.new.self c.in-Nothing.ensures.found)

pub returns-in-Failed-clause-fetched : goal.returns-in-Failed-clause-fetched
returns-in-Failed-clause-fetched g c =
    let new : State = record { intake = c.find.new.self; stand = c.self.inside.edit } in
    subst (λ o. IsFetched g.S.Source.left g.S.Source.faults c.args.input.now c.find.new.input o new (Err Input)) c.self.view_is
    (reads_none g.S.Source.left c.args.input.now c.find.new.input c.self.inside.intake c.find.new.self c.in-Failed.ensures.grows c.in-Failed.ensures.at_end, c.in-Failed.ensures.counts, c.in-Failed.ensures.found)
