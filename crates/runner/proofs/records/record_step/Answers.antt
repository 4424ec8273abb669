-- Each instruction that has to do with records.
use Rattle.std.proofs.Common.{◌≡◌, ◌∙◌, subst, sym, length, rules}
use Rattle.std.specs.Prelude.{Ok, Err}
use Rattle.f66_tree.specs.declared.editing.Way.TheVariants.{Reading, Writing}
use Rattle.stack_code.specs.Instructions.{Finish}
use Rattle.stack_code.specs.Views.{instruction_of}
use Rattle.runner.specs.Recording.{HasPlan, Acts}
use Rattle.runner.proofs.Recorded.{started_acts, finish_goes, finish_stops}
use Rattle.runner.proofs.records.record_step.Goals as goal

pub returns-in_err-next-in-WriteStart-clause-acts : goal.returns-in_err-next-in-WriteStart-clause-acts
returns-in_err-next-in-WriteStart-clause-acts g c =
    let gone : c.from_residual.result ≡ Err c.in_err-next-in-WriteStart.field-0.0 = search rules in
    let there = subst (λ op. HasPlan (instruction_of op) (length c.args.plans.now)) c.in-WriteStart.is c.requires.act.plans_there in
    let acts = subst (λ op. Acts g.S.Source.left g.K.Sink.puts g.S.Source.faults g.K.Sink.faults c.args.input.now c.start.new.input c.args.out.now c.args.out.now c.args.plans.now (instruction_of op) c.args.plan c.args.flow.now c.start.new.flow c.args.stack.now c.args.top c.args.cells.now c.args.stack.now c.args.cells.now c.start.result) (sym c.in-WriteStart.is)
    (started_acts g.S.Source.left g.K.Sink.puts g.S.Source.faults g.K.Sink.faults g.met.K.Sink.nothing c.args.input.now c.start.new.input c.args.plans.now c.args.plan c.args.flow.now c.start.new.flow c.args.stack.now c.args.top c.args.cells.now c.args.out.now Writing c.in-WriteStart.number there c.start.result c.start.ensures.step c.start.ensures.way c.start.ensures.going c.start.ensures.rest) in
    subst (λ r. Acts g.S.Source.left g.K.Sink.puts g.S.Source.faults g.K.Sink.faults c.args.input.now c.start.new.input c.args.out.now c.args.out.now c.args.plans.now (instruction_of c.args.op.now) c.args.plan c.args.flow.now c.start.new.flow c.args.stack.now c.args.top c.args.cells.now c.args.stack.now c.args.cells.now r) (c.in_err-next-in-WriteStart.was ∙ sym gone) acts

pub returns-in_ok-next-in-WriteStart-clause-acts : goal.returns-in_ok-next-in-WriteStart-clause-acts
returns-in_ok-next-in-WriteStart-clause-acts g c =
    let there = subst (λ op. HasPlan (instruction_of op) (length c.args.plans.now)) c.in-WriteStart.is c.requires.act.plans_there in
    let acts = subst (λ op. Acts g.S.Source.left g.K.Sink.puts g.S.Source.faults g.K.Sink.faults c.args.input.now c.start.new.input c.args.out.now c.args.out.now c.args.plans.now (instruction_of op) c.args.plan c.args.flow.now c.start.new.flow c.args.stack.now c.args.top c.args.cells.now c.args.stack.now c.args.cells.now c.start.result) (sym c.in-WriteStart.is)
    (started_acts g.S.Source.left g.K.Sink.puts g.S.Source.faults g.K.Sink.faults g.met.K.Sink.nothing c.args.input.now c.start.new.input c.args.plans.now c.args.plan c.args.flow.now c.start.new.flow c.args.stack.now c.args.top c.args.cells.now c.args.out.now Writing c.in-WriteStart.number there c.start.result c.start.ensures.step c.start.ensures.way c.start.ensures.going c.start.ensures.rest) in
    subst (λ r. Acts g.S.Source.left g.K.Sink.puts g.S.Source.faults g.K.Sink.faults c.args.input.now c.start.new.input c.args.out.now c.args.out.now c.args.plans.now (instruction_of c.args.op.now) c.args.plan c.args.flow.now c.start.new.flow c.args.stack.now c.args.top c.args.cells.now c.args.stack.now c.args.cells.now r) (c.in_ok-next-in-WriteStart.was) acts

pub returns-in_err-next-in-ReadStart-clause-acts : goal.returns-in_err-next-in-ReadStart-clause-acts
returns-in_err-next-in-ReadStart-clause-acts g c =
    let gone : c.from_residual-in_err-next-in-ReadStart.result ≡ Err c.in_err-next-in-ReadStart.field-0.0 = search rules in
    let there = subst (λ op. HasPlan (instruction_of op) (length c.args.plans.now)) c.in-ReadStart.is c.requires.act.plans_there in
    let acts = subst (λ op. Acts g.S.Source.left g.K.Sink.puts g.S.Source.faults g.K.Sink.faults c.args.input.now c.start-in-ReadStart.new.input c.args.out.now c.args.out.now c.args.plans.now (instruction_of op) c.args.plan c.args.flow.now c.start-in-ReadStart.new.flow c.args.stack.now c.args.top c.args.cells.now c.args.stack.now c.args.cells.now c.start-in-ReadStart.result) (sym c.in-ReadStart.is)
    (started_acts g.S.Source.left g.K.Sink.puts g.S.Source.faults g.K.Sink.faults g.met.K.Sink.nothing c.args.input.now c.start-in-ReadStart.new.input c.args.plans.now c.args.plan c.args.flow.now c.start-in-ReadStart.new.flow c.args.stack.now c.args.top c.args.cells.now c.args.out.now Reading c.in-ReadStart.number there c.start-in-ReadStart.result c.start-in-ReadStart.ensures.step c.start-in-ReadStart.ensures.way c.start-in-ReadStart.ensures.going c.start-in-ReadStart.ensures.rest) in
    subst (λ r. Acts g.S.Source.left g.K.Sink.puts g.S.Source.faults g.K.Sink.faults c.args.input.now c.start-in-ReadStart.new.input c.args.out.now c.args.out.now c.args.plans.now (instruction_of c.args.op.now) c.args.plan c.args.flow.now c.start-in-ReadStart.new.flow c.args.stack.now c.args.top c.args.cells.now c.args.stack.now c.args.cells.now r) (c.in_err-next-in-ReadStart.was ∙ sym gone) acts

pub returns-in_ok-next-in-ReadStart-clause-acts : goal.returns-in_ok-next-in-ReadStart-clause-acts
returns-in_ok-next-in-ReadStart-clause-acts g c =
    let there = subst (λ op. HasPlan (instruction_of op) (length c.args.plans.now)) c.in-ReadStart.is c.requires.act.plans_there in
    let acts = subst (λ op. Acts g.S.Source.left g.K.Sink.puts g.S.Source.faults g.K.Sink.faults c.args.input.now c.start-in-ReadStart.new.input c.args.out.now c.args.out.now c.args.plans.now (instruction_of op) c.args.plan c.args.flow.now c.start-in-ReadStart.new.flow c.args.stack.now c.args.top c.args.cells.now c.args.stack.now c.args.cells.now c.start-in-ReadStart.result) (sym c.in-ReadStart.is)
    (started_acts g.S.Source.left g.K.Sink.puts g.S.Source.faults g.K.Sink.faults g.met.K.Sink.nothing c.args.input.now c.start-in-ReadStart.new.input c.args.plans.now c.args.plan c.args.flow.now c.start-in-ReadStart.new.flow c.args.stack.now c.args.top c.args.cells.now c.args.out.now Reading c.in-ReadStart.number there c.start-in-ReadStart.result c.start-in-ReadStart.ensures.step c.start-in-ReadStart.ensures.way c.start-in-ReadStart.ensures.going c.start-in-ReadStart.ensures.rest) in
    subst (λ r. Acts g.S.Source.left g.K.Sink.puts g.S.Source.faults g.K.Sink.faults c.args.input.now c.start-in-ReadStart.new.input c.args.out.now c.args.out.now c.args.plans.now (instruction_of c.args.op.now) c.args.plan c.args.flow.now c.start-in-ReadStart.new.flow c.args.stack.now c.args.top c.args.cells.now c.args.stack.now c.args.cells.now r) (c.in_ok-next-in-ReadStart.was) acts

pub returns-in_ok-close-in-Finish-clause-acts : goal.returns-in_ok-close-in-Finish-clause-acts
returns-in_ok-close-in-Finish-clause-acts g c =
    subst (λ op. Acts g.S.Source.left g.K.Sink.puts g.S.Source.faults g.K.Sink.faults c.args.input.now c.close.new.input c.args.out.now c.close.new.out c.args.plans.now (instruction_of op) c.args.plan c.args.flow.now c.close.new.self c.args.stack.now c.args.top c.args.cells.now c.args.stack.now c.args.cells.now (Ok (c.args.top, c.args.plan))) (sym c.in-Finish.is)
    (λ among after hand held opened. finish_goes g.S.Source.left g.K.Sink.puts g.S.Source.faults g.K.Sink.faults g.met.K.Sink.nothing c.args.input.now c.close.new.input c.args.plans.now c.args.plan c.args.flow.now c.close.new.self c.args.stack.now c.args.top c.args.cells.now c.args.out.now c.close.new.out c.index-plans-plan.result c.index-plans-plan.is among after hand held opened c.in_ok-close-in-Finish.ensures.step)

pub returns-in_err-close-in-Finish-clause-acts : goal.returns-in_err-close-in-Finish-clause-acts
returns-in_err-close-in-Finish-clause-acts g c =
    let stop = c.in_err-close-in-Finish.field-0.0 in
    let gone : c.from_residual-in_err-close-in-Finish.result ≡ Err stop = search rules in
    subst (λ op. Acts g.S.Source.left g.K.Sink.puts g.S.Source.faults g.K.Sink.faults c.args.input.now c.close.new.input c.args.out.now c.close.new.out c.args.plans.now (instruction_of op) c.args.plan c.args.flow.now c.close.new.self c.args.stack.now c.args.top c.args.cells.now c.args.stack.now c.args.cells.now c.from_residual-in_err-close-in-Finish.result) (sym c.in-Finish.is)
    (subst (λ r. Acts g.S.Source.left g.K.Sink.puts g.S.Source.faults g.K.Sink.faults c.args.input.now c.close.new.input c.args.out.now c.close.new.out c.args.plans.now Finish c.args.plan c.args.flow.now c.close.new.self c.args.stack.now c.args.top c.args.cells.now c.args.stack.now c.args.cells.now r) (sym gone)
    (λ among after hand held opened. finish_stops g.S.Source.left g.K.Sink.puts g.S.Source.faults g.K.Sink.faults g.met.K.Sink.nothing c.args.input.now c.close.new.input c.args.plans.now c.args.plan c.args.flow.now c.close.new.self c.args.stack.now c.args.top c.args.cells.now c.args.out.now c.close.new.out c.index-plans-plan.result c.index-plans-plan.is among after hand held opened stop c.in_err-close-in-Finish.ensures.step))
