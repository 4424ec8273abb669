-- Turns that follow one another are a step.
use Rattle.std.proofs.Common.{refl, ◌∙◌}
use Rattle.f66_tree.proofs.EditingLemmas.{records_stay}
use Rattle.f66_tree.specs.Records.{due}
use Rattle.record_flow.specs.Moves.{onward}
use Rattle.record_flow.proofs.Walking.{since_begun, since_more_by, step_done_by, step_stopped}
use Rattle.record_flow.proofs.flow.Flow.due.Goals as goal

pub turns-init : goal.turns-init
turns-init g c = (since_begun g.S.Source.left g.K.Sink.puts g.S.Source.faults g.K.Sink.faults g.met.K.Sink.nothing g.met.K.Sink.in_a_row (onward c.args.kind) c.args.plan.now c.args.input.now c.args.out.now c.args.self.now, refl)

pub turns-preserved : goal.turns-preserved
turns-preserved g c = (since_more_by g.S.Source.left g.K.Sink.puts g.S.Source.faults g.K.Sink.faults g.met.K.Sink.nothing g.met.K.Sink.in_a_row (onward c.args.kind) c.args.plan.now c.args.input.now c.turns.input c.turn.new.input c.args.out.now c.turns.out c.turn.new.out c.args.self.now c.turns.self c.turn.new.self c.turns.invariant.0 c.in-Ok-false.field-0 c.in-Ok-false.field-0-test c.in-Ok-false.ensures.turn, c.in-Ok-false.ensures.way ∙ c.turns.invariant.1)

pub returns-in-Ok-true-clause-step : goal.returns-in-Ok-true-clause-step
returns-in-Ok-true-clause-step g c = step_done_by g.S.Source.left g.K.Sink.puts g.S.Source.faults g.K.Sink.faults g.met.K.Sink.nothing g.met.K.Sink.in_a_row (onward c.args.kind) c.args.plan.now c.args.input.now c.turns.input c.turn.new.input c.args.out.now c.turns.out c.turn.new.out c.args.self.now c.turns.self c.turn.new.self c.turns.invariant.0 (due c.args.kind) (λ t. records_stay.dues c.args.kind t) (λ unread written. refl) c.in-Ok-true.field-0 c.in-Ok-true.field-0-test c.in-Ok-true.ensures.turn

pub returns-in-Err-clause-step : goal.returns-in-Err-clause-step
returns-in-Err-clause-step g c = step_stopped g.S.Source.left g.K.Sink.puts g.S.Source.faults g.K.Sink.faults g.met.K.Sink.nothing g.met.K.Sink.in_a_row (onward c.args.kind) c.args.plan.now c.args.input.now c.turns.input c.turn.new.input c.args.out.now c.turns.out c.turn.new.out c.args.self.now c.turns.self c.turn.new.self c.turns.invariant.0 (due c.args.kind) (λ t. records_stay.dues c.args.kind t) (λ unread written. refl) c.in-Err.stop c.in-Err.ensures.turn
