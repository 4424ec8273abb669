-- Turns that follow one another are a step.
use Rattle.f66_tree.specs.Records.{closed}
use Rattle.record_flow.specs.Moves.{to_close}
use Rattle.record_flow.proofs.Turns.{closing_keeps, closing_places}
use Rattle.record_flow.proofs.Walking.{since_begun, since_more_by, step_done_by, step_stopped}
use Rattle.record_flow.proofs.flow.Flow.close.Goals as goal

pub turns-init : goal.turns-init
turns-init g c = since_begun g.S.Source.left g.K.Sink.puts g.S.Source.faults g.K.Sink.faults g.met.K.Sink.nothing g.met.K.Sink.in_a_row to_close c.args.plan.now c.args.input.now c.args.out.now c.args.self.now

pub turns-preserved : goal.turns-preserved
turns-preserved g c = since_more_by g.S.Source.left g.K.Sink.puts g.S.Source.faults g.K.Sink.faults g.met.K.Sink.nothing g.met.K.Sink.in_a_row to_close c.args.plan.now c.args.input.now c.turns.input c.last_turn.new.input c.args.out.now c.turns.out c.last_turn.new.out c.args.self.now c.turns.self c.last_turn.new.self c.turns.invariant c.in-Ok-false.field-0 c.in-Ok-false.field-0-test c.in-Ok-false.ensures.turn

pub returns-in-Ok-true : goal.returns-in-Ok-true
returns-in-Ok-true g c = record { step = step_done_by g.S.Source.left g.K.Sink.puts g.S.Source.faults g.K.Sink.faults g.met.K.Sink.nothing g.met.K.Sink.in_a_row to_close c.args.plan.now c.args.input.now c.turns.input c.last_turn.new.input c.args.out.now c.turns.out c.last_turn.new.out c.args.self.now c.turns.self c.last_turn.new.self c.turns.invariant closed closing_keeps (closing_places c.args.plan.now c.args.self.now.stand c.requires.going) c.in-Ok-true.field-0 c.in-Ok-true.field-0-test c.in-Ok-true.ensures.turn }

pub returns-in-Err : goal.returns-in-Err
returns-in-Err g c = record { step = step_stopped g.S.Source.left g.K.Sink.puts g.S.Source.faults g.K.Sink.faults g.met.K.Sink.nothing g.met.K.Sink.in_a_row to_close c.args.plan.now c.args.input.now c.turns.input c.last_turn.new.input c.args.out.now c.turns.out c.last_turn.new.out c.args.self.now c.turns.self c.last_turn.new.self c.turns.invariant closed closing_keeps (closing_places c.args.plan.now c.args.self.now.stand c.requires.going) c.in-Err.stop c.in-Err.ensures.turn }
