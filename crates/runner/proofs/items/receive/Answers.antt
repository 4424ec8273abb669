-- A value comes into a unit, or the statement is trapped.
use Rattle.runner.proofs.Transferring.{receives, receives_none}
use Rattle.runner.proofs.items.receive.Goals as goal

pub returns-in-Ok-clause-step : goal.returns-in-Ok-clause-step
returns-in-Ok-clause-step c kind = receives kind c.args.word c.args.cells.now c.set.new.cells c.args.flow.now.stand c.take.new.self.stand c.in-Ok.value c.set.result c.in-Ok.ensures.step c.set.ensures.set

pub returns-in-Err-clause-step : goal.returns-in-Err-clause-step
returns-in-Err-clause-step c kind = receives_none kind c.args.word c.args.cells.now c.args.cells.now c.args.flow.now.stand c.take.new.self.stand c.in-Err.stop c.trap_of.result c.trap_of.ensures c.in-Err.ensures.step
