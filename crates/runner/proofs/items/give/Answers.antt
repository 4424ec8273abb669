-- A unit's content goes out, or the statement is trapped.
use Rattle.runner.proofs.Transferring.{gives_none, gives_well, gives_badly}
use Rattle.runner.proofs.items.give.Goals as goal

pub returns-in-Ok-put-clause-step : goal.returns-in-Ok-put-clause-step
returns-in-Ok-put-clause-step c = gives_well c.args.kind c.args.word c.args.cells.now c.unit_of.result c.unit_of.ensures c.cell_at.result c.cell_at.ensures c.in-Ok.value c.in-Ok.ensures c.args.flow.now.stand c.put.new.self.stand c.in-Ok-put.ensures.step

pub returns-in-Err-put-clause-step : goal.returns-in-Err-put-clause-step
returns-in-Err-put-clause-step c = gives_badly c.args.kind c.args.word c.args.cells.now c.unit_of.result c.unit_of.ensures c.cell_at.result c.cell_at.ensures c.in-Ok.value c.in-Ok.ensures c.args.flow.now.stand c.put.new.self.stand c.in-Err-put.stop c.trap_of.result c.trap_of.ensures c.in-Err-put.ensures.step

pub returns-in-Err-clause-step : goal.returns-in-Err-clause-step
returns-in-Err-clause-step c = gives_none c.args.kind c.args.word c.args.cells.now c.unit_of.result c.unit_of.ensures c.cell_at.result c.cell_at.ensures c.args.flow.now.stand c.in-Err.trap c.in-Err.ensures
