-- An item's edit is found, and a content comes or goes.
use Rattle.runner.proofs.Exchanging.{not_found, item_goes, item_trips}
use Rattle.runner.proofs.items.item.Goals as goal

pub returns-in-Ok-transfer-clause-step : goal.returns-in-Ok-transfer-clause-step
returns-in-Ok-transfer-clause-step g c = item_goes g.S.Source.left g.K.Sink.puts g.S.Source.faults g.K.Sink.faults c.args.input.now c.due.new.input c.args.out.now c.due.new.out c.args.way c.args.kind c.args.word c.args.plan.now c.args.flow.now c.due.new.self c.args.cells.now c.transfer.new.flow c.transfer.new.cells c.in-Ok.ensures.step c.transfer.ensures.intake c.in-Ok-transfer.ensures.step

pub returns-in-Err-transfer-clause-step : goal.returns-in-Err-transfer-clause-step
returns-in-Err-transfer-clause-step g c = item_trips g.S.Source.left g.K.Sink.puts g.S.Source.faults g.K.Sink.faults c.args.input.now c.due.new.input c.args.out.now c.due.new.out c.args.way c.args.kind c.args.word c.args.plan.now c.args.flow.now c.due.new.self c.args.cells.now c.transfer.new.flow c.transfer.new.cells c.in-Ok.ensures.step c.transfer.ensures.intake c.in-Err-transfer.trap c.in-Err-transfer.ensures.step

pub returns-in-Err-clause-step : goal.returns-in-Err-clause-step
returns-in-Err-clause-step g c = not_found g.S.Source.left g.K.Sink.puts g.S.Source.faults g.K.Sink.faults c.args.input.now c.due.new.input c.args.out.now c.due.new.out c.args.way c.args.kind c.args.word c.args.plan.now c.args.flow.now c.due.new.self c.args.cells.now c.in-Err.stop c.in-Err.ensures.step
