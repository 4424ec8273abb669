-- The unit is tested, and the statement begins.
use Rattle.std.proofs.Common.{refl, ◌-◌}
use Rattle.runner.proofs.Starting.{not_begun, begun, stopped_at_first}
use Rattle.runner.proofs.records.start.Goals as goal

pub returns-then-not-is_unit-clause-step : goal.returns-then-not-is_unit-clause-step
returns-then-not-is_unit-clause-step g c fs = not_begun g.S.Source.left g.S.Source.faults c.args.input.now c.args.input.now c.args.way c.args.number fs c.args.flow.now c.args.flow.now c.args.stack.now c.args.top c.is_unit.result c.is_unit.ensures.unit c.if-not-is_unit.true

pub returns-in-Ok-clause-step : goal.returns-in-Ok-clause-step
returns-in-Ok-clause-step g c fs = begun g.S.Source.left g.S.Source.faults c.args.input.now c.open.new.input c.args.way c.args.number fs c.args.flow.now c.open.new.self c.args.stack.now c.args.top c.is_unit.result c.is_unit.ensures.unit c.if-not-is_unit.false (c.args.top - 1, c.args.number) refl (c.in-Ok.ensures.step fs)

pub returns-in-Err-clause-step : goal.returns-in-Err-clause-step
returns-in-Err-clause-step g c fs = stopped_at_first g.S.Source.left g.S.Source.faults c.args.input.now c.open.new.input c.args.way c.args.number fs c.args.flow.now c.open.new.self c.args.stack.now c.args.top c.is_unit.result c.is_unit.ensures.unit c.if-not-is_unit.false c.in-Err.stop (c.in-Err.ensures.step fs)
