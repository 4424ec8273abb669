-- A content comes or goes.
use Rattle.std.proofs.Common.{subst, sym}
use Rattle.runner.specs.Exchanges.{Transfers}
use Rattle.runner.proofs.items.transfer.Goals as goal

pub returns-in-Reading-clause-step : goal.returns-in-Reading-clause-step
returns-in-Reading-clause-step c = subst (λ way. Transfers way c.args.kind c.args.word c.args.flow.now.stand c.receive.new.flow.stand c.args.cells.now c.receive.new.cells c.receive.result) (sym c.in-Reading.is) (c.receive.ensures.step c.args.kind)

pub returns-in-Writing-clause-step : goal.returns-in-Writing-clause-step
returns-in-Writing-clause-step c = subst (λ way. Transfers way c.args.kind c.args.word c.args.flow.now.stand c.give.new.flow.stand c.args.cells.now c.args.cells.now c.give.result) (sym c.in-Writing.is) c.give.ensures.step
