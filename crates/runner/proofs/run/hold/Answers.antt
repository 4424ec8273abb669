-- Each instruction by itself.
use Rattle.std.proofs.Common.{length, subst, sym}
use Rattle.std.specs.Prelude.{Ok}
use Rattle.stack_code.specs.Views.{instruction_of}
use Rattle.runner.specs.Work.{Holds}
use Rattle.runner.specs.Running.{HasUnits}
use Rattle.runner.proofs.run.hold.Goals as goal

pub returns-in-LoadInt-clause-works : goal.returns-in-LoadInt-clause-works
returns-in-LoadInt-clause-works c = subst (λ op. Holds (instruction_of op) c.args.stack.now c.args.top c.args.cells.now c.load.new.stack c.args.cells.now c.load.result) (sym c.in-LoadInt.is) c.load.ensures.works

pub returns-in-LoadLog-clause-works : goal.returns-in-LoadLog-clause-works
returns-in-LoadLog-clause-works c = subst (λ op. Holds (instruction_of op) c.args.stack.now c.args.top c.args.cells.now c.load-in-LoadLog.new.stack c.args.cells.now c.load-in-LoadLog.result) (sym c.in-LoadLog.is) c.load-in-LoadLog.ensures.works

pub returns-in-Forget-clause-works : goal.returns-in-Forget-clause-works
returns-in-Forget-clause-works c = subst (λ op. Holds (instruction_of op) c.args.stack.now c.args.top c.args.cells.now c.args.stack.now c.forget.new.cells c.forget.result) (sym c.in-Forget.is) c.forget.ensures.works

pub returns-in-Lend-clause-works : goal.returns-in-Lend-clause-works
returns-in-Lend-clause-works c = subst (λ op. Holds (instruction_of op) c.args.stack.now c.args.top c.args.cells.now c.lend.new.stack c.lend.new.cells (Ok c.lend.result)) (sym c.in-Lend.is) c.lend.ensures.works

pub loop_start-requires-clause-limit : goal.loop_start-requires-clause-limit
loop_start-requires-clause-limit c = (subst (λ op. HasUnits (instruction_of op) (length c.args.cells.now)) c.in-LoopStart.is c.requires.ranges).0

pub loop_start-requires-clause-step : goal.loop_start-requires-clause-step
loop_start-requires-clause-step c = (subst (λ op. HasUnits (instruction_of op) (length c.args.cells.now)) c.in-LoopStart.is c.requires.ranges).1

pub returns-in-LoopStart-clause-works : goal.returns-in-LoopStart-clause-works
returns-in-LoopStart-clause-works c = subst (λ op. Holds (instruction_of op) c.args.stack.now c.args.top c.args.cells.now c.args.stack.now c.loop_start.new.cells c.loop_start.result) (sym c.in-LoopStart.is) c.loop_start.ensures.works
