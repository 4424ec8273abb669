-- A fresh runner of the units' code is loaded.
use Rattle.linker.specs.Rules.{program_of}
use Rattle.machine.proofs.UnitRuns.{if_ok}
use Rattle.machine.proofs.Streaming.{loaded}
use Rattle.machine.proofs.loading.load.Goals as goal

pub returns : goal.returns
returns c = if_ok (λ r fresh. loaded (program_of c.args.units.now c.args.finish) c.args.steps c.in_ok-code.code r c.in_ok-code.ensures fresh) c.new.result c.new.ensures
