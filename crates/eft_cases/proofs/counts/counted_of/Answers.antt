-- A runner that was loaded has not run yet.
use Rattle.std.proofs.Common.{List, sym, subst}
use Rattle.f66_tree.specs.declared.unit.Unit.{Unit as AUnit}
use Rattle.linker.specs.Rules.{program_of}
use Rattle.machine.specs.Runs.{IsSoundProgram}
use Rattle.runner.specs.Runners.{MayGo}
use Rattle.eft_cases.proofs.counts.counted_of.Goals as goal

pub load-requires : goal.load-requires
load-requires c = subst (λ (us : List AUnit). IsSoundProgram (program_of us c.args.finish)) (sym c.deref.ensures.value) c.requires

pub run-end-requires : goal.run-end-requires
run-end-requires c =
    let loaded = c.in_ok-runner.ensures in
    subst (MayGo c.in_ok-runner.runner) (sym loaded.fresh.none) loaded.fresh.ready
