-- Why `run` keeps its clauses.
use Rattle.std.proofs.Common.{List, ℕ, [], ◌++◌, false, ap, sym, subst, ◌∙◌}
use Rattle.f66_tree.specs.declared.unit.Unit.{Unit as AUnit}
use Rattle.linker.specs.Rules.{program_of}
use Rattle.runner.specs.Runners.{MayGo}
use Rattle.machine.specs.Runs.{IsSoundProgram}
use Rattle.eft_top.specs.Causes.{NeedsNoInput}
use Rattle.eft_top.specs.Input.{HasGiven, HasGot}
use Rattle.eft_top.specs.Outcome.{RunsOver}
use Rattle.eft_top.specs.Report.{line_at}
use Rattle.eft_top.specs.Story.{Shows, IsUnitsRun, HasPut, HasBroken}
use Rattle.eft_top.proofs.Reports.{run_shows, run_reads, all_read, needs_input, counted_at}
use Rattle.eft_top.proofs.answer.run.Goals as goal

pub load-requires : goal.load-requires
load-requires g c = subst (λ (us : List AUnit). IsSoundProgram (program_of us c.args.finish)) (sym c.deref.ensures.value) c.requires

pub run-end-requires : goal.run-end-requires
run-end-requires g c =
    let loaded = c.in_ok-runner.ensures in
    subst (MayGo c.in_ok-runner.runner) (sym loaded.fresh.none) loaded.fresh.ready

pub returns-clause-read : goal.returns-clause-read
returns-clause-read g c =
    let streams = c.loaded_runs.ensures _ _ _ _ _ c.args.limit c.in_ok-runner.runner c.run-end.new.self c.run-end.result c.in_ok-runner.ensures c.run-end.ensures in
    run_reads _ _ _ _ _ _ _ _ [] _ _ false _ _ c.run-end.result streams

pub returns-clause-needs : goal.returns-clause-needs
returns-clause-needs g c none = needs_input c.run-end.result (subst NeedsNoInput c.of_end.ensures.status none)

pub returns-clause-all_read : goal.returns-clause-all_read
returns-clause-all_read g c other =
    let streams = c.loaded_runs.ensures _ _ _ _ _ c.args.limit c.in_ok-runner.runner c.run-end.new.self c.run-end.result c.in_ok-runner.ensures c.run-end.ensures in
    all_read _ _ _ _ _ _ _ _ [] _ _ false _ _ c.run-end.result streams (λ e. other (c.of_end.ensures.status ∙ e))

pub returns-clause-shows : goal.returns-clause-shows
returns-clause-shows g c =
    let streams = c.loaded_runs.ensures _ _ _ _ _ c.args.limit c.in_ok-runner.runner c.run-end.new.self c.run-end.result c.in_ok-runner.ensures c.run-end.ensures in
    subst (λ (us : List AUnit).
    Shows (RunsOver c.args.files.items (IsUnitsRun (program_of us c.args.finish) c.args.limit) c.args.limit c.args.count)
    (HasGiven g.S.Source.left g.S.Source.faults c.args.input.now c.run-end.new.input) (HasGot g.S.Source.left c.args.input.now c.run-end.new.input)
    (HasPut g.K.Sink.puts g.K.Sink.faults c.args.out.now c.run-end.new.out) (HasBroken g.K.Sink.puts g.K.Sink.faults c.args.out.now c.run-end.new.out) c.of_end.result)
    c.deref.ensures.value
    (run_shows _ _ _ _ _ _ _ _ c.args.files.items _ c.args.limit c.args.count _ _ c.run-end.result streams c.of_end.result c.of_end.ensures.status
    (c.of_end.ensures.line ∙ ap (λ (l : List ℕ). l ++ line_at c.args.files.items c.args.limit c.run-end.result) (counted_at c.counts_of-counts.result _ c.counts_of-counts.ensures c.run-end.result)))
