-- What a runner of linked units does.
use Rattle.std.specs.Prelude.{ℕ, List, Option}
use Rattle.f66_program.specs.Linking.{Program}
use Rattle.runner.specs.declared.run.End.{End}
use Rattle.runner.specs.declared.runner.Runner.{Runner}
use Rattle.runner.specs.Runners.{IsFresh, IsRun}
use Rattle.machine.specs.Runs.{Codes}
use Rattle.machine.specs.Streams.{StreamsTo}

-- it has the code of these units, and all that a run needs, which has not begun
pub record IsLoaded (made : Program) (steps : ℕ) (r : Runner) : Type 0 where
  pub codes : Codes made r.code
  pub fresh : IsFresh r.code steps r

-- its run is the units' own
abbrev pub LoadedRuns : {S K : Type 0} → (S → Option (List ℕ)) → (K → List ℕ → K → Type 0) → (S → ℕ) → (K → ℕ) → S → S → K → K → Type 0
LoadedRuns left puts faults failures i0 i1 o0 o1 =
    (made : Program) (steps : ℕ) (old new : Runner) (end : End) → IsLoaded made steps old → IsRun left puts faults failures i0 i1 o0 o1 old new end → StreamsTo left puts faults failures i0 i1 o0 o1 made steps new.begun new.executed end
