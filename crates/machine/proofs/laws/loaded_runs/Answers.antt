-- The law.
use Rattle.machine.proofs.Streaming as streaming
use Rattle.machine.proofs.laws.loaded_runs.Goals as goal

pub returns : goal.returns
returns g c = λ i0 i1 o0 o1 made steps old new end loaded run. streaming.loaded_runs _ _ _ _ i0 i1 o0 o1 made steps old new end loaded run
