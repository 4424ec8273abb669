-- A whole program of sound units never goes wrong.
use Rattle.linked_soundness.proofs.ProgramLemmas as programs
use Rattle.linked_soundness.proofs.laws.linked_never_wrong.Goals as goal

pub returns : goal.returns
returns c = programs.linked_never_wrong
