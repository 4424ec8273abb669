-- A program of sound units with complete calls never goes wrong.
use Rattle.linked_soundness.proofs.ProgramLemmas as programs
use Rattle.linked_soundness.proofs.laws.complete_never_wrong.Goals as goal

pub returns : goal.returns
returns c = programs.complete_never_wrong
