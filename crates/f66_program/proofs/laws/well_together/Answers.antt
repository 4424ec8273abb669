-- A bad way over the whole program is one within a unit.
use Rattle.f66_program.proofs.ProgramLemmas as program
use Rattle.f66_program.proofs.laws.well_together.Goals as goal

pub returns : goal.returns
returns c = program.well_together
