-- Why `scoped_never_lost` keeps its clauses.
use Rattle.efl_program.proofs.Programs as programs
use Rattle.efl_program.proofs.laws.scoped_never_lost.Goals as goal

pub returns : goal.returns
returns c = λ l bodies h b input. programs.never_lost l bodies h b input
