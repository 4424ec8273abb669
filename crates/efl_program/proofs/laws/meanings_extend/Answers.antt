-- Why `meanings_extend` keeps its clauses.
use Rattle.efl_program.proofs.Widens as widens
use Rattle.efl_program.proofs.laws.meanings_extend.Goals as goal

pub returns : goal.returns
returns c = widens.meanings_extend
