-- Why `unasked_change_nothing` keeps its clauses.
use Rattle.efl_program.proofs.UnaskedMeanings as unasked
use Rattle.efl_program.proofs.laws.unasked_change_nothing.Goals as goal

pub returns : goal.returns
returns c = unasked.unasked_alone
