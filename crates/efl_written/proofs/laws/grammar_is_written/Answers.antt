-- Why `grammar_is_written` keeps its clause.
use Rattle.efl_written.proofs.Programs.{written}
use Rattle.efl_written.proofs.laws.grammar_is_written.Goals as goal

pub returns : goal.returns
returns c = λ ts tree are derived. written ts tree are derived
