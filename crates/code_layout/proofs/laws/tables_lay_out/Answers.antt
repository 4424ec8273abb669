-- Number by number.
use Rattle.code_layout.proofs.SpreadLemmas.{laid_out}
use Rattle.code_layout.proofs.laws.tables_lay_out.Goals as goal

pub returns : goal.returns
returns c = λ t m rank presets is. laid_out t m rank presets is
