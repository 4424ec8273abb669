-- Why `paths_have_their_numbers` keeps its clause.
use Rattle.efl_typed.proofs.Layouts as layouts
use Rattle.efl_typed.proofs.laws.paths_have_their_numbers.Goals as goal

pub returns : goal.returns
returns c = layouts.numbered
