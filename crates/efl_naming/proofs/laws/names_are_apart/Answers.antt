-- Why `names_are_apart` keeps its clause.
use Rattle.efl_naming.proofs.Apart.{all_apart}
use Rattle.efl_naming.proofs.laws.names_are_apart.Goals as goal

pub returns : goal.returns
returns c = all_apart
