-- Why `meanings_extend` keeps its clauses.
use Rattle.rat_tree.proofs.Widens as widens
use Rattle.rat_tree.proofs.laws.meanings_extend.Goals as goal

pub returns : goal.returns
returns c = widens.meanings_extend
