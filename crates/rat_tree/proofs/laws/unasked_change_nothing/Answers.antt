-- Why `unasked_change_nothing` keeps its clauses.
use Rattle.rat_tree.proofs.UnaskedMeanings as unasked
use Rattle.rat_tree.proofs.laws.unasked_change_nothing.Goals as goal

pub returns : goal.returns
returns c = unasked.unasked_alone
