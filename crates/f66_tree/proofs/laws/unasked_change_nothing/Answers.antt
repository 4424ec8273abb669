-- The law is a lemma of Unasked.
use Rattle.f66_tree.proofs.UnaskedRuns as unasked
use Rattle.f66_tree.proofs.laws.unasked_change_nothing.Goals as goal

pub returns : goal.returns
returns c = unasked.unasked_alone
