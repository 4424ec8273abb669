-- The law is a lemma of EditingLemmas.
use Rattle.f66_tree.proofs.EditingLemmas as editing
use Rattle.f66_tree.proofs.laws.records_stay.Goals as goal

pub returns : goal.returns
returns c = editing.records_stay
