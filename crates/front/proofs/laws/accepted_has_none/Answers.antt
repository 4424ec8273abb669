-- An accepted program has no fault.
use Rattle.rat_link.proofs.OneFault as lemmas
use Rattle.front.proofs.laws.accepted_has_none.Goals as goal

pub returns : goal.returns
returns c = lemmas.accepted_has_none
