-- The law is a lemma.
use Rattle.deck_link.proofs.OneFault.{accepted_has_none}
use Rattle.deck_link.proofs.laws.accepted_has_none.Goals as goal

pub returns : goal.returns
returns c = accepted_has_none
