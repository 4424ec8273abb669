-- The law is a lemma.
use Rattle.deck_link.proofs.OneFault.{one_first_fault}
use Rattle.deck_link.proofs.laws.one_first_fault.Goals as goal

pub returns : goal.returns
returns c = one_first_fault
