-- The law is a lemma.
use Rattle.rat_linked.proofs.Proper.{clean_is_proper}
use Rattle.rat_linked.proofs.laws.clean_is_proper.Goals as goal

pub returns : goal.returns
returns c = clean_is_proper
