-- The law is a lemma.
use Rattle.rat_link.proofs.ReadyLemmas.{said_is_ready}
use Rattle.rat_link.proofs.laws.said_is_ready.Goals as goal

pub returns : goal.returns
returns c = said_is_ready
