-- The law is a lemma.
use Rattle.rat_linked.proofs.Programs.{made_are_whole}
use Rattle.rat_linked.proofs.laws.made_are_whole.Goals as goal

pub returns : goal.returns
returns c = made_are_whole
