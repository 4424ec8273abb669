-- The law is a lemma.
use Rattle.rat_linked.proofs.Programs.{made_are_well}
use Rattle.rat_linked.proofs.laws.made_are_well.Goals as goal

pub returns : goal.returns
returns c = made_are_well
