-- The law is a lemma.
use Rattle.spared_units.proofs.Wholes.{spared_is_well}
use Rattle.spared_units.proofs.laws.spared_is_well.Goals as goal

pub returns : goal.returns
returns c = spared_is_well
