-- The law is a lemma.
use Rattle.spared_units.proofs.TwinUnits.{twins_link}
use Rattle.spared_units.proofs.laws.twins_link.Goals as goal

pub returns : goal.returns
returns c = twins_link
