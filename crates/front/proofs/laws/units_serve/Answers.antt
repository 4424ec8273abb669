-- The law is a lemma.
use Rattle.front.proofs.ServeUnits.{units_serve}
use Rattle.front.proofs.laws.units_serve.Goals as goal

pub returns : goal.returns
returns c = units_serve
