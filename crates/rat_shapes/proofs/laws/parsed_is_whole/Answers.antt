-- The law is a lemma.
use Rattle.rat_shapes.proofs.WholeUnits as units
use Rattle.rat_shapes.proofs.laws.parsed_is_whole.Goals as goal

pub returns : goal.returns
returns c = units.parsed_is_whole
