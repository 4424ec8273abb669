-- The law is a lemma.
use Rattle.rat_room.proofs.UnitCounts.{parsed_has_few_units}
use Rattle.rat_room.proofs.laws.parsed_has_few_units.Goals as goal

pub returns : goal.returns
returns c = parsed_has_few_units
