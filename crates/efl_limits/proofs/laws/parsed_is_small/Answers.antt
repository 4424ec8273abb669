-- The law is a lemma.
use Rattle.efl_limits.proofs.Small.{parsed_is_small}
use Rattle.efl_limits.proofs.laws.parsed_is_small.Goals as goal

pub returns : goal.returns
returns c = parsed_is_small
