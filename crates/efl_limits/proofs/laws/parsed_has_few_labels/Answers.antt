-- The law is a lemma.
use Rattle.efl_limits.proofs.Bodies.{parsed_has_few_labels}
use Rattle.efl_limits.proofs.laws.parsed_has_few_labels.Goals as goal

pub returns : goal.returns
returns c = parsed_has_few_labels
