-- The law is a lemma.
use Rattle.gathered_tokens.proofs.Counted as lemmas
use Rattle.gathered_tokens.proofs.laws.gathered_are_few.Goals as goal

pub returns : goal.returns
returns c = lemmas.gathered_are_few
