-- The law is a lemma.
use Rattle.gathered_tokens.proofs.WrittenTokens as lemmas
use Rattle.gathered_tokens.proofs.laws.gathered_are_written.Goals as goal

pub returns : goal.returns
returns c = lemmas.gathered_are_written
