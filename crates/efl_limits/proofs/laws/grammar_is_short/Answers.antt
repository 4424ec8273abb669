-- The law is a lemma.
use Rattle.efl_limits.proofs.DeckBytes.{grammar_is_short}
use Rattle.efl_limits.proofs.laws.grammar_is_short.Goals as goal

pub returns : goal.returns
returns c = grammar_is_short
