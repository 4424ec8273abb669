-- The law is a lemma.
use Rattle.efl_limits.proofs.Stored.{grammar_has_little_storage}
use Rattle.efl_limits.proofs.laws.grammar_has_little_storage.Goals as goal

pub returns : goal.returns
returns c = grammar_has_little_storage
