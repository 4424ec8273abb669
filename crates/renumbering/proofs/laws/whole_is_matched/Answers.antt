-- A whole program has what the laws ask of it.
use Rattle.renumbering.proofs.NumberLemmas as lemmas
use Rattle.renumbering.proofs.laws.whole_is_matched.Goals as goal

pub returns : goal.returns
returns c = lemmas.whole_is_matched
