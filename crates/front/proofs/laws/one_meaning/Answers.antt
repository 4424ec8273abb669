-- An accepted program has one meaning.
use Rattle.front.proofs.OneMeaning as lemmas
use Rattle.front.proofs.laws.one_meaning.Goals as goal

pub returns : goal.returns
returns c = lemmas.one_meaning
