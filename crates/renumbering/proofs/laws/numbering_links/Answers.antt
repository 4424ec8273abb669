-- Numbers of storage units give a linkage.
use Rattle.renumbering.proofs.NumberedLemmas as lemmas
use Rattle.renumbering.proofs.laws.numbering_links.Goals as goal

pub returns : goal.returns
returns c = lemmas.numbering_links
