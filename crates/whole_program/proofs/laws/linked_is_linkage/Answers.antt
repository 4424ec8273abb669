-- Each table says what a run asks.
use Rattle.whole_program.proofs.LinkageLemmas.{linkage}
use Rattle.whole_program.proofs.laws.linked_is_linkage.Goals as goal

pub returns : goal.returns
returns c = λ l finish w t. linkage l finish w t
