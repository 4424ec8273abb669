-- The law, of all that is read.
use Rattle.deck.proofs.MainsRead.{mains_read}
use Rattle.deck.proofs.laws.mains_are_read.Goals as goal

pub returns : goal.returns
returns c = mains_read
