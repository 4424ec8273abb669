-- The law, of all that is read.
use Rattle.deck.proofs.ActsRead.{act_read}
use Rattle.deck.proofs.laws.statements_are_read.Goals as goal

pub returns : goal.returns
returns c = act_read
