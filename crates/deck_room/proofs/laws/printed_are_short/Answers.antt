-- The law, of all that is printed.
use Rattle.deck_room.proofs.PrintedDecks.{printed_are_short}
use Rattle.deck_room.proofs.laws.printed_are_short.Goals as goal

pub returns : goal.returns
returns c = printed_are_short
