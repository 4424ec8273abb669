-- The law, of all that is printed.
use Rattle.deck_room.proofs.PrintedTexts.{printed_are_few}
use Rattle.deck_room.proofs.laws.printed_are_few.Goals as goal

pub returns : goal.returns
returns c = printed_are_few
