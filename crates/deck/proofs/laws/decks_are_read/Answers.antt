-- The law, of all that is read.
use Rattle.deck.proofs.DeckLemmas.{printed_deck_read}
use Rattle.deck.proofs.laws.decks_are_read.Goals as goal

pub returns : goal.returns
returns c = printed_deck_read
