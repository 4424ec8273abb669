-- The law, of all decks of sound units.
use Rattle.deck_laws.proofs.SoundDecks.{deck_fits}
use Rattle.deck_laws.proofs.laws.sound_decks_fit.Goals as goal

pub returns : goal.returns
returns c = deck_fits
