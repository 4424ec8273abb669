-- The law, of all decks of sound units.
use Rattle.deck_laws.proofs.DecksAgain.{sound_read, sound_accepted}
use Rattle.deck_laws.proofs.laws.sound_decks_are_accepted.Goals as goal

pub returns-clause-read : goal.returns-clause-read
returns-clause-read c = sound_read

pub returns-clause-accepted : goal.returns-clause-accepted
returns-clause-accepted c = sound_accepted
