-- The law, of all that is read.
use Rattle.deck_laws.proofs.CardBytes.{deck_bytes, small_is_sound}
use Rattle.deck_laws.proofs.laws.small_decks_pass_no_limit.Goals as goal

pub returns-clause-bytes : goal.returns-clause-bytes
returns-clause-bytes c = deck_bytes

pub returns-clause-sound : goal.returns-clause-sound
returns-clause-sound c = small_is_sound
