-- The law, of all units.
use Rattle.deck_laws.proofs.SameChecks.{sound_again}
use Rattle.deck_laws.proofs.laws.soundness_asks_no_places.Goals as goal

pub returns : goal.returns
returns c = sound_again
