-- The laws, of all legal decks.
use Rattle.legal_decks.proofs.Linkages.{legal_is_sound, legal_is_well, legal_is_whole}
use Rattle.legal_decks.proofs.laws.legal_is_whole.Goals as goal

pub returns : goal.returns
returns c = record { sound = legal_is_sound; well = legal_is_well; whole = legal_is_whole }
