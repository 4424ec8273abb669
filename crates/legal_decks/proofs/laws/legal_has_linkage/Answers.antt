-- The law, of all legal decks.
use Rattle.legal_decks.proofs.Linkages.{legal_has_linkage}
use Rattle.legal_decks.proofs.laws.legal_has_linkage.Goals as goal

pub returns : goal.returns
returns c = legal_has_linkage
