-- The law is a lemma of PlacesAlone.
use Rattle.f66_tree.proofs.PlacesAlone as places
use Rattle.f66_tree.proofs.laws.places_tell_traps_alone.Goals as goal

pub returns : goal.returns
returns c = places.places_alone
