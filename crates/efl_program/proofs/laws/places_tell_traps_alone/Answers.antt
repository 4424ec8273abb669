-- Why `places_tell_traps_alone` keeps its clauses.
use Rattle.efl_program.proofs.PlacesAlone as places
use Rattle.efl_program.proofs.laws.places_tell_traps_alone.Goals as goal

pub returns : goal.returns
returns c = places.places_alone
