-- Why `places_have_their_numbers` keeps its clause.
use Rattle.efl_typed.proofs.PlacePaths as paths
use Rattle.efl_typed.proofs.laws.places_have_their_numbers.Goals as goal

pub returns : goal.returns
returns c = paths.placed
