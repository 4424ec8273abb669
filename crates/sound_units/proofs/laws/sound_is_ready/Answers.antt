-- Why `sound_is_ready` keeps its clause.
use Rattle.sound_units.proofs.ReadyLemmas as ready
use Rattle.sound_units.proofs.laws.sound_is_ready.Goals as goal

pub returns : goal.returns
returns c = ready.sound_is_ready
