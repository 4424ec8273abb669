-- Why `checked_is_ready` keeps its clause.
use Rattle.f66_tree.specs.Views.{routine_of}
use Rattle.sound_units.proofs.ReadyLemmas as ready
use Rattle.sound_units.proofs.laws.checked_is_ready.Goals as goal

pub returns : goal.returns
returns c = ready.sound_is_ready (routine_of c.args.checked.now) c.unit-unit.ensures.sound
