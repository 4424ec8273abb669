-- Why `accepted_is_ready` keeps its clause.
use Rattle.efl_lowered.proofs.TypedReady.{ready_by_checks}
use Rattle.efl_lowered.proofs.laws.accepted_is_ready.Goals as goal

pub returns : goal.returns
returns c = ready_by_checks
