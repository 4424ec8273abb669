-- The other truth value.
use Rattle.runner.proofs.Pushes.{denied_made}
use Rattle.runner.proofs.values.denied.Goals as goal

pub returns : goal.returns
returns c = denied_made c.args.x _ _ c.is_true.ensures c.truth.ensures
