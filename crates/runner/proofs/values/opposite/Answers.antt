-- The other sign.
use Rattle.runner.proofs.Pushes.{opposed_small, opposed_made}
use Rattle.runner.proofs.values.opposite.Goals as goal

pub negative-requires : goal.negative-requires
negative-requires c = opposed_small c.args.x c.requires

pub returns : goal.returns
returns c = opposed_made c.args.x _ c.negative.ensures
