-- Why `built_is_over_scalars` keeps its clause.
use Rattle.efl_shape.proofs.Over.{over_scalars}
use Rattle.efl_shape.proofs.laws.built_is_over_scalars.Goals as goal

pub returns : goal.returns
returns c = λ p scopes types_hold built. over_scalars p types_hold built
