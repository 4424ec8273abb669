-- It has no bounds.
use Rattle.std.proofs.Common.{refl}
use Rattle.efl_expressions.proofs.types.nothing.Goals as goal

pub returns : goal.returns
returns c = λ f ss. record { made = (refl, refl); told = c.no_type.ensures f }
