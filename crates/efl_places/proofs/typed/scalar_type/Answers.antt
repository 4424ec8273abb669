-- It has no bounds.
use Rattle.std.proofs.Common.{refl}
use Rattle.efl_places.proofs.typed.scalar_type.Goals as goal

pub returns : goal.returns
returns c = λ f ss. record { made = (refl, refl); told = c.summary_of.ensures f }
