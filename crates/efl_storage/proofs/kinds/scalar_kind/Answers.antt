-- By the form of the type.
use Rattle.std.proofs.Common.{ap, ◌∙◌}
use Rattle.efl_storage.proofs.KindLemmas.{kind_by, kind_told}
use Rattle.efl_storage.proofs.kinds.scalar_kind.Goals as goal

pub returns-in-Scalar : goal.returns-in-Scalar
returns-in-Scalar c = λ f ss t is. kind_told t ∙ ap kind_by (c.in-Scalar.ensures f ss t is)
