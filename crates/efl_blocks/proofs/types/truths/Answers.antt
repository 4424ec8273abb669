-- It has no bounds.
use Rattle.std.proofs.Common.{refl}
use Rattle.efl_scoped.specs.Seen.{table_of}
use Rattle.efl_blocks.proofs.types.truths.Goals as goal

pub returns : goal.returns
returns c = λ y. record { made = (refl, refl); told = c.logical.ensures (table_of y.numbers) }
