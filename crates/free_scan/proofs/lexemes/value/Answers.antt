-- A number past the greatest one stays past it with every digit more.
use Rattle.std.proofs.Common.{arith}
use Rattle.std.proofs.lemmas.Grind.{common_steps}
use Rattle.free_scan.proofs.StepLemmas.{value_after-ge}
use Rattle.free_scan.proofs.lexemes.value.Goals as goal

pub returns-then-value-gt-GREATEST_NUMBER : goal.returns-then-value-gt-GREATEST_NUMBER
returns-then-value-gt-GREATEST_NUMBER c = grind (arith, common_steps, value_after-ge)
