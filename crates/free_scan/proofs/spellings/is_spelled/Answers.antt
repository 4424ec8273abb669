-- Characters that end too early do not spell it.
use Rattle.std.proofs.Common.{arith}
use Rattle.std.proofs.lemmas.Grind.{common_steps}
use Rattle.free_scan.proofs.StepLemmas.{is_spelled-short}
use Rattle.free_scan.proofs.spellings.is_spelled.Goals as goal

pub returns-then-i-characters-clause-value : goal.returns-then-i-characters-clause-value
returns-then-i-characters-clause-value c = grind (arith, common_steps, is_spelled-short)
