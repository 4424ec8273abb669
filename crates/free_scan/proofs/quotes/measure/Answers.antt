-- A byte more of the literal is passed.
use Rattle.std.proofs.Common.{arith}
use Rattle.std.proofs.lemmas.Grind.{common_steps}
use Rattle.free_scan.proofs.StepLemmas.{quoted-drop}
use Rattle.free_scan.proofs.quotes.measure.Goals as goal

pub loop-i-preserved : goal.loop-i-preserved
loop-i-preserved c = grind (arith, common_steps, quoted-drop)
