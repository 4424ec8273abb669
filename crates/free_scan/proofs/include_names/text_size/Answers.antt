-- A byte more of the text is passed.
use Rattle.std.proofs.Common.{arith}
use Rattle.std.proofs.lemmas.Grind.{common_steps}
use Rattle.free_scan.proofs.StepLemmas.{text_size-drop}
use Rattle.free_scan.proofs.include_names.text_size.Goals as goal

pub loop-i-preserved : goal.loop-i-preserved
loop-i-preserved c = grind (arith, common_steps, text_size-drop)
