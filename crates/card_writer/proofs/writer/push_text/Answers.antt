-- Each turn adds a column, and before it a continuation's first columns where a card is full.
use Rattle.std.proofs.Common.{arith, rules}
use Rattle.std.proofs.lemmas.Grind.{common_steps}
use Rattle.card_writer.proofs.writer.push_text.Goals as goal

pub loop-c-init : goal.loop-c-init
loop-c-init c = search rules

pub loop-c-preserved : goal.loop-c-preserved
loop-c-preserved c = grind (arith, common_steps)
