-- One dummy more is noted.
use Rattle.std.proofs.Common.{arith}
use Rattle.rule_table.proofs.WordLemmas.{place_steps}
use Rattle.f66_mentions.proofs.dummies.dummy_table.Goals as goal

pub loop-name-preserved : goal.loop-name-preserved
loop-name-preserved c = λ q. grind (arith, place_steps, c.loop-name.invariant q)
