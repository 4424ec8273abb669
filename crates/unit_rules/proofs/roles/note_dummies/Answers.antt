-- One dummy more.
use Rattle.std.proofs.Common.{arith}
use Rattle.rule_table.proofs.WordLemmas.{place_steps}
use Rattle.unit_rules.proofs.roles.note_dummies.Goals as goal

pub loop-dummy-preserved : goal.loop-dummy-preserved
loop-dummy-preserved c = λ q. grind (arith, place_steps, c.loop-dummy.invariant q)
