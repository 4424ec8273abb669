-- The class of one use more.
use Rattle.std.proofs.Common.{arith}
use Rattle.rule_table.proofs.WordLemmas.{place_steps}
use Rattle.unit_rules.proofs.roles.note_used.Goals as goal

pub loop-used-preserved : goal.loop-used-preserved
loop-used-preserved c = λ q. grind (arith, place_steps, c.loop-used.invariant q)
