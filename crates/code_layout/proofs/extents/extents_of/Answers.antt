-- The dimensions that one statement more gives are noted.
use Rattle.std.proofs.Common.{arith}
use Rattle.rule_table.proofs.WordLemmas.{place_steps}
use Rattle.code_layout.proofs.extents.extents_of.Goals as goal

pub loop-statement-preserved : goal.loop-statement-preserved
loop-statement-preserved c = λ q. grind (arith, place_steps, c.loop-statement.invariant q)
