-- One more is noted.
use Rattle.std.proofs.Common.{arith}
use Rattle.rule_table.proofs.WordLemmas.{place_steps}
use Rattle.unit_rules.proofs.tables.note_areas.Goals as goal

pub loop-area-preserved : goal.loop-area-preserved
loop-area-preserved c = λ q. grind (arith, place_steps, c.loop-area.invariant q)
