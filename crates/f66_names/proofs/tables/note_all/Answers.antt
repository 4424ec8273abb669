-- The value is noted for the names before.
use Rattle.std.proofs.Common.{arith}
use Rattle.rule_table.proofs.WordLemmas.{place_steps}
use Rattle.f66_names.proofs.tables.note_all.Goals as goal

pub loop-declared-preserved : goal.loop-declared-preserved
loop-declared-preserved g c = λ q. grind (arith, place_steps, c.loop-declared.invariant q)
