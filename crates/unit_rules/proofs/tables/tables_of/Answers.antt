-- The tables have what one statement more says.
use Rattle.std.proofs.Common.{arith}
use Rattle.rule_table.proofs.WordLemmas.{place_steps}
use Rattle.unit_rules.proofs.tables.tables_of.Goals as goal

pub loop-i-preserved : goal.loop-i-preserved
loop-i-preserved c = (
  λ q. grind (arith, place_steps, c.loop-i.invariant.0 q),
  λ q. grind (arith, place_steps, c.loop-i.invariant.1 q),
  λ q. grind (arith, place_steps, c.loop-i.invariant.2 q),
  λ q. grind (arith, place_steps, c.loop-i.invariant.3 q),
)
