-- One value more is counted.
use Rattle.std.proofs.Common.{◌+◌, ap, ◌∙◌, arith}
use Rattle.efl_scoped.specs.Told.{capped}
use Rattle.efl_initial_values.proofs.CountLemmas.{value_counted, values_counted}
use Rattle.efl_initial_values.proofs.counts.count_values.Goals as goal

pub loop-value-preserved : goal.loop-value-preserved
loop-value-preserved c = let l = c.loop-value in value_counted c.args.values.now l.value-index l.count c.add-count.result _ c.loop-value-test.true (c.add-count.ensures ∙ ap (λ n. capped (l.count + n)) c.count_of.ensures) l.invariant

pub returns : goal.returns
returns c = let l = c.loop-value in values_counted c.args.values.now l.value-index l.count c.min.result c.loop-value-test.false l.invariant (omega (arith, c.min.ensures))
