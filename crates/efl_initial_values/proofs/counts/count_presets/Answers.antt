-- One preset more is counted.
use Rattle.std.proofs.Common.{arith}
use Rattle.efl_initial_values.proofs.CountLemmas.{preset_counted, presets_counted}
use Rattle.efl_initial_values.proofs.counts.count_presets.Goals as goal

pub loop-preset-preserved : goal.loop-preset-preserved
loop-preset-preserved c =
    let l = c.loop-preset in
    preset_counted c.args.presets.now l.preset-index l.count c.count_values.result c.add-count.result c.preset-item.result c.deref.result.now c.loop-preset-test.true c.preset-item.is c.deref.ensures.value c.count_values.ensures c.add-count.ensures l.invariant

pub returns : goal.returns
returns c = let l = c.loop-preset in presets_counted c.args.presets.now l.preset-index l.count c.min.result c.loop-preset-test.false l.invariant (omega (arith, c.min.ensures))
