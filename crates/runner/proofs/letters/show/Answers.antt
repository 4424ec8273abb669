-- One more unit shows its code.
use Rattle.std.proofs.Common.{◌<◌, ◌%◌, arith, length, ◌∙◌}
use Rattle.std.proofs.lemmas.List.{length-set}
use Rattle.runner.proofs.Lettered.{shown_more}
use Rattle.runner.proofs.letters.show.Goals as goal

pub loop-index-preserved : goal.loop-index-preserved
loop-index-preserved c =
    let bits = c.bits-bits.result.0 in
    let long = c.loop-index.invariant.0 in
    let few = c.requires in
    let inside = c.loop-index-test.true in
    let fits : c.loop-index.index < length c.loop-index.block = omega (arith, long, few, inside) in (
      length-set c.loop-index.block c.loop-index.index (bits % 256) ∙ long,
      shown_more c.args.units.now c.loop-index.block c.loop-index.index c.loop-index.all bits c.loop-index.kinds c.bits-bits.result.1 c.index-units-index.result inside fits c.loop-index.invariant.1 c.index-units-index.is c.bits-bits.ensures,
    )
