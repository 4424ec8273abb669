-- One more unit holds a code.
use Rattle.std.proofs.Common.{◌<◌, ◌∙◌, ap, arith, length, set}
use Rattle.runner.proofs.Lettered.{kept_more}
use Rattle.runner.proofs.letters.keep_all.Goals as goal

pub loop-index-preserved : goal.loop-index-preserved
loop-index-preserved c =
    let inside : c.loop-index.index < length c.args.block.now = (let few = c.requires.block in omega (arith, few, c.loop-index-test.true)) in
    let fits : c.loop-index.index < length c.args.units.now = (let few = c.requires.units in omega (arith, few, c.loop-index-test.true)) in
    ap (λ v. set c.loop-index.units c.loop-index.index v) c.slot_with.ensures
    ∙ kept_more c.args.block.now c.loop-index.index c.loop-index.units c.args.units.now c.loop-index.invariant inside fits
