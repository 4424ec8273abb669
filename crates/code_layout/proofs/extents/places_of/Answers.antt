-- One dimension more.
use Rattle.std.proofs.Common.{◌≡◌, ◌*◌, ◌∙◌, rules}
use Rattle.std.specs.Prelude.{unsigned_abs}
use Rattle.code_layout.proofs.ExtentLemmas.{placed_more}
use Rattle.code_layout.proofs.extents.places_of.Goals as goal

pub loop-size-preserved : goal.loop-size-preserved
loop-size-preserved c =
    let more : c.in_ok-product-in-Number.product ≡ c.loop-size.product * unsigned_abs c.in-Number.count = search rules in
    placed_more c.args.sizes.now c.loop-size.size-index c.loop-size.product c.in_ok-product-in-Number.product c.size-item.result c.in-Number.count c.loop-size-test.true c.size-item.is c.in-Number.is more ∙ c.loop-size.invariant
