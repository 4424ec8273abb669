-- One dimension after another.
use Rattle.std.proofs.Common.{◌<◌, ◌≤◌, ◌∙◌, rules, arith}
use Rattle.runner.proofs.Extents.{product_first, product_on, product_stops, product_ends}
use Rattle.runner.proofs.elements.extent_of.Goals as goal

pub loop-index-init : goal.loop-index-init
loop-index-init c = record { small = omega arith; same = product_first c.args.stack.now c.args.from c.args.count }

pub loop-index-preserved : goal.loop-index-preserved
loop-index-preserved c =
    let lt : c.loop-index.index < c.args.count = search rules in
    record { small = c.in-Some.ensures.small; same = product_on c.args.stack.now c.args.from c.args.count c.loop-index.far c.loop-index.index lt c.in-Some.next c.in-Some.ensures.is ∙ c.loop-index.invariant.same }

pub returns-in-None-clause-is : goal.returns-in-None-clause-is
returns-in-None-clause-is c =
    let lt : c.loop-index.index < c.args.count = search rules in
    product_stops c.args.stack.now c.args.from c.args.count c.loop-index.far c.loop-index.index lt c.in-None.ensures.is ∙ c.loop-index.invariant.same

pub returns-clause-is : goal.returns-clause-is
returns-clause-is c =
    let past : c.args.count ≤ c.loop-index.index = search rules in
    product_ends c.args.stack.now c.args.from c.args.count c.loop-index.far c.loop-index.index past ∙ c.loop-index.invariant.same
