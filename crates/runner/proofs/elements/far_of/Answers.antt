-- One subscript after another.
use Rattle.std.proofs.Common.{◌<◌, ◌≤◌, ◌∙◌, rules, arith}
use Rattle.runner.specs.Reaching.{at_first}
use Rattle.runner.proofs.Reached.{reach_first, reach_on, reach_stops, reach_ends}
use Rattle.runner.proofs.elements.far_of.Goals as goal

pub loop-index-init : goal.loop-index-init
loop-index-init c = record { capped = record { far = omega arith; step = omega arith }; same = reach_first c.args.stack.now c.args.count c.args.subscripts c.args.sizes at_first }

pub loop-index-preserved : goal.loop-index-preserved
loop-index-preserved c =
    let lt : c.loop-index.index < c.args.count = search rules in
    record { capped = c.in-Some.ensures.capped; same = reach_on c.args.stack.now c.args.count c.args.subscripts c.args.sizes c.loop-index.reach c.loop-index.index lt c.in-Some.next c.in-Some.ensures.is ∙ c.loop-index.invariant.same }

pub returns-in-None-clause-is : goal.returns-in-None-clause-is
returns-in-None-clause-is c =
    let lt : c.loop-index.index < c.args.count = search rules in
    reach_stops c.args.stack.now c.args.count c.args.subscripts c.args.sizes c.loop-index.reach c.loop-index.index lt c.in-None.ensures.is ∙ c.loop-index.invariant.same

pub returns-clause-is : goal.returns-clause-is
returns-clause-is c =
    let past : c.args.count ≤ c.loop-index.index = search rules in
    reach_ends c.args.stack.now c.args.count c.args.subscripts c.args.sizes c.loop-index.reach c.loop-index.index past ∙ c.loop-index.invariant.same
