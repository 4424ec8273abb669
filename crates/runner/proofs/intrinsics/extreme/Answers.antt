-- One value after another.
use Rattle.std.proofs.Common.{◌<◌, ◌≤◌, ◌∙◌, ap, rules}
use Rattle.runner.specs.Arguments.{better}
use Rattle.runner.proofs.KnownArms.{extreme_first, extreme_on, extreme_ends}
use Rattle.runner.proofs.intrinsics.extreme.Goals as goal

pub loop-index-init : goal.loop-index-init
loop-index-init c = extreme_first c.args.greatest c.args.stack.now c.args.at c.args.count c.args.first.value

pub loop-index-preserved : goal.loop-index-preserved
loop-index-preserved c =
    let lt : c.loop-index.index < c.args.count = search rules in
    extreme_on c.args.greatest c.args.stack.now c.args.at c.args.count c.loop-index.best.value c.better-best.result.value c.loop-index.index lt (c.better-best.ensures ∙ ap (λ w. better c.args.greatest c.loop-index.best.value w.value) c.word_of.ensures) ∙ c.loop-index.invariant

pub returns : goal.returns
returns c =
    let past : c.args.count ≤ c.loop-index.index = search rules in
    extreme_ends c.args.greatest c.args.stack.now c.args.at c.args.count c.loop-index.best.value c.loop-index.index past ∙ c.loop-index.invariant
