-- One word after another.
use Rattle.std.proofs.Common.{◌≡◌, ◌+◌, ◌<◌, sym, subst, rules, arith}
use Rattle.runner.specs.Frames.{AreHanded}
use Rattle.runner.proofs.FrameArms.{handed_none, handed_more}
use Rattle.runner.proofs.frames.hand_on.Goals as goal

pub loop-index-init : goal.loop-index-init
loop-index-init c = handed_none c.args.stack.now c.args.spots.now c.args.from c.args.base

pub loop-index-preserved : goal.loop-index-preserved
loop-index-preserved c =
    let lt : c.loop-index.index < c.args.count = search rules in
    subst (λ l. AreHanded c.args.stack.now c.args.from (c.loop-index.index + 1) c.args.spots.now l c.args.base) (sym c.put.ensures) (handed_more c.args.stack.now c.args.spots.now c.loop-index.spots c.args.from c.loop-index.index c.args.base c.word_in.result c.loop-index.invariant (omega arith) c.word_in.ensures)

pub returns : goal.returns
returns c =
    let all : c.loop-index.index ≡ c.args.count = search rules in
    subst (λ n. AreHanded c.args.stack.now c.args.from n c.args.spots.now c.loop-index.spots c.args.base) all c.loop-index.invariant
