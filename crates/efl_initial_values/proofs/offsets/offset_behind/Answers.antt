-- The steps lead on, or one leads nowhere.
use Rattle.std.proofs.Common.{arith}
use Rattle.efl_tree.specs.Views.{steps_of}
use Rattle.efl_initial_values.proofs.PlaceLemmas.{steps_begun, step_next, step_none, steps_done}
use Rattle.efl_initial_values.proofs.offsets.offset_behind.Goals as goal

pub loop-step-init : goal.loop-step-init
loop-step-init c = λ f t made. steps_begun f c.args.structures.now.list.items t (steps_of c.args.steps.now) c.args.first made

pub returns-in-None : goal.returns-in-None
returns-in-None c = λ f t made.
    let l = c.loop-step in
    let left = l.invariant f t made in
    step_none f c.args.structures.now.list.items t c.args.first.before (steps_of c.args.steps.now) l.reached c.args.steps.now l.step-index c.step-item.result c.loop-step-test.true c.step-item.is left
    (c.in-None.ensures f left.kind left.is)

pub loop-step-preserved : goal.loop-step-preserved
loop-step-preserved c = λ f t made.
    let l = c.loop-step in
    let left = l.invariant f t made in
    step_next f c.args.structures.now.list.items t c.args.first.before (steps_of c.args.steps.now) l.reached c.in-Some.next c.args.steps.now l.step-index c.step-item.result c.loop-step-test.true c.step-item.is left
    (c.in-Some.ensures f left.kind left.is)

pub returns : goal.returns
returns c = λ f t made.
    let l = c.loop-step in
    steps_done f c.args.structures.now.list.items t c.args.first.before c.min.result (steps_of c.args.steps.now) l.reached c.args.steps.now l.step-index c.loop-step-test.false (l.invariant f t made) (omega (arith, c.min.ensures))
