-- Why `steps_in` keeps its clauses.
use Rattle.std.proofs.Common.{drop, sym, ◌∙◌}
use Rattle.eft_top.proofs.StepNumbers.{too_many}
use Rattle.eft_top.proofs.numbers.steps_in.Goals as goal

pub returns-then-steps-gt-MOST_STEPS : goal.returns-then-steps-gt-MOST_STEPS
returns-then-steps-gt-MOST_STEPS c =
    sym (c.loop-digit.invariant ∙ too_many c.loop-digit.steps (drop c.loop-digit.digit-index c.args.word.now) c.if-steps-gt-MOST_STEPS.true)
