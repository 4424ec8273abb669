-- The last of the range is the greatest.
use Rattle.efl_initial_values.proofs.FillLemmas.{none_before, one_before}
use Rattle.efl_initial_values.proofs.fills.Fills.last_before.Goals as goal

pub returns-in-None : goal.returns-in-None
returns-in-None c = none_before c.args.self.now.ends c.args.owner c.args.place ((c.range.ensures.in_range tt).5 c.in-None.ensures.steps.0)

pub returns-in-Some : goal.returns-in-Some
returns-in-Some c =
    let range = c.range.ensures.in_range tt in
    let key = c.in-Some._first.now in
    one_before c.args.self.now.ends c.args.owner c.args.place key.0 key.1 c.in-Some.end.now (range.3 _ _ c.in-Some.ensures.steps) (range.4 _ _ c.in-Some.ensures.steps)
