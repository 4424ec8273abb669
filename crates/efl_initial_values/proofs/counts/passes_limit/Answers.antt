-- Up to the limit the sums are exact.
use Rattle.std.proofs.Common.{◌∙◌}
use Rattle.efl_initial_values.proofs.CountLemmas.{limit_passed}
use Rattle.efl_initial_values.proofs.counts.passes_limit.Goals as goal

pub returns : goal.returns
returns c = λ m n one two. c.is_passed.ensures ∙ limit_passed m n c.args.before c.args.more c.add.result one two c.add.ensures
