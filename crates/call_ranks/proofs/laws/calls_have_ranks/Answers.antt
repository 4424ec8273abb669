-- The ranks of the units count those that their calls come to.
use Rattle.call_ranks.proofs.RankLemmas.{have_ranks}
use Rattle.call_ranks.proofs.laws.calls_have_ranks.Goals as goal

pub returns : goal.returns
returns c = λ rs none. have_ranks rs none
