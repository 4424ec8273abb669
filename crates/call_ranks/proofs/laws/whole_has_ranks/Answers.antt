-- A whole program has no cycle of calls.
use Rattle.call_ranks.proofs.RankLemmas.{whole_ranks}
use Rattle.call_ranks.proofs.laws.whole_has_ranks.Goals as goal

pub returns : goal.returns
returns c = λ p w. whole_ranks p w
