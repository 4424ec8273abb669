-- Why `lowered` keeps its clauses.
use Rattle.std.proofs.Common.{rules}
use Rattle.rat_calls.proofs.lowered.Goals as goal

pub returns : goal.returns
returns c = search rules
