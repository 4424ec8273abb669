-- Why `copied` keeps its clauses.
use Rattle.std.proofs.Common.{rules}
use Rattle.f66_calls.proofs.trees.copied.Goals as goal

pub returns : goal.returns
returns c = search rules
