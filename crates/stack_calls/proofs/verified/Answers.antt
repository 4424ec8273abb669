-- Why `verified` keeps its clauses.
use Rattle.std.proofs.Common.{rules}
use Rattle.stack_calls.proofs.verified.Goals as goal

pub returns : goal.returns
returns c = search rules
