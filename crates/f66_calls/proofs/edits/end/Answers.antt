-- Why `end` keeps its clauses.
use Rattle.std.proofs.Common.{rules}
use Rattle.f66_calls.proofs.edits.end.Goals as goal

pub returns : goal.returns
returns c = search rules
