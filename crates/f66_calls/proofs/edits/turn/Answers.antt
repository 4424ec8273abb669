-- Why `turn` keeps its clauses.
use Rattle.std.proofs.Common.{rules}
use Rattle.f66_calls.proofs.edits.turn.Goals as goal

pub returns : goal.returns
returns c = search rules
