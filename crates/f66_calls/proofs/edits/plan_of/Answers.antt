-- Why `plan_of` keeps its clauses.
use Rattle.std.proofs.Common.{rules}
use Rattle.f66_calls.proofs.edits.plan_of.Goals as goal

pub returns : goal.returns
returns c = search rules
