-- Why `checked` keeps its clauses.
use Rattle.std.proofs.Common.{rules}
use Rattle.f66_calls.proofs.checks.checked.Goals as goal

pub returns : goal.returns
returns c = search rules
