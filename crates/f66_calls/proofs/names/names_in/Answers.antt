-- Why `names_in` keeps its clauses.
use Rattle.std.proofs.Common.{rules}
use Rattle.f66_calls.proofs.names.names_in.Goals as goal

pub returns : goal.returns
returns c = search rules
