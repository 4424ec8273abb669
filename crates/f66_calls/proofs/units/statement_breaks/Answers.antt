-- Why `statement_breaks` keeps its clauses.
use Rattle.std.proofs.Common.{rules}
use Rattle.f66_calls.proofs.units.statement_breaks.Goals as goal

pub returns : goal.returns
returns c = search rules
