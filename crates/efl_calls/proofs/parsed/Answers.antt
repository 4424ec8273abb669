-- Why `parsed` keeps its clause.
use Rattle.std.proofs.Common.{rules}
use Rattle.efl_calls.proofs.parsed.Goals as goal

pub returns : goal.returns
returns c = search rules
