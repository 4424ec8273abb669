-- A clause, before whatever follows it.
use Rattle.std.proofs.Common.{ap}
use Rattle.efl_parse_values.specs.Values.{clause}
use Rattle.efl_parse_statements.proofs.statements.clause_value.Goals as goal

pub returns : goal.returns
returns c = ap clause c.clause.ensures
