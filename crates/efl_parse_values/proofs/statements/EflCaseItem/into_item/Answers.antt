-- A clause before what follows it.
use Rattle.std.proofs.Common.{ap}
use Rattle.efl_parse_values.proofs.statements.EflCaseItem.into_item.Goals as goal

pub returns : goal.returns
returns c rest = ap (λ f. f rest) c.into_clause.ensures
