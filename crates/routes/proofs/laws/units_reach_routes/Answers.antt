-- Why `units_reach_routes` keeps its clauses.
use Rattle.routes.proofs.Units as units
use Rattle.routes.proofs.laws.units_reach_routes.Goals as goal

pub returns : goal.returns
returns c = units.units_reach
