-- Why `scalar_programs_agree` keeps its clauses.
use Rattle.efl_routes.proofs.Agrees as agreement
use Rattle.efl_routes.proofs.laws.scalar_programs_agree.Goals as goal

pub returns : goal.returns
returns c = agreement.scoped_agrees
