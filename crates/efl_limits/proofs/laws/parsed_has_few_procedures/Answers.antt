-- The law is a lemma.
use Rattle.efl_limits.proofs.ProcedureCounts.{parsed_has_few_procedures}
use Rattle.efl_limits.proofs.laws.parsed_has_few_procedures.Goals as goal

pub returns : goal.returns
returns c = parsed_has_few_procedures
