-- Why `scalar_units_agree` keeps its clause.
use Rattle.efl_lowered.proofs.Labels as agreement
use Rattle.efl_lowered.proofs.laws.scalar_units_agree.Goals as goal

pub returns : goal.returns
returns c = agreement.scalar_units_agree
