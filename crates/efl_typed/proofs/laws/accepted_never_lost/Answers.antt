-- Why `accepted_never_lost` keeps its clause.
use Rattle.efl_typed.proofs.Accepted as accepted
use Rattle.efl_typed.proofs.laws.accepted_never_lost.Goals as goal

pub returns : goal.returns
returns c = λ p ranks h b input. accepted.accepted_never_lost p ranks h b input
