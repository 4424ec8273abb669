-- Why `accepted_is_scoped` keeps its clause.
use Rattle.efl_typed.proofs.Accepted as accepted
use Rattle.efl_typed.proofs.laws.accepted_is_scoped.Goals as goal

pub returns : goal.returns
returns c = λ p ranks h. accepted.accepted_is_scoped p ranks h
