-- The number of the variable.
use Rattle.efl_bindings.proofs.sites.variable_number.Goals as goal

pub returns : goal.returns
returns c = λ at is. (c.typed_variable.ensures at is).number
