-- Why `grammar_is_shaped` keeps its clause.
use Rattle.efl_shape.proofs.Derived.{shaped}
use Rattle.efl_shape.proofs.laws.grammar_is_shaped.Goals as goal

pub returns : goal.returns
returns c = λ a x derived. shaped x derived
