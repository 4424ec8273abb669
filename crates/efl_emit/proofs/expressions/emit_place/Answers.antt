-- The value of a variable in a temporary is that of the variable.
use Rattle.std.proofs.lemmas.Result.{IfOk-weaker}
use Rattle.efl_emit.proofs.Operands.{place_done}
use Rattle.efl_emit.proofs.expressions.emit_place.Goals as goal

pub returns : goal.returns
returns c = IfOk-weaker c.load.result _ _ (λ r h. place_done h) c.load.ensures
