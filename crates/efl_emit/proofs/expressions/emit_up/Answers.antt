-- A variable with one more.
use Rattle.std.proofs.lemmas.Result.{IfOk-weaker}
use Rattle.efl_emit.proofs.Operands.{up_done}
use Rattle.efl_emit.proofs.expressions.emit_up.Goals as goal

pub returns : goal.returns
returns c = IfOk-weaker c.emit_step.result _ _ (λ r h. up_done h) c.emit_step.ensures
