-- A variable with one less.
use Rattle.std.proofs.lemmas.Result.{IfOk-weaker}
use Rattle.efl_emit.proofs.Operands.{down_done}
use Rattle.efl_emit.proofs.expressions.emit_down.Goals as goal

pub returns : goal.returns
returns c = IfOk-weaker c.emit_step.result _ _ (λ r h. down_done h) c.emit_step.ensures
