-- An expression that is there.
use Rattle.std.proofs.lemmas.Result.{IfOk-weaker}
use Rattle.efl_emit.proofs.Forms.{some_done}
use Rattle.efl_emit.proofs.actions.emit_some.Goals as goal

pub returns : goal.returns
returns c = IfOk-weaker c.emit_expression.result _ _ (λ r h. some_done h) c.emit_expression.ensures
