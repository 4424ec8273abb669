-- The actuals, and the call.
use Rattle.std.proofs.lemmas.Result.{on_ok_weaker}
use Rattle.efl_emit.proofs.Forms.{invoke_done}
use Rattle.efl_emit.proofs.actions.emit_invoke.Goals as goal

pub returns : goal.returns
returns c = on_ok_weaker c.put.result (λ h. invoke_done c.args.procedure c.in_ok-actuals.ensures c.in_ok-name.ensures h) c.put.ensures
