-- A value, its store, and RETURN.
use Rattle.std.proofs.lemmas.Result.{on_ok_weaker}
use Rattle.efl_emit.proofs.Forms.{given_done}
use Rattle.efl_emit.proofs.actions.emit_given.Goals as goal

pub returns : goal.returns
returns c = on_ok_weaker c.put-2.result (λ h. given_done c.in_ok-value.ensures c.in_ok-name.ensures c.in_ok-given.ensures c.in_ok-put.ensures h) c.put-2.ensures
