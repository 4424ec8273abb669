-- A value in a temporary of its own.
use Rattle.std.proofs.lemmas.Result.{IfOk-weaker}
use Rattle.efl_emit.proofs.Items.{item_done}
use Rattle.efl_emit.proofs.transfers.emit_value.Goals as goal

pub returns : goal.returns
returns c = IfOk-weaker c.set_temporary.result _ _ (λ r h. item_done c.kind_by.ensures c.in_ok-value.ensures h c.in_ok-whole.ensures) c.set_temporary.ensures
