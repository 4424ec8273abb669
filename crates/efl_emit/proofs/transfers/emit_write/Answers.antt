-- The unit, the items, and WRITE with its format.
use Rattle.std.proofs.Common.{refl}
use Rattle.std.proofs.lemmas.Result.{on_ok_weaker}
use Rattle.efl_emit.proofs.Items.{write_done}
use Rattle.efl_emit.proofs.transfers.emit_write.Goals as goal

pub returns : goal.returns
returns c = on_ok_weaker c.put_labelled.result (λ h. write_done refl refl c.in_ok-unit.ensures c.in_ok-list.ensures c.in_ok-label.ensures c.in_ok-put_write.ensures c.in_ok-fields.ensures h) c.put_labelled.ensures
