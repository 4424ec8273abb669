-- The limit, the step and the first value, in this order.
use Rattle.efl_emit.proofs.Forms.{start_done}
use Rattle.efl_emit.proofs.starts.emit_start.Goals as goal

pub returns : goal.returns
returns c = start_done c.in_ok-limit.ensures c.in_ok-by.ensures c.in_ok-first.ensures c.in_ok-store.ensures
