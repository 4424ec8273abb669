-- A condition, and a jump where it holds.
use Rattle.std.proofs.lemmas.Result.{on_ok_weaker}
use Rattle.efl_emit.proofs.Forms.{where_done}
use Rattle.efl_emit.proofs.actions.emit_where.Goals as goal

pub returns : goal.returns
returns c = on_ok_weaker c.put_choice.result (λ h. where_done c.in_ok-value.ensures h c.in_ok-test.ensures) c.put_choice.ensures
