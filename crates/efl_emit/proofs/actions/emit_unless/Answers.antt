-- A condition, and a jump where it does not hold.
use Rattle.std.proofs.lemmas.Result.{on_ok_weaker}
use Rattle.efl_emit.proofs.Forms.{unless_done}
use Rattle.efl_emit.proofs.actions.emit_unless.Goals as goal

pub returns : goal.returns
returns c = on_ok_weaker c.put_choice.result (λ h. unless_done c.in_ok-value.ensures h c.in_ok-test.ensures) c.put_choice.ensures
