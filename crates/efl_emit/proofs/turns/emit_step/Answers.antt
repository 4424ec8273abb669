-- The step of a `do`.
use Rattle.std.proofs.lemmas.Result.{on_ok_weaker}
use Rattle.std.proofs.Common.{ap}
use Rattle.f66_tree.specs.Syntax.{Ref}
use Rattle.efl_emit.proofs.Forms.{next_done}
use Rattle.efl_emit.proofs.turns.emit_step.Goals as goal

pub returns : goal.returns
returns c = on_ok_weaker c.store.result (λ h. next_done c.args.naming.now c.args.variable c.in_ok-value.ensures (ap Ref c.in_ok-name.ensures) c.in_ok-next.ensures c.in_ok-sum.ensures h) c.store.ensures
