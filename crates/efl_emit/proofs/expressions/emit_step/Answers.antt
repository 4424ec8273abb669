-- A variable with another value, by an operator.
use Rattle.std.proofs.Common.{ap}
use Rattle.f66_tree.specs.Syntax.{Ref}
use Rattle.efl_emit.proofs.Operands.{step_done}
use Rattle.efl_emit.proofs.expressions.emit_step.Goals as goal

pub returns : goal.returns
returns c = step_done c.in_ok-old.ensures (ap Ref c.in_ok-name.ensures) c.in_ok-new.ensures c.in_ok-value.ensures c.in_ok-store.ensures
