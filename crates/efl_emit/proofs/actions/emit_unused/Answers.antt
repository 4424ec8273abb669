-- The statements of an expression.
use Rattle.efl_emit.proofs.actions.emit_unused.Goals as goal

pub returns : goal.returns
returns c = c.in_ok-emit_expression.ensures.emitted
