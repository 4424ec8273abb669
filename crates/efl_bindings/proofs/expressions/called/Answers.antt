-- Parentheses behind a name call, where each variable is a scalar.
use Rattle.std.proofs.Common.{ap, ◌∙◌}
use Rattle.efl_bindings.specs.Bindings.{procedure_in}
use Rattle.efl_bindings.proofs.ExpressionLemmas.{called_is}
use Rattle.efl_bindings.proofs.expressions.called.Goals as goal

pub returns : goal.returns
returns c = λ at is. c.procedure.ensures ∙ ap (procedure_in c.args.site.now.procedures.now) c.as_bytes.ensures ∙ called_is at c.args.site.now c.args.name.now is
