-- The expressions before are typed.
use Rattle.efl_bindings.proofs.ExpressionLemmas.{TypedSoFar}
use Rattle.efl_bindings.proofs.expressions.+typed_expression.Given as goal

abbrev pub invariant-typed_expressions-loop-e : goal.invariant-typed_expressions-loop-e
invariant-typed_expressions-loop-e l = TypedSoFar l.site l.list l.e-index l.all.items
