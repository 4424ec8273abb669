-- One or the other.
use Rattle.efl_scope.specs.DataTypes.{is_faulty}
use Rattle.efl_expressions.proofs.TypeLemmas.{or_left, or_right}
use Rattle.efl_expressions.proofs.types.is_either_faulty.Goals as goal

pub returns-then-is_faulty : goal.returns-then-is_faulty
returns-then-is_faulty c = λ f t u one two. or_left c.is_faulty.result (is_faulty t) (is_faulty u) c.if-is_faulty.true (c.is_faulty.ensures f t one)

pub returns-else-is_faulty : goal.returns-else-is_faulty
returns-else-is_faulty c = λ f t u one two.
    or_right c.is_faulty.result (is_faulty t) (is_faulty u) c.is_faulty-else-is_faulty.result c.if-is_faulty.false (c.is_faulty.ensures f t one) (c.is_faulty-else-is_faulty.ensures f u two)
