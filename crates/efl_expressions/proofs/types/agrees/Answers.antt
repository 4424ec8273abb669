-- Without a fault the numbers decide.
use Rattle.std.proofs.Common.{nat_eq, ◌||◌, refl, ◌∙◌}
use Rattle.efl_scope.specs.DataTypes.{is_faulty}
use Rattle.efl_expressions.proofs.TypeLemmas.{or_left, or_right, agree_by}
use Rattle.efl_expressions.proofs.types.agrees.Goals as goal

pub returns-then-is_either_faulty : goal.returns-then-is_either_faulty
returns-then-is_either_faulty c = λ f t u apart one two.
    or_left c.is_either_faulty.result (is_faulty t || is_faulty u) (nat_eq c.args.one.number c.args.other.number) c.if-is_either_faulty.true (c.is_either_faulty.ensures f t u one two)
    ∙ agree_by f t u c.args.one c.args.other apart one two

pub returns-else-is_either_faulty : goal.returns-else-is_either_faulty
returns-else-is_either_faulty c = λ f t u apart one two.
    or_right c.is_either_faulty.result (is_faulty t || is_faulty u) (nat_eq c.args.one.number c.args.other.number) _ c.if-is_either_faulty.false (c.is_either_faulty.ensures f t u one two) refl
    ∙ agree_by f t u c.args.one c.args.other apart one two
