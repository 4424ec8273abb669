-- By the form.
use Rattle.std.proofs.Common.{sym, subst}
use Rattle.efl_expressions.specs.TypeViews.{IsType}
use Rattle.efl_places.proofs.TypedLemmas.{scalar_form, no_scalar}
use Rattle.efl_places.proofs.typed.value_of.Goals as goal

pub returns-in-Scalar : goal.returns-in-Scalar
returns-in-Scalar c = λ f ss t single form.
    subst (λ u. IsType f ss u c.scalar_type.result) (sym (scalar_form t c.args.value c.in-Scalar.kind form c.in-Scalar.is)) (c.scalar_type.ensures f ss)

pub returns-in_default : goal.returns-in_default
returns-in_default c = λ f ss t single form.
    subst (λ u. IsType f ss u c.nothing.result) (sym (no_scalar t c.args.value c.in_default.not-Scalar single form)) (c.nothing.ensures f ss)
