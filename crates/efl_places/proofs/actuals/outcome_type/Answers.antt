-- By what is given.
use Rattle.std.proofs.Common.{sym, subst}
use Rattle.efl_types.specs.Signatures.{gives_type}
use Rattle.efl_expressions.specs.TypeViews.{IsType}
use Rattle.efl_names.specs.NameViews.{result_of}
use Rattle.efl_places.proofs.actuals.outcome_type.Goals as goal

pub returns-in-Gives : goal.returns-in-Gives
returns-in-Gives c = λ f ss. subst (λ o. IsType f ss (gives_type (result_of o)) c.scalar_type.result) (sym c.in-Gives.is) (c.scalar_type.ensures f ss)

pub returns-in-Nothing : goal.returns-in-Nothing
returns-in-Nothing c = λ f ss. subst (λ o. IsType f ss (gives_type (result_of o)) c.nothing.result) (sym c.in-Nothing.is) (c.nothing.ensures f ss)

pub returns-in-Unknown : goal.returns-in-Unknown
returns-in-Unknown c = λ f ss. subst (λ o. IsType f ss (gives_type (result_of o)) c.nothing-in-Unknown.result) (sym c.in-Unknown.is) (c.nothing-in-Unknown.ensures f ss)
