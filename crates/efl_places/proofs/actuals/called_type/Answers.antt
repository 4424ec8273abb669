-- By what is called.
use Rattle.std.proofs.Common.{sym, subst, ap, ◌∙◌}
use Rattle.efl_types.specs.Signatures.{called_type, gives_type}
use Rattle.efl_expressions.specs.TypeViews.{IsType}
use Rattle.efl_places.proofs.CallLemmas.{missing_is, intrinsic_is, procedure_is}
use Rattle.efl_places.proofs.actuals.called_type.Goals as goal

pub returns-in-Procedure : goal.returns-in-Procedure
returns-in-Procedure c = λ f ss d called.
    let is = procedure_is f ss d c.args.callee.now c.in-Procedure.field-0 c.in-Procedure.outcome called c.in-Procedure.is in
    subst (λ t. IsType f ss t c.outcome_type.result) (sym (ap called_type is.is ∙ ap gives_type is.result)) (c.outcome_type.ensures f ss)

pub returns-in-Intrinsic : goal.returns-in-Intrinsic
returns-in-Intrinsic c = λ f ss d called.
    subst (λ t. IsType f ss t c.scalar_type.result) (sym (ap called_type (intrinsic_is f ss d c.args.callee.now c.in-Intrinsic.field-0 called c.in-Intrinsic.is))) (c.scalar_type.ensures f ss)

pub returns-in-Missing : goal.returns-in-Missing
returns-in-Missing c = λ f ss d called.
    subst (λ t. IsType f ss t c.nothing.result) (sym (ap called_type (missing_is f ss d c.args.callee.now called c.in-Missing.is))) (c.nothing.ensures f ss)
