-- A call.
use Rattle.std.proofs.Common.{sym, subst}
use Rattle.std.proofs.lemmas.Result.{IfOk-weaker}
use Rattle.efl_bindings.specs.Typed.{IsAction}
use Rattle.efl_bindings.proofs.ExpressionLemmas.{from_call}
use Rattle.efl_bindings.proofs.expressions.typed_action.Goals as goal

pub returns-in-Call : goal.returns-in-Call
returns-in-Call c =
    let e = from_call c.args.e.now c.in-Call.name c.in-Call.list c.deref.result.now c.in-Call.is c.deref.ensures.value in
    IfOk-weaker c.typed_invocation.result _ _ (λ r h. subst (λ a. IsAction c.args.site.now a r) (sym e) h) c.typed_invocation.ensures
