-- The typed trees of expressions, by those of their parts.
use Rattle.std.proofs.Common.{◌==◌, length, sym, ap, subst, ◌∙◌}
use Rattle.std.proofs.lemmas.Result.{IfOk-weaker}
use Rattle.efl_tree.specs.Syntax.{Call}
use Rattle.efl_tree.specs.Views.{exprs_of, steps_of}
use Rattle.efl_typed.specs.Typing.{intrinsic}
use Rattle.efl_bindings.specs.Typed.{IsTyped}
use Rattle.efl_bindings.proofs.ExpressionLemmas.{from_at, from_call, up_is, down_is, assigned_is, known_is, call_is, subscripted_is, expressions_more}
use Rattle.efl_bindings.proofs.expressions.+typed_expression.Goals as goal

pub typed_expression-returns-in-At : goal.typed_expression-returns-in-At
typed_expression-returns-in-At t c =
    IfOk-weaker c.typed_value.result _ _ (λ r h. subst (λ a. IsTyped c.args.site.now a r) (sym (from_at c.args.e.now c.in-At.place c.in-At.is)) h) c.typed_value.ensures

pub typed_expression-returns-in-Call : goal.typed_expression-returns-in-Call
typed_expression-returns-in-Call t c =
    let e = from_call c.args.e.now c.in-Call.name c.in-Call.list c.deref.result.now c.in-Call.is c.deref.ensures.value in
    IfOk-weaker c.typed_call.result _ _ (λ r h. subst (λ a. IsTyped c.args.site.now a r) (sym e) h) c.typed_call.ensures

pub typed_expression-returns-in-Up : goal.typed_expression-returns-in-Up
typed_expression-returns-in-Up t c = up_is c.args.site.now c.args.e.now c.in-Up.place c.typed_target.result c.in-Up.is c.typed_target.ensures

pub typed_expression-returns-in-Down : goal.typed_expression-returns-in-Down
typed_expression-returns-in-Down t c = down_is c.args.site.now c.args.e.now c.in-Down.place c.typed_target-in-Down.result c.in-Down.is c.typed_target-in-Down.ensures

pub typed_expression-returns-in_ok-a-in-Assign : goal.typed_expression-returns-in_ok-a-in-Assign
typed_expression-returns-in_ok-a-in-Assign t c =
    let i = c.in-Assign in
    assigned_is c.args.site.now c.args.e.now c.deref-in-Assign.result.now i.op i.place i.a c.typed_op_if_any.result c.typed_target-in-Assign.result c.in_ok-a-in-Assign.a i.is c.deref-in-Assign.ensures
    c.typed_op_if_any.ensures c.typed_target-in-Assign.ensures c.in_ok-a-in-Assign.ensures

pub typed_call-returns-in-None : goal.typed_call-returns-in-None
typed_call-returns-in-None t c = λ at is built.
    known_is at c.args.name.now c.intrinsic.result c.in_ok-list.list (exprs_of c.args.list.now) (c.in-None.ensures at is) (c.intrinsic.ensures ∙ ap intrinsic c.as_bytes.ensures)
    (c.in_ok-list.ensures at is built)

pub typed_call-returns-in-Some : goal.typed_call-returns-in-Some
typed_call-returns-in-Some t c = λ at is built.
    call_is at c.args.name.now c.in-Some.number c.in-Some.kind c.in_ok-list.list (exprs_of c.args.list.now) (c.in-Some.ensures at is) (c.in_ok-list.ensures at is built)

pub typed_expressions-loop-e-preserved : goal.typed_expressions-loop-e-preserved
typed_expressions-loop-e-preserved t c =
    expressions_more c.args.site.now c.args.list.now c.loop-e.e-index c.e-item.result c.loop-e.all.items c.push.new.self.items c.in_ok-typed_expression.field-0 c.loop-e-test.true c.e-item.is
    c.loop-e.invariant c.in_ok-typed_expression.ensures c.in_ok-push.ensures.items

pub typed_value-returns : goal.typed_value-returns
typed_value-returns t c =
    let p = c.args.place.now in
    IfOk-weaker c.typed_call.result _ _
    (λ r h at is built. subscripted_is at c.args.site.now p.first p.subscripts.items (steps_of p.steps.items) r c.is_empty.result c.if-is_empty.false
    (c.is_empty.ensures ∙ ap (λ n. n == 0) (sym (ap length (sym c.deref.ensures.value) ∙ c.deref.ensures.len))) is
    (λ b. subst (λ all. IsTyped c.args.site.now (Call p.first (exprs_of all)) r) c.deref.ensures.value h at is b) built)
    c.typed_call.ensures
