-- The statements of an expression are those of its parts, in their order.
use Rattle.std.proofs.Common.{◌+◌, ◌∙◌, ap, sym, subst, arith}
use Rattle.std.proofs.lemmas.Result.{IfOk-weaker}
use Rattle.f66_tree.specs.Syntax as f66
use Rattle.efl_typed_tree.specs.Views.{op_of}
use Rattle.efl_emit.specs.Names.{emission_of}
use Rattle.efl_emit.specs.Parts.{IsEvaluated}
use Rattle.efl_room.proofs.Rows.{from_call, from_known, next_expr, last_expr, expr_size}
use Rattle.efl_room.proofs.Sizes.{size_of}
use Rattle.efl_emit.proofs.Operands.{group_done, plus_done, minus_done, not_done, pair_done, store_done, change_done, plain_done, last_done, sequential_done, call_done, known_done, item_is}
use Rattle.efl_emit.proofs.Lists.{all_more, all_over, actuals_more, actuals_over, actual_value}
use Rattle.efl_emit.proofs.expressions.+emit.Goals as goal

pub emit_group-returns : goal.emit_group-returns
emit_group-returns t c = IfOk-weaker c.emit_expression.result _ _ (λ r h. group_done h) c.emit_expression.ensures

pub emit_plus-returns : goal.emit_plus-returns
emit_plus-returns t c = IfOk-weaker c.set_temporary.result _ _ (λ r h. plus_done c.in_ok-a.ensures h (ap f66.Plus c.in_ok-boxed_operand.ensures)) c.set_temporary.ensures

pub emit_minus-returns : goal.emit_minus-returns
emit_minus-returns t c = IfOk-weaker c.set_temporary.result _ _ (λ r h. minus_done c.in_ok-a.ensures h (ap f66.Minus c.in_ok-boxed_operand.ensures)) c.set_temporary.ensures

pub emit_not-returns : goal.emit_not-returns
emit_not-returns t c = IfOk-weaker c.set_temporary.result _ _ (λ r h. not_done c.in_ok-a.ensures h c.in_ok-value.ensures) c.set_temporary.ensures

pub emit_pair-returns : goal.emit_pair-returns
emit_pair-returns t c = IfOk-weaker c.emit_combined.result _ _ (λ r h. pair_done c.in_ok-left.ensures h) c.emit_combined.ensures

pub emit_store-returns : goal.emit_store-returns
emit_store-returns t c = store_done c.in_ok-value.ensures c.in_ok-store.ensures

pub emit_change-returns : goal.emit_change-returns
emit_change-returns t c = change_done c.in_ok-old.ensures c.in_ok-value.ensures c.in_ok-store.ensures

pub emit_plain-returns : goal.emit_plain-returns
emit_plain-returns t c = IfOk-weaker c.set_temporary.result _ _ (λ r h. plain_done c.given_by.ensures c.in_ok-right.ensures h c.in_ok-value.ensures) c.set_temporary.ensures

pub emit_last-returns : goal.emit_last-returns
emit_last-returns t c = IfOk-weaker c.set_temporary.result _ _ (λ r h. last_done c.in_ok-right.ensures h c.in_ok-value.ensures) c.set_temporary.ensures

pub emit_sequential-returns : goal.emit_sequential-returns
emit_sequential-returns t c =
    sequential_done (op_of c.args.op) c.requires (c.in_ok-target.ensures ∙ ap (λ m. c.args.number + m) c.in_ok-made.ensures) c.in_ok-first.ensures c.in_ok-value.ensures c.in_ok-label.ensures c.in_ok-put_choice.ensures c.in_ok-test.ensures
    c.in_ok-last.ensures c.in_ok-put_here.ensures

pub emit_call-returns : goal.emit_call-returns
emit_call-returns t c = IfOk-weaker c.set_temporary.result _ _ (λ r h. call_done c.in_ok-actuals.ensures h (item_is c.in_ok-applied.ensures c.in_ok-name.ensures c.in_ok-list.ensures)) c.set_temporary.ensures

pub emit_known-returns : goal.emit_known-returns
emit_known-returns t c = IfOk-weaker c.set_gathered.result _ _ (λ r h. known_done c.in_ok-all.ensures h) c.set_gathered.ensures

pub emit_all-loop-e-preserved : goal.emit_all-loop-e-preserved
emit_all-loop-e-preserved t c =
    let next = next_expr c.args.list.now c.loop-e.e-index c.e-item.result c.loop-e-test.true c.e-item.is in
    all_more _ next c.loop-e.invariant c.in_ok-value.ensures c.in_ok-push.ensures.items c.in_ok-operand_expr.ensures

pub emit_all-returns : goal.emit_all-returns
emit_all-returns t c = all_over (last_expr c.args.list.now c.loop-e.e-index c.loop-e-test.false) c.loop-e.invariant

pub emit_actuals-loop-e-preserved : goal.emit_actuals-loop-e-preserved
emit_actuals-loop-e-preserved t c =
    let next = next_expr c.args.list.now c.loop-e.e-index c.e-item.result c.loop-e-test.true c.e-item.is in
    actuals_more next c.loop-e.invariant c.in_ok-actual.ensures c.in_ok-push.ensures.items

pub emit_actuals-returns : goal.emit_actuals-returns
emit_actuals-returns t c = actuals_over (last_expr c.args.list.now c.loop-e.e-index c.loop-e-test.false) c.loop-e.invariant

pub emit_actual-returns-in_ok-operand-in-None : goal.emit_actual-returns-in_ok-operand-in-None
emit_actual-returns-in_ok-operand-in-None t c = actual_value c.place_in.result c.in-None.is c.place_in.ensures c.in_ok-value-in-None.ensures (ap f66.Group c.in_ok-operand-in-None.ensures)

pub emit_expression-returns-in-Call : goal.emit_expression-returns-in-Call
emit_expression-returns-in-Call t c =
    let e = from_call _ _ _ _ _ c.in-Call.is c.deref.ensures.value in
    IfOk-weaker c.emit_call.result _ _ (λ r h. subst (λ v. IsEvaluated c.args.naming.now c.args.place v c.args.number r (emission_of c.args.out.now) (emission_of c.emit_call.new.out)) (sym e) h) c.emit_call.ensures

pub emit_expression-returns-in-Known : goal.emit_expression-returns-in-Known
emit_expression-returns-in-Known t c =
    let e = from_known _ _ _ _ c.in-Known.is c.deref-in-Known.ensures.value in
    IfOk-weaker c.emit_known.result _ _ (λ r h. subst (λ v. IsEvaluated c.args.naming.now c.args.place v c.args.number r (emission_of c.args.out.now) (emission_of c.emit_known.new.out)) (sym e) h) c.emit_known.ensures

pub emit_expression-emit_call-requires : goal.emit_expression-emit_call-requires
emit_expression-emit_call-requires t c =
    let e = ap size_of (from_call _ _ _ _ _ c.in-Call.is c.deref.ensures.value) in
    (omega (arith, e), tt)

pub emit_expression-emit_known-requires : goal.emit_expression-emit_known-requires
emit_expression-emit_known-requires t c =
    let e = ap size_of (from_known _ _ _ _ c.in-Known.is c.deref-in-Known.ensures.value) in
    (omega (arith, e), tt)

pub emit_all-emit_expression-requires : goal.emit_all-emit_expression-requires
emit_all-emit_expression-requires t c =
    let size = expr_size c.args.list.now c.loop-e.e-index c.e-item.result c.loop-e-test.true c.e-item.is in
    (omega (arith, size), tt)

pub emit_actuals-emit_actual-requires : goal.emit_actuals-emit_actual-requires
emit_actuals-emit_actual-requires t c =
    let size = expr_size c.args.list.now c.loop-e.e-index c.e-item.result c.loop-e-test.true c.e-item.is in
    (omega (arith, size), tt)
