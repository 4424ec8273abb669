-- The expressions and steps that hold places and lists.
use Rattle.std.proofs.Common.{sym, ap, ◌∙◌}
use Rattle.std.proofs.lemmas.Result.{on_ok_weaker}
use Rattle.efl_scope.proofs.UseLemmas.{at_uses, up_uses, down_uses, call_uses, assign_uses, member_uses}
use Rattle.efl_tree.specs.Views.{expr_of, exprs_of, place_of}
use Rattle.efl_scope.specs.Uses.{uses_of, uses_of_all, uses_at}
use Rattle.efl_whole.specs.Calls.{using_all}
use Rattle.efl_whole.specs.CallViews.{calls_of, site_of}
use Rattle.efl_whole.proofs.UseLemmas.{using_all-append, nothing_more}
use Rattle.efl_whole.proofs.expressions.+add_expression.Goals as goal

pub add_expression-returns-in-At : goal.add_expression-returns-in-At
add_expression-returns-in-At t c =
    on_ok_weaker c.add_place.result
    (λ e. e ∙ ap (λ us. using_all (site_of c.args.site.now) c.args.place us (calls_of c.args.calls.now)) (at_uses c.args.e.now c.in-At.variable c.in-At.is))
    c.add_place.ensures

pub add_expression-returns-in-Up : goal.add_expression-returns-in-Up
add_expression-returns-in-Up t c =
    on_ok_weaker c.add_place-in-Up.result
    (λ e. e ∙ ap (λ us. using_all (site_of c.args.site.now) c.args.place us (calls_of c.args.calls.now)) (up_uses c.args.e.now c.in-Up.variable c.in-Up.is))
    c.add_place-in-Up.ensures

pub add_expression-returns-in-Down : goal.add_expression-returns-in-Down
add_expression-returns-in-Down t c =
    on_ok_weaker c.add_place-in-Down.result
    (λ e. e ∙ ap (λ us. using_all (site_of c.args.site.now) c.args.place us (calls_of c.args.calls.now)) (down_uses c.args.e.now c.in-Down.variable c.in-Down.is))
    c.add_place-in-Down.ensures

pub add_expression-returns-in-Call : goal.add_expression-returns-in-Call
add_expression-returns-in-Call t c =
    on_ok_weaker c.add_call.result
    (λ e. e ∙ ap (λ us. using_all (site_of c.args.site.now) c.args.place us (calls_of c.args.calls.now))
    (call_uses c.args.e.now c.in-Call.name c.in-Call.list c.deref.result.now c.in-Call.is c.deref.ensures.value))
    c.add_call.ensures

pub add_expression-returns-in_ok-add_place-in-Assign : goal.add_expression-returns-in_ok-add_place-in-Assign
add_expression-returns-in_ok-add_place-in-Assign t c =
    let s = site_of c.args.site.now in
    let value = uses_of (expr_of c.deref-in-Assign.result.now) in
    on_ok_weaker c.add_expression-in-Assign.result
    (λ e. e ∙ ap (using_all s c.args.place value) c.in_ok-add_place-in-Assign.ensures ∙ sym (using_all-append s c.args.place (uses_at (place_of c.in-Assign.variable)) value (calls_of c.args.calls.now))
    ∙ ap (λ us. using_all s c.args.place us (calls_of c.args.calls.now))
    (assign_uses c.args.e.now _ c.in-Assign.variable c.in-Assign.a c.deref-in-Assign.result.now c.in-Assign.is c.deref-in-Assign.ensures))
    c.add_expression-in-Assign.ensures

pub add_step-returns-in-Member : goal.add_step-returns-in-Member
add_step-returns-in-Member t c =
    let s = site_of c.args.site.now in
    on_ok_weaker c.add_expressions.result
    (λ e. e ∙ nothing_more s c.args.place (uses_of_all (exprs_of c.deref.result.now)) (calls_of c.args.calls.now)
    ∙ ap (λ us. using_all s c.args.place us (calls_of c.args.calls.now)) (member_uses c.args.step.now _ c.in-Member.list c.deref.result.now c.in-Member.is c.deref.ensures.value))
    c.add_expressions.ensures
