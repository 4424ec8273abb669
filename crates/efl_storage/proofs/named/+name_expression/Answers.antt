-- The expressions and steps that hold places and lists.
use Rattle.std.proofs.Common.{◌++◌, sym, ap, ◌∙◌}
use Rattle.std.proofs.lemmas.List.{append-nil}
use Rattle.std.proofs.lemmas.Result.{on_ok_weaker}
use Rattle.efl_scope.proofs.UseLemmas.{at_uses, up_uses, down_uses, call_uses, assign_uses, member_uses}
use Rattle.efl_tree.specs.Views.{expr_of, exprs_of, place_of}
use Rattle.efl_scope.specs.Uses.{uses_of, uses_of_all, uses_at}
use Rattle.efl_storage.specs.Named.{named_in, texts_of}
use Rattle.efl_storage.proofs.NamedLemmas.{named_joined}
use Rattle.efl_storage.proofs.named.+name_expression.Goals as goal

pub name_expression-returns-in-At : goal.name_expression-returns-in-At
name_expression-returns-in-At t c =
    on_ok_weaker c.name_place.result
    (λ e. e ∙ ap (λ us. texts_of c.args.names.now.items ++ named_in us) (at_uses c.args.e.now c.in-At.place c.in-At.is))
    c.name_place.ensures

pub name_expression-returns-in-Up : goal.name_expression-returns-in-Up
name_expression-returns-in-Up t c =
    on_ok_weaker c.name_place-in-Up.result
    (λ e. e ∙ ap (λ us. texts_of c.args.names.now.items ++ named_in us) (up_uses c.args.e.now c.in-Up.place c.in-Up.is))
    c.name_place-in-Up.ensures

pub name_expression-returns-in-Down : goal.name_expression-returns-in-Down
name_expression-returns-in-Down t c =
    on_ok_weaker c.name_place-in-Down.result
    (λ e. e ∙ ap (λ us. texts_of c.args.names.now.items ++ named_in us) (down_uses c.args.e.now c.in-Down.place c.in-Down.is))
    c.name_place-in-Down.ensures

pub name_expression-returns-in-Call : goal.name_expression-returns-in-Call
name_expression-returns-in-Call t c =
    on_ok_weaker c.name_expressions.result
    (λ e. e ∙ ap (λ us. texts_of c.args.names.now.items ++ named_in us)
    (call_uses c.args.e.now _ c.in-Call.list c.deref.result.now c.in-Call.is c.deref.ensures.value))
    c.name_expressions.ensures

pub name_expression-returns-in_ok-name_place-in-Assign : goal.name_expression-returns-in_ok-name_place-in-Assign
name_expression-returns-in_ok-name_place-in-Assign t c =
    on_ok_weaker c.name_expression-in-Assign.result
    (λ e. e ∙ named_joined (texts_of c.args.names.now.items) _ (uses_at (place_of c.in-Assign.place)) (uses_of (expr_of c.deref-in-Assign.result.now)) c.in_ok-name_place-in-Assign.ensures
    ∙ ap (λ us. texts_of c.args.names.now.items ++ named_in us)
    (assign_uses c.args.e.now _ c.in-Assign.place c.in-Assign.a c.deref-in-Assign.result.now c.in-Assign.is c.deref-in-Assign.ensures))
    c.name_expression-in-Assign.ensures

pub name_step-returns-in-Member : goal.name_step-returns-in-Member
name_step-returns-in-Member t c =
    on_ok_weaker c.name_expressions.result
    (λ e. e ∙ ap (λ us. texts_of c.args.names.now.items ++ named_in us)
    (sym (append-nil (uses_of_all (exprs_of c.deref.result.now))) ∙ member_uses c.args.step.now _ c.in-Member.list c.deref.result.now c.in-Member.is c.deref.ensures.value))
    c.name_expressions.ensures
