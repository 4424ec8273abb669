-- The expressions and steps that hold places and lists.
use Rattle.std.proofs.Common.{◌||◌, sym, ap, ◌∙◌}
use Rattle.std.proofs.lemmas.List.Folds.{list_any-append}
use Rattle.std.specs.List.{list_any}
use Rattle.efl_tree.specs.Views.{expr_of, exprs_of, place_of}
use Rattle.efl_scope.specs.Uses.{uses_of, uses_of_all, uses_at}
use Rattle.efl_scope.specs.BlockViews.{known_of}
use Rattle.efl_scope.specs.UseViews.{is_flawed}
use Rattle.efl_scope.proofs.UseLemmas.{at_uses, up_uses, down_uses, call_uses, assign_uses, member_uses, nothing_more}
use Rattle.efl_scope.proofs.uses.+has_flaw.Goals as goal

pub has_flaw-returns-in-At : goal.has_flaw-returns-in-At
has_flaw-returns-in-At t c = c.place_has_flaw.ensures ∙ ap (list_any (is_flawed c.args.flaw (known_of c.args.known.now))) (at_uses c.args.e.now c.in-At.place c.in-At.is)

pub has_flaw-returns-in-Up : goal.has_flaw-returns-in-Up
has_flaw-returns-in-Up t c = c.place_has_flaw-in-Up.ensures ∙ ap (list_any (is_flawed c.args.flaw (known_of c.args.known.now))) (up_uses c.args.e.now c.in-Up.place c.in-Up.is)

pub has_flaw-returns-in-Down : goal.has_flaw-returns-in-Down
has_flaw-returns-in-Down t c = c.place_has_flaw-in-Down.ensures ∙ ap (list_any (is_flawed c.args.flaw (known_of c.args.known.now))) (down_uses c.args.e.now c.in-Down.place c.in-Down.is)

pub has_flaw-returns-in-Call : goal.has_flaw-returns-in-Call
has_flaw-returns-in-Call t c =
    c.call_has_flaw.ensures
    ∙ ap (list_any (is_flawed c.args.flaw (known_of c.args.known.now))) (call_uses c.args.e.now c.in-Call.name c.in-Call.list c.deref.result.now c.in-Call.is c.deref.ensures.value)

pub has_flaw-returns-in-Assign : goal.has_flaw-returns-in-Assign
has_flaw-returns-in-Assign t c =
    let test = is_flawed c.args.flaw (known_of c.args.known.now) in
    let value = uses_of (expr_of c.deref-in-Assign.result.now) in
    c.is_either_flawed.ensures ∙ ap (λ b. b || list_any test value) c.place_has_flaw-stored.ensures
    ∙ sym (list_any-append test (uses_at (place_of c.in-Assign.place)) value)
    ∙ ap (list_any test) (assign_uses c.args.e.now _ c.in-Assign.place c.in-Assign.a c.deref-in-Assign.result.now c.in-Assign.is c.deref-in-Assign.ensures)

pub has_step_flaw-returns-in-Member : goal.has_step_flaw-returns-in-Member
has_step_flaw-returns-in-Member t c =
    c.are_some_flawed.ensures ∙ sym (nothing_more _ (uses_of_all (exprs_of c.deref.result.now)))
    ∙ ap (list_any (is_flawed c.args.flaw (known_of c.args.known.now))) (member_uses c.args.step.now _ c.in-Member.list c.deref.result.now c.in-Member.is c.deref.ensures.value)
