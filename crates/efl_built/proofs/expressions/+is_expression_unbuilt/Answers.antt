-- The expressions that hold places and lists.
use Rattle.std.proofs.Common.{refl, sym, ◌∙◌}
use Rattle.efl_built.proofs.BuiltLemmas.{at_unbuilt, up_unbuilt, down_unbuilt, call_unbuilt, assign_unbuilt}
use Rattle.efl_built.proofs.expressions.+is_expression_unbuilt.Goals as goal

pub is_expression_unbuilt-returns-in-At : goal.is_expression_unbuilt-returns-in-At
is_expression_unbuilt-returns-in-At t c = c.is_place_unbuilt.ensures ∙ at_unbuilt c.args.e.now c.in-At.place c.in-At.is

pub is_expression_unbuilt-returns-in-Up : goal.is_expression_unbuilt-returns-in-Up
is_expression_unbuilt-returns-in-Up t c = c.is_target_unbuilt.ensures ∙ up_unbuilt c.args.e.now c.in-Up.place c.in-Up.is

pub is_expression_unbuilt-returns-in-Down : goal.is_expression_unbuilt-returns-in-Down
is_expression_unbuilt-returns-in-Down t c = c.is_target_unbuilt-in-Down.ensures ∙ down_unbuilt c.args.e.now c.in-Down.place c.in-Down.is

pub is_expression_unbuilt-returns-in-Call : goal.is_expression_unbuilt-returns-in-Call
is_expression_unbuilt-returns-in-Call t c = c.are_some_unbuilt.ensures ∙ call_unbuilt c.args.e.now c.in-Call.field-0 c.in-Call.list c.deref.result.now c.in-Call.is c.deref.ensures.value

pub is_expression_unbuilt-returns-then-stored : goal.is_expression_unbuilt-returns-then-stored
is_expression_unbuilt-returns-then-stored t c =
    c.if-stored.true
    ∙ assign_unbuilt c.args.e.now c.in-Assign.field-0 c.in-Assign.place c.in-Assign.a c.in-Assign.a.value _ c.in-Assign.is refl (sym c.is_target_unbuilt-stored.ensures ∙ c.if-stored.true)

pub is_expression_unbuilt-returns-else-stored : goal.is_expression_unbuilt-returns-else-stored
is_expression_unbuilt-returns-else-stored t c =
    c.is_expression_unbuilt-else-stored.ensures
    ∙ assign_unbuilt c.args.e.now c.in-Assign.field-0 c.in-Assign.place c.in-Assign.a c.deref-else-stored.result.now _ c.in-Assign.is c.deref-else-stored.ensures (sym c.is_target_unbuilt-stored.ensures ∙ c.if-stored.false)
