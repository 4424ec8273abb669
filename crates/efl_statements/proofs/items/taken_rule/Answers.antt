-- A place of the kind that is edited.
use Rattle.std.proofs.Common.{◌++◌, sym, ap, ◌∙◌}
use Rattle.efl_tree.specs.Views.{place_of, read_item_of}
use Rattle.efl_types.specs.Expressions.{store_wants, place_faults}
use Rattle.efl_types.specs.Statements.{read_faults}
use Rattle.efl_expressions.specs.FirstRule.{first_rule}
use Rattle.efl_statements.proofs.items.taken_rule.Goals as goal

pub returns-in-Take : goal.returns-in-Take
returns-in-Take c = λ f n stands.
    let p = place_of c.in-Take.place in
    c.stored_rule.ensures f n stands ∙ ap (λ k. first_rule (store_wants n k p ++ place_faults n p)) c.edited.ensures
    ∙ sym (ap (λ i. first_rule (read_faults n (read_item_of i))) c.in-Take.is)

pub returns-in-Skip : goal.returns-in-Skip
returns-in-Skip c = λ f n stands. sym (ap (λ i. first_rule (read_faults n (read_item_of i))) c.in-Skip.is)
