-- A value of the kind that is edited.
use Rattle.std.proofs.Common.{sym, ap, ◌∙◌}
use Rattle.efl_tree.specs.Views.{expr_of, write_item_of}
use Rattle.efl_types.specs.Statements.{value_faults, written_faults}
use Rattle.efl_expressions.specs.FirstRule.{first_rule}
use Rattle.efl_statements.proofs.items.written_rule.Goals as goal

pub returns-in-Value : goal.returns-in-Value
returns-in-Value c = λ f n stands.
    c.check_value.ensures f n stands ∙ ap (λ k. first_rule (value_faults n k (expr_of c.in-Value.e))) c.edited.ensures
    ∙ sym (ap (λ i. first_rule (written_faults n (write_item_of i))) c.in-Value.is)

pub returns-in-Skip : goal.returns-in-Skip
returns-in-Skip c = λ f n stands. sym (ap (λ i. first_rule (written_faults n (write_item_of i))) c.in-Skip.is)

pub returns-in-Chars : goal.returns-in-Chars
returns-in-Chars c = λ f n stands. sym (ap (λ i. first_rule (written_faults n (write_item_of i))) c.in-Chars.is)
