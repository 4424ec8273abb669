-- By the name, and by what is called.
use Rattle.std.proofs.Common.{◌||◌, not, sym, ap, ◌∙◌}
use Rattle.efl_types.specs.Statements.{may_be_called}
use Rattle.efl_statements.proofs.acts.is_no_act.Goals as goal

pub returns-then-is_variable : goal.returns-then-is_variable
returns-then-is_variable c = λ f n d stands called.
    let is = sym (c.is_variable.ensures f n stands) ∙ c.if-is_variable.true in
    c.if-is_variable.true ∙ sym (ap (λ b. b || not (may_be_called d)) is)

pub returns-else-is_variable : goal.returns-else-is_variable
returns-else-is_variable c = λ f n d stands called.
    let is = sym (c.is_variable.ensures f n stands) ∙ c.if-is_variable.false in
    ap not (c.may_be_called.ensures f c.args.names.now.structures.now.list.items d called) ∙ sym (ap (λ b. b || not (may_be_called d)) is)
