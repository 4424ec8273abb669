-- Where there is one.
use Rattle.std.proofs.Common.{sym, ap, ◌∙◌}
use Rattle.efl_tree.specs.Views.{expr_if_any}
use Rattle.efl_types.specs.Statements as statements
use Rattle.efl_expressions.specs.FirstRule.{first_rule}
use Rattle.efl_statements.proofs.acts.act_if.Goals as goal

pub returns-in-Some : goal.returns-in-Some
returns-in-Some c = λ f n stands. c.act_rule.ensures f n stands ∙ sym (ap (λ o. first_rule (statements.act_if n (expr_if_any o))) c.in-Some.is)
