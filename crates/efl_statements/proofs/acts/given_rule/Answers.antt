-- By what the procedure gives.
use Rattle.std.proofs.Common.{sym, ap, ◌∙◌}
use Rattle.efl_types.specs.Statements as statements
use Rattle.efl_expressions.specs.FirstRule.{first_rule}
use Rattle.efl_names.specs.NameViews.{result_of}
use Rattle.efl_statements.proofs.acts.given_rule.Goals as goal

pub returns-in-Nothing : goal.returns-in-Nothing
returns-in-Nothing c = λ n e gives form. sym (ap (λ r. first_rule (statements.returns n r e)) (gives ∙ ap result_of c.in-Nothing.is))

pub returns-in-Gives : goal.returns-in-Gives
returns-in-Gives c = λ n e gives form. c.wants.ensures n e form ∙ sym (ap (λ r. first_rule (statements.returns n r e)) (gives ∙ ap result_of c.in-Gives.is))

pub returns-in-Unknown : goal.returns-in-Unknown
returns-in-Unknown c = λ n e gives form. c.wants_single.ensures n e form ∙ sym (ap (λ r. first_rule (statements.returns n r e)) (gives ∙ ap result_of c.in-Unknown.is))
