-- Whether it has a type, and how large it is.
use Rattle.std.proofs.Common.{ap, ◌∙◌}
use Rattle.efl_scope.specs.DataTypes.{is_large}
use Rattle.efl_types.specs.declared.rule.TypeRule.TheVariants.{OutOfProfileType, LargeVariable}
use Rattle.efl_types.specs.Expressions.{when, lacks_type}
use Rattle.efl_expressions.specs.FirstRule.{first_rule}
use Rattle.efl_places.proofs.RuleLemmas.{both_are}
use Rattle.efl_statements.proofs.headers.implicit_rule.Goals as goal

pub returns : goal.returns
returns c = λ f ss v is.
    both_are c.lower.result c.rule_if-missing.result c.rule_if-large.result (when (lacks_type v.kind) OutOfProfileType) (when (is_large v.kind) LargeVariable) c.lower.ensures
    (c.rule_if-missing.ensures ∙ ap (λ b. first_rule (when b OutOfProfileType)) (c.lacks_type.ensures v.kind (c.form.ensures f ss v.kind is)))
    (c.rule_if-large.ensures ∙ ap (λ b. first_rule (when b LargeVariable)) (c.is_large.ensures f v.kind is.told))
