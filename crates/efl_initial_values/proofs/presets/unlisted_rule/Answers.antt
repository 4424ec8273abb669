-- It is a TypeClash.
use Rattle.std.proofs.Common.{ap, ◌∙◌}
use Rattle.efl_types.specs.declared.rule.TypeRule.TheVariants.{TypeClash}
use Rattle.efl_types.specs.Expressions.{when}
use Rattle.efl_expressions.specs.FirstRule.{first_rule}
use Rattle.efl_initial_values.proofs.presets.unlisted_rule.Goals as goal

pub returns : goal.returns
returns c = λ f ss t made. c.rule_if.ensures ∙ ap (λ b. first_rule (when b TypeClash)) (c.is_unlisted.ensures f ss t made)
