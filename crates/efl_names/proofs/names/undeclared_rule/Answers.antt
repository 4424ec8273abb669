-- Both rules.
use Rattle.std.proofs.Common.{sym, ap, ◌∙◌}
use Rattle.efl_scope.specs.DataTypes.{is_large}
use Rattle.efl_types.specs.declared.rule.TypeRule.TheVariants.{OutOfProfileType, LargeVariable}
use Rattle.efl_types.specs.Expressions.{when, lacks_type}
use Rattle.efl_expressions.specs.FirstRule.{or_lower, first_rule}
use Rattle.efl_expressions.proofs.RuleLemmas.{first_of_both}
use Rattle.efl_names.proofs.names.undeclared_rule.Goals as goal

pub returns : goal.returns
returns c = λ f ss t made.
    let missing = when (lacks_type t) OutOfProfileType in
    let large = when (is_large t) LargeVariable in
    c.lower.ensures
    ∙ ap (λ a. or_lower a c.rule_if.result) (c.rule_if-missing.ensures ∙ ap (λ b. first_rule (when b OutOfProfileType)) (c.lacks_type.ensures t (c.form.ensures f ss t made)))
    ∙ ap (or_lower (first_rule missing)) (c.rule_if.ensures ∙ ap (λ b. first_rule (when b LargeVariable)) (c.is_large.ensures f t made.told))
    ∙ sym (first_of_both missing large)
