-- A constant again, or a default again.
use Rattle.std.proofs.Common.{◌&&◌, ◌||◌, ap, ◌∙◌}
use Rattle.efl_types.specs.declared.rule.TypeRule.TheVariants.{DuplicateCase}
use Rattle.efl_types.specs.Expressions.{when}
use Rattle.efl_types.specs.Statements.{chosen_again}
use Rattle.efl_expressions.specs.FirstRule.{first_rule}
use Rattle.efl_statements.proofs.clauses.clause_rule.Goals as goal

pub returns-clause-first : goal.returns-clause-first
returns-clause-first c = λ before seen are.
    let added = c.in_ok-again.ensures before are.has in
    let twice = c.are_both-twice.ensures ∙ ap (λ b. c.args.is_default && b) are.default_seen in
    c.rule_if.ensures
    ∙ ap (λ b. first_rule (when b DuplicateCase))
    (c.is_either-broken.ensures ∙ ap (λ b. b || c.are_both-twice.result) added.told ∙ ap (λ b. chosen_again before c.args.constants.now || b) twice)

pub returns-clause-chosen : goal.returns-clause-chosen
returns-clause-chosen c = λ before seen are. record {
  has = (c.in_ok-again.ensures before are.has).has;
  default_seen = c.is_either-seen.ensures ∙ ap (λ b. b || c.args.is_default) are.default_seen;
}
