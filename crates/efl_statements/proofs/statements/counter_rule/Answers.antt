-- Whether it is an integer, and whether it is declared.
use Rattle.std.proofs.Common.{not, ap, ◌∙◌}
use Rattle.ground.specs.declared.value.Kind.TheVariants.{Integer}
use Rattle.efl_types.specs.declared.rule.TypeRule.TheVariants.{TypeClash}
use Rattle.efl_types.specs.Signatures.{variable_type}
use Rattle.efl_types.specs.Types.{fits}
use Rattle.efl_types.specs.Expressions.{when, variable_faults}
use Rattle.efl_expressions.specs.FirstRule.{first_rule}
use Rattle.efl_places.proofs.RuleLemmas.{both_are}
use Rattle.efl_statements.proofs.statements.counter_rule.Goals as goal

pub returns : goal.returns
returns c = λ f n stands.
    let ss = c.args.names.now.structures.now.list.items in
    let x = c.args.name.now in
    let t = variable_type n x in
    both_are c.lower.result c.rule_if-clash.result c.variable_rule.result (when (not (fits Integer t)) TypeClash) (variable_faults n x) c.lower.ensures
    (c.rule_if-clash.ensures ∙ ap (λ b. first_rule (when (not b) TypeClash)) (c.fits-is_integer.ensures t (c.form.ensures f ss t (c.variable_type.ensures f n stands))))
    (c.variable_rule.ensures f n stands)
