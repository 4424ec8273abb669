-- Whether it may be a statement, and its actuals.
use Rattle.std.proofs.Common.{◌||◌, not, ap, ◌∙◌}
use Rattle.efl_tree.specs.Views.{exprs_of}
use Rattle.efl_types.specs.declared.rule.TypeRule.TheVariants.{TypeClash}
use Rattle.efl_types.specs.Signatures.{callee, is_variable}
use Rattle.efl_types.specs.Expressions.{when, actual_faults, faults_of_all}
use Rattle.efl_types.specs.Statements.{may_be_called}
use Rattle.efl_expressions.specs.FirstRule.{first_rule}
use Rattle.efl_places.proofs.RuleLemmas.{three_are}
use Rattle.efl_statements.proofs.acts.invoke_rule.Goals as goal

pub returns : goal.returns
returns c = λ f n stands.
    let x = c.args.name.now in
    let es = exprs_of c.args.list.now in
    let d = callee n x in
    let called = c.callee-callee.ensures f n stands in
    three_are c.lower.result c.rule_if-clash.result c.check_actuals-actuals.result (when (is_variable n x || not (may_be_called d)) TypeClash) (actual_faults n d es) (faults_of_all n es)
    c.lower.ensures (c.rule_if-clash.ensures ∙ ap (λ b. first_rule (when b TypeClash)) (c.is_no_act.ensures f n d stands called)) (c.check_actuals-actuals.ensures f n d stands called)
