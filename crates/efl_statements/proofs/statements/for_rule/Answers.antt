-- The first act, the condition, and the step.
use Rattle.ground.specs.declared.value.Kind.TheVariants.{Logical}
use Rattle.efl_tree.specs.Views.{expr_if_any}
use Rattle.efl_types.specs.Statements.{act_if, value_if}
use Rattle.efl_places.proofs.RuleLemmas.{both_are, three_are}
use Rattle.efl_statements.proofs.statements.for_rule.Goals as goal

pub returns : goal.returns
returns c = λ f n stands.
    let one = act_if n (expr_if_any c.args.first.now) in
    let two = value_if n Logical (expr_if_any c.args.test.now) in
    let three = act_if n (expr_if_any c.args.step.now) in
    three_are c.lower.result c.act_if-begin.result c.lower-inner.result one two three c.lower.ensures (c.act_if-begin.ensures f n stands)
    (both_are c.lower-inner.result c.value_if.result c.act_if-last.result two three c.lower-inner.ensures (c.value_if.ensures f n stands) (c.act_if-last.ensures f n stands))
