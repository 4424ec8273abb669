-- The first value, the last, and the step.
use Rattle.ground.specs.declared.value.Kind.TheVariants.{Integer}
use Rattle.efl_tree.specs.Views.{expr_of, expr_if_any}
use Rattle.efl_types.specs.Statements.{value_faults, value_if}
use Rattle.efl_places.proofs.RuleLemmas.{both_are, three_are}
use Rattle.efl_statements.proofs.statements.range_rule.Goals as goal

pub returns : goal.returns
returns c = λ f n stands.
    let one = value_faults n Integer (expr_of c.args.first.now) in
    let two = value_faults n Integer (expr_of c.args.last.now) in
    let three = value_if n Integer (expr_if_any c.args.step.now) in
    three_are c.lower.result c.check_value-begin.result c.lower-inner.result one two three c.lower.ensures (c.check_value-begin.ensures f n stands)
    (both_are c.lower-inner.result c.check_value-end.result c.value_if.result two three c.lower-inner.ensures (c.check_value-end.ensures f n stands) (c.value_if.ensures f n stands))
