-- Whether it is given, and what the value breaks itself.
use Rattle.std.proofs.Common.{sym}
use Rattle.efl_tree.specs.Views.{expr_of}
use Rattle.efl_types.specs.Expressions.{faults}
use Rattle.efl_types.specs.Statements as statements
use Rattle.efl_places.proofs.RuleLemmas.{both_are}
use Rattle.efl_statements.proofs.acts.returned_rule.Goals as goal

pub returns : goal.returns
returns c = λ f n stands.
    let e = expr_of c.args.e.now in
    let is = c.checked-value.ensures f c.args.names.now.structures.now.list.items n e (c.check.ensures f n stands) in
    both_are c.lower.result c.given_rule.result c.checked-value.result.rule (statements.returns n n.result e) (faults n e) c.lower.ensures
    (c.given_rule.ensures n e stands.result is.form) (sym is.rule)
