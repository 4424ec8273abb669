-- The rules on both operands go before what these break themselves.
use Rattle.std.proofs.Common.{◌≡◌, ◌++◌, sym, ap, subst, ◌∙◌}
use Rattle.efl_types.specs.Expressions.{wants, faults}
use Rattle.efl_expressions.specs.declared.forms.Form.TheVariants as forms
use Rattle.efl_expressions.specs.FirstRule.{or_lower, first_rule}
use Rattle.efl_expressions.proofs.RuleLemmas.{first_of_four}
use Rattle.efl_expressions.proofs.checks.paired.Goals as goal

pub returns : goal.returns
returns c = λ n a b one two.
    let k = c.operand-kind.result in
    let left = c.wants-2.result in
    let right = c.wants.result in
    let own = first_rule (faults n a) in
    let other = first_rule (faults n b) in
    let both : or_lower own other ≡ c.lower.result = ap (λ x. or_lower x other) one.rule ∙ ap (or_lower c.args.left.rule) two.rule ∙ sym c.lower.ensures in
    let all : first_rule (wants n k a ++ wants n k b ++ faults n a ++ faults n b) ≡ c.lower-2.result =
    first_of_four (wants n k a) (wants n k b) (faults n a) (faults n b)
    ∙ ap (λ x. or_lower x (or_lower (first_rule (wants n k b)) (or_lower own other))) (sym (c.wants-2.ensures n a one.form))
    ∙ ap (λ x. or_lower left (or_lower x (or_lower own other))) (sym (c.wants.ensures n b two.form))
    ∙ ap (λ x. or_lower left (or_lower right x)) both
    ∙ ap (or_lower left) (sym c.lower-operands.ensures)
    ∙ sym c.lower-2.ensures in
    record {
      form = ap forms.Scalar (sym c.outcome.ensures);
      rule = subst (λ j. first_rule (wants n j a ++ wants n j b ++ faults n a ++ faults n b) ≡ c.lower-2.result) c.operand-kind.ensures all;
    }
