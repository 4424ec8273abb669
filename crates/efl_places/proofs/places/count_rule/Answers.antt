-- No subscripts are never wrong.
use Rattle.std.proofs.Common.{◌&&◌, not, ap, sym, ◌∙◌}
use Rattle.efl_types.specs.declared.rule.TypeRule.TheVariants.{WrongCount}
use Rattle.efl_types.specs.Signatures.{many}
use Rattle.efl_types.specs.Expressions.{when, takes_subscripts}
use Rattle.efl_expressions.specs.FirstRule.{first_rule}
use Rattle.efl_places.proofs.ListLemmas.{none_many, any_many}
use Rattle.efl_places.proofs.places.count_rule.Goals as goal

pub returns-then-count-eq0 : goal.returns-then-count-eq0
returns-then-count-eq0 c = λ f ss t es made count.
    sym (ap (λ b. first_rule (when (b && not (takes_subscripts t (many es))) WrongCount)) (none_many es c.args.count count c.if-count-eq0.true))

pub returns : goal.returns
returns c = λ f ss t es made count.
    c.rule_if.ensures ∙ ap (λ b. first_rule (when (not b) WrongCount)) (c.takes_subscripts.ensures f ss t made ∙ ap (takes_subscripts t) count)
    ∙ sym (ap (λ b. first_rule (when (b && not (takes_subscripts t (many es))) WrongCount)) (any_many es c.args.count count c.if-count-eq0.false))
