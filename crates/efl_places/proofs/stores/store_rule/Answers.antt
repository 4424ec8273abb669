-- A call, and then a clash.
use Rattle.std.proofs.Common.{not, ap, ◌∙◌}
use Rattle.efl_types.specs.declared.rule.TypeRule.TheVariants.{TypeClash}
use Rattle.efl_types.specs.Types.{target_type, fits}
use Rattle.efl_types.specs.Expressions.{when, store_faults}
use Rattle.efl_expressions.specs.FirstRule.{first_rule}
use Rattle.efl_places.proofs.RuleLemmas.{both_are}
use Rattle.efl_places.proofs.stores.store_rule.Goals as goal

pub returns : goal.returns
returns c = λ f ss n p is.
    let t = target_type n p in
    both_are c.lower.result c.call_rule.result c.rule_if-clash.result (store_faults n p) (when (not (fits c.args.kind t)) TypeClash) c.lower.ensures (c.call_rule.ensures f ss n p is)
    (c.rule_if-clash.ensures ∙ ap (λ b. first_rule (when (not b) TypeClash)) (c.fits.ensures t (c.stored_form.ensures f ss n p is)))
