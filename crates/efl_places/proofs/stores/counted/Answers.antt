-- What the store breaks, and what the place breaks itself.
use Rattle.ground.specs.declared.value.Kind.TheVariants.{Integer}
use Rattle.std.proofs.Common.{sym}
use Rattle.efl_types.specs.Types.{target_type}
use Rattle.efl_types.specs.Expressions.{store_wants, place_faults}
use Rattle.efl_places.proofs.RuleLemmas.{both_are}
use Rattle.efl_places.proofs.stores.counted.Goals as goal

pub returns-clause-up : goal.returns-clause-up
returns-clause-up c = λ f ss n p is. record {
  form = c.value_form.ensures (target_type n p) (c.stored_form.ensures f ss n p is);
  rule = sym (both_are c.lower.result c.store_rule.result c.args.place.now.rule (store_wants n Integer p) (place_faults n p) c.lower.ensures (c.store_rule.ensures f ss n p is) (sym is.rule));
}

pub returns-clause-down : goal.returns-clause-down
returns-clause-down c = λ f ss n p is. record {
  form = c.value_form.ensures (target_type n p) (c.stored_form.ensures f ss n p is);
  rule = sym (both_are c.lower.result c.store_rule.result c.args.place.now.rule (store_wants n Integer p) (place_faults n p) c.lower.ensures (c.store_rule.ensures f ss n p is) (sym is.rule));
}
