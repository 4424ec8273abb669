-- A call, a clash of both sides, and what these break themselves.
use Rattle.std.proofs.Common.{not, sym, ap, ◌∙◌}
use Rattle.efl_types.specs.declared.rule.TypeRule.TheVariants.{TypeClash}
use Rattle.efl_types.specs.Types.{type_of, target_type, fit_sides}
use Rattle.efl_types.specs.Expressions.{when, store_faults, place_faults, faults}
use Rattle.efl_expressions.specs.FirstRule.{first_rule}
use Rattle.efl_places.proofs.RuleLemmas.{both_are, three_are, four_are}
use Rattle.efl_places.proofs.stores.assigned_plainly.Goals as goal

pub returns : goal.returns
returns c = λ f ss n p a is value.
    let t = target_type n p in
    let u = type_of n a in
    let target = c.stored_form-target.ensures f ss n p is in
    let clash = c.rule_if-clash.ensures ∙ ap (λ b. first_rule (when (not b) TypeClash)) (c.fit_sides.ensures t u target value.form) in
    let inner = both_are c.lower-inner.result c.args.place.now.rule c.args.value.rule (place_faults n p) (faults n a) c.lower-inner.ensures (sym is.rule) (sym value.rule) in
    let sides = when (not (fit_sides t u)) TypeClash in
    let rest = three_are c.lower.result c.rule_if-clash.result c.lower-inner.result sides (place_faults n p) (faults n a) c.lower.ensures clash inner in
    record {
      form = c.value_form.ensures t target;
      rule = sym (four_are c.lower-2.result c.call_rule.result c.lower.result (store_faults n p) sides (place_faults n p) (faults n a) c.lower-2.ensures (c.call_rule.ensures f ss n p is) rest);
    }
