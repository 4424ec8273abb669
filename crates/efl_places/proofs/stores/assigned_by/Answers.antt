-- What the store breaks, a clash of the value, and what both break themselves.
use Rattle.std.proofs.Common.{◌≡◌, ◌++◌, sym, subst}
use Rattle.efl_types.specs.Types.{target_type}
use Rattle.efl_types.specs.Expressions.{wants, store_wants, place_faults, faults}
use Rattle.efl_expressions.specs.FirstRule.{first_rule}
use Rattle.efl_places.proofs.RuleLemmas.{both_are, three_are, four_are}
use Rattle.efl_places.proofs.stores.assigned_by.Goals as goal

pub returns : goal.returns
returns c = λ f ss n p a is value.
    let k = c.operand-kind.result in
    let inner = both_are c.lower-inner.result c.args.place.now.rule c.args.value.rule (place_faults n p) (faults n a) c.lower-inner.ensures (sym is.rule) (sym value.rule) in
    let rest = three_are c.lower.result c.wants-clash.result c.lower-inner.result (wants n k a) (place_faults n p) (faults n a) c.lower.ensures (c.wants-clash.ensures n a value.form) inner in
    let all = four_are c.lower-2.result c.store_rule.result c.lower.result (store_wants n k p) (wants n k a) (place_faults n p) (faults n a) c.lower-2.ensures (c.store_rule.ensures f ss n p is) rest in
    record {
      form = c.value_form.ensures (target_type n p) (c.stored_form.ensures f ss n p is);
      rule = subst (λ j. first_rule (store_wants n j p ++ wants n j a ++ place_faults n p ++ faults n a) ≡ c.lower-2.result) c.operand-kind.ensures (sym all);
    }
