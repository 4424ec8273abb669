-- The place's own rules go first.
use Rattle.std.proofs.Common.{◌≡◌, sym, ap, subst, ◌∙◌}
use Rattle.efl_tree.specs.Views.{preset_of}
use Rattle.efl_scope.specs.Scopes.{meaning}
use Rattle.efl_types.specs.Signatures.{variable_type}
use Rattle.efl_types.specs.Presets.{may_begin}
use Rattle.efl_types.specs.Expressions.{place_faults, store_faults}
use Rattle.efl_expressions.specs.FirstRule.{or_lower, first_rule}
use Rattle.efl_expressions.specs.TypeViews.{IsType}
use Rattle.efl_expressions.proofs.RuleLemmas.{first_of_both}
use Rattle.efl_reading.proofs.presets.own_rule.Goals as goal

pub returns : goal.returns
returns c = λ f n u stands homes areas formals.
    let p = (preset_of c.args.preset.now).place in
    let ss = c.args.names.now.structures.now.list.items in
    let placed = c.check_place-placed.ensures f n stands in
    let own = first_of_both (place_faults n p) (store_faults n p) ∙ ap (λ o. or_lower o (first_rule (store_faults n p))) placed.rule
    ∙ ap (or_lower c.check_place-placed.result.rule) (sym (c.stored_rule.ensures f ss n p placed)) ∙ sym c.lower-place.ensures in
    c.preset_rule.ensures f u n c.args.is_outer (subst (λ x. IsType f ss (variable_type n x) c.variable_type-variable.result) c.as_bytes-name.ensures (c.variable_type-variable.ensures f n stands)) (c.stored_type-target.ensures f ss n p placed) (subst (λ x. may_begin u c.args.is_outer (meaning n.blocks x) ≡ c.may_begin-begins.result) c.as_bytes-name.ensures (c.may_begin-begins.ensures u n.blocks homes areas formals)) own
