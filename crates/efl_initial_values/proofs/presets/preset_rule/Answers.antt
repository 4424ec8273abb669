-- The place goes first, and its values behind it.
use Rattle.std.proofs.Common.{◌++◌, not, ◌&&◌}
use Rattle.efl_tree.specs.Views.{preset_of}
use Rattle.efl_types.specs.declared.rule.TypeRule.TheVariants.{TypeClash}
use Rattle.efl_types.specs.Signatures.{variable_type}
use Rattle.efl_types.specs.Types.{target_type, is_single}
use Rattle.efl_types.specs.Expressions.{when, place_faults, store_faults}
use Rattle.efl_types.specs.Presets.{first_name, offset}
use Rattle.efl_initial_values.proofs.PresetLemmas.{lower_more, rule_of_preset}
use Rattle.efl_initial_values.proofs.presets.preset_rule.Goals as goal

pub returns : goal.returns
returns c = λ f u n is_outer variable target may place.
    let ss = c.args.structures.now.list.items in
    let p = preset_of c.args.preset.now in
    let t = variable_type n (first_name p.place) in
    let q = target_type n p.place in
    let own = place_faults n p.place ++ store_faults n p.place in
    let unlisted = when (not p.listed && not (is_single q)) TypeClash in
    let first = lower_more own unlisted c.args.place _ _ place (c.unlisted_rule.ensures f ss q target) c.lower-unlisted.ensures in
    rule_of_preset u n is_outer p c.deref.result.now c.deref.ensures.value c.args.may_begin may _
    (c.values_rule.ensures f t q (offset t p.place) (own ++ unlisted) variable target (c.offset-found.ensures f t variable) first)
