-- Preset by preset.
use Rattle.std.proofs.Common.{◌+◌, drop, map, flat_map, List, refl, sym, ap, ◌∙◌}
use Rattle.std.proofs.lemmas.List.{drop_all}
use Rattle.efl_tree.specs.Views.{preset_of}
use Rattle.efl_scope.proofs.TreeLemmas.{drop_next}
use Rattle.efl_types.specs.declared.rule.TypeRule.{TypeRule}
use Rattle.efl_types.specs.Presets.{preset_faults}
use Rattle.efl_expressions.specs.FirstRule.{or_lower, first_rule}
use Rattle.efl_expressions.proofs.RuleLemmas.{first_of_both}
use Rattle.efl_places.proofs.RuleLemmas.{passed, ended}
use Rattle.efl_reading.proofs.presets.own_rules.Goals as goal

pub loop-preset-init : goal.loop-preset-init
loop-preset-init c = λ f n u stands homes areas formals. refl

pub loop-preset-preserved : goal.loop-preset-preserved
loop-preset-preserved c = λ f n u stands homes areas formals.
    let l = c.loop-preset in
    let list = c.args.presets.now in
    let p = c.preset-item.result in
    let g = preset_faults u n c.args.is_outer in
    let rest : List TypeRule = flat_map g (map preset_of (drop (l.preset-index + 1) list)) in
    passed l.rule c.lower-rule.result c.own_rule.result (first_rule (flat_map g (map preset_of (drop l.preset-index list)))) (first_rule rest) (first_rule (flat_map g (map preset_of list)))
    (ap (λ ps. first_rule (flat_map g (map preset_of ps))) (drop_next list l.preset-index p c.loop-preset-test.true c.preset-item.is) ∙ first_of_both (g (preset_of p)) rest
    ∙ ap (λ o. or_lower o (first_rule rest)) (sym (c.own_rule.ensures f n u stands homes areas formals)))
    c.lower-rule.ensures (l.invariant f n u stands homes areas formals)

pub returns : goal.returns
returns c = λ f n u stands homes areas formals.
    let l = c.loop-preset in
    let list = c.args.presets.now in
    let g = preset_faults u n c.args.is_outer in
    ended l.rule (first_rule (flat_map g (map preset_of (drop l.preset-index list)))) (first_rule (flat_map g (map preset_of list)))
    (ap (λ ps. first_rule (flat_map g (map preset_of ps))) (drop_all l.preset-index list c.loop-preset-test.false)) (l.invariant f n u stands homes areas formals)
