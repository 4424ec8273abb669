-- Preset by preset, up to the first one that meets an earlier one.
use Rattle.std.proofs.Common.{◌+◌, drop, map, flat_map, List, ap}
use Rattle.std.proofs.lemmas.List.{drop_all}
use Rattle.efl_tree.specs.Views.{preset_of}
use Rattle.efl_scope.proofs.TreeLemmas.{drop_next}
use Rattle.efl_types.specs.Presets.{Filled, filled}
use Rattle.efl_scoped.specs.Seen.{table_of}
use Rattle.efl_initial_values.specs.Fills.{ends_of}
use Rattle.efl_reading.proofs.PresetLemmas.{next_filled, last_filled, all_filled}
use Rattle.efl_reading.proofs.presets.fill_presets.Goals as goal

pub returns-then-branch : goal.returns-then-branch
returns-then-branch c = λ f n u stands homes areas.
    let l = c.loop-preset in
    let list = c.args.presets.now in
    let p = c.preset-item.result in
    let g = filled c.args.site.now.procedure.now.unit u n in
    let rest : List Filled = flat_map g (map preset_of (drop (l.preset-index + 1) list)) in
    last_filled (table_of c.args.owners.now) (table_of l.owners) (table_of c.fill_preset.new.owners) (ends_of c.args.fills.now.ends) (ends_of l.fills.ends) (ends_of c.fill_preset.new.fills.ends)
    (flat_map g (map preset_of list)) (flat_map g (map preset_of (drop l.preset-index list))) (g (preset_of p)) rest c.in_ok-fill_preset.field-0
    (ap (λ ps. flat_map g (map preset_of ps)) (drop_next list l.preset-index p c.loop-preset-test.true c.preset-item.is)) (l.invariant f n u stands homes areas)
    (c.in_ok-fill_preset.ensures f n u stands homes areas) c.if-branch.true

pub loop-preset-preserved : goal.loop-preset-preserved
loop-preset-preserved c = λ f n u stands homes areas.
    let l = c.loop-preset in
    let list = c.args.presets.now in
    let p = c.preset-item.result in
    let g = filled c.args.site.now.procedure.now.unit u n in
    let rest : List Filled = flat_map g (map preset_of (drop (l.preset-index + 1) list)) in
    next_filled (table_of c.args.owners.now) (table_of l.owners) (table_of c.fill_preset.new.owners) (ends_of c.args.fills.now.ends) (ends_of l.fills.ends) (ends_of c.fill_preset.new.fills.ends)
    (flat_map g (map preset_of list)) (flat_map g (map preset_of (drop l.preset-index list))) (g (preset_of p)) rest c.in_ok-fill_preset.field-0
    (ap (λ ps. flat_map g (map preset_of ps)) (drop_next list l.preset-index p c.loop-preset-test.true c.preset-item.is)) (l.invariant f n u stands homes areas)
    (c.in_ok-fill_preset.ensures f n u stands homes areas) c.if-branch.false

pub returns : goal.returns
returns c = λ f n u stands homes areas.
    let l = c.loop-preset in
    let list = c.args.presets.now in
    let g = filled c.args.site.now.procedure.now.unit u n in
    all_filled (table_of c.args.owners.now) (table_of l.owners) (ends_of c.args.fills.now.ends) (ends_of l.fills.ends) (flat_map g (map preset_of list)) (flat_map g (map preset_of (drop l.preset-index list)))
    (ap (λ ps. flat_map g (map preset_of ps)) (drop_all l.preset-index list c.loop-preset-test.false)) (l.invariant f n u stands homes areas)
