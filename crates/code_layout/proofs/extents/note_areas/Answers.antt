-- The dimensions of one list more are noted.
use Rattle.std.proofs.Common.{◌∙◌, ap, sym, map, take}
use Rattle.std.specs.List.{flat_map}
use Rattle.std.specs.Option.{option_or}
use Rattle.rule_table.specs.Words.{find_map}
use Rattle.f66_tree.specs.Views.{declared_of, area_of}
use Rattle.f66_mentions.specs.Dimensions.{given_by}
use Rattle.f66_mentions.proofs.DimensionLemmas.{found_more, noted_more}
use Rattle.code_layout.proofs.extents.note_areas.Goals as goal

pub loop-area-preserved : goal.loop-area-preserved
loop-area-preserved c = λ q.
    let before = find_map (given_by q) (flat_map (λ a. a.list) (map area_of (take c.loop-area.area-index c.args.areas.now))) in
    noted_more _ _ _ _ _ _ (c.in_ok-note_list.ensures q) (c.loop-area.invariant q)
    (found_more (given_by q) (λ a. a.list) area_of c.args.areas.now c.loop-area.area-index c.area-item.result c.loop-area-test.true c.area-item.is
    ∙ ap (λ ds. option_or before (find_map (given_by q) (map declared_of ds))) (sym c.deref.ensures.value))
