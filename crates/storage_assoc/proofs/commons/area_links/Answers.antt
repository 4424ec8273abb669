-- One list more gives its links, and fills its block.
use Rattle.std.proofs.Common.{◌≡◌, ◌<◌, ◌∙◌, ℕ, List, length, map, take, arith, Option}
use Rattle.std.proofs.lemmas.Grind.{common_steps}
use Rattle.std.proofs.lemmas.List.{length-set}
use Rattle.std.specs.HashMap.{get_by}
use Rattle.std.specs.Str.{bytes_eq}
use Rattle.f66_tree.specs.Views.{area_of}
use Rattle.storage_assoc.proofs.AreaLemmas.{areas_more}
use Rattle.storage_assoc.proofs.ListLemmas.{taken_more}
use Rattle.storage_assoc.specs.Lists.{block_by}
use Rattle.storage_assoc.proofs.commons.area_links.Goals as goal

pub loop-area-preserved : goal.loop-area-preserved
loop-area-preserved c =
    let v = c.loop-area.invariant in
    let areas = c.args.areas.now in
    let i = c.loop-area.area-index in
    let e = taken_more area_of areas i c.area-item.result c.loop-area-test.true c.area-item.is in
    let find : List ℕ → Option ℕ = λ q. get_by (λ k. bytes_eq q k.now) c.args.rows.now in
    let blocks : List ℕ → Option ℕ = λ q. get_by (λ k. bytes_eq q k.now) c.args.blocks.now in
    let inside : block_by blocks c.area-item.result.name < length c.loop-area.fills = rw v.many (c.requires.blocks c.area-item.result.name) in
    record {
      many = length-set _ _ _ ∙ v.many;
      linked = rw (e, c.row_of_block-block.ensures) (areas_more find blocks c.args.sizes.now (map area_of (take i areas)) (area_of c.area-item.result) _ c.loop-area.fills _ c.loop-area.links.items _ c.in_ok-end.end
          inside v.linked (rw (c.row_of_block-block.ensures, c.deref.ensures.value) at c.in_ok-end.ensures));
    }

pub returns-clause-linked : goal.returns-clause-linked
returns-clause-linked c =
    let areas = c.args.areas.now in
    let end : take c.loop-area.area-index areas ≡ areas = grind (arith, common_steps) in
    rw end at c.loop-area.invariant.linked
