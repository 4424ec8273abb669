-- The blocks' lists before have given their links.
use Rattle.std.proofs.Common.{◌≡◌, length, map, take}
use Rattle.std.specs.HashMap.{get_by}
use Rattle.std.specs.Str.{bytes_eq}
use Rattle.f66_tree.specs.Views.{area_of}
use Rattle.storage_assoc.specs.Lists.{AreasLinked}
use Rattle.storage_assoc.proofs.commons.area_links.Given as goal

abbrev pub invariant-loop-area : goal.invariant-loop-area
invariant-loop-area l = record {
  many : length l.fills ≡ length l.initial.fills;
  linked : AreasLinked (λ q. get_by (λ k. bytes_eq q k.now) l.rows) (λ q. get_by (λ k. bytes_eq q k.now) l.blocks) l.sizes (map area_of (take l.area-index l.areas)) l.initial.fills l.fills l.initial.links.items l.links.items;
}
