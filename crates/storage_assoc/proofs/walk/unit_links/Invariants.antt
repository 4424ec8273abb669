-- The statements before have given their links.
use Rattle.std.proofs.Common.{◌≡◌, length, map, take, option_map}
use Rattle.std.specs.HashMap.{get_by}
use Rattle.std.specs.Str.{bytes_eq}
use Rattle.f66_tree.specs.Views.{line_of, par_of}
use Rattle.storage_assoc.specs.Walks.{LinesLinked}
use Rattle.storage_assoc.proofs.walk.unit_links.Given as goal

abbrev pub invariant-loop-statement : goal.invariant-loop-statement
invariant-loop-statement l = record {
  many : length l.fills.items ≡ l.count;
  linked : LinesLinked (λ q. get_by (λ k. bytes_eq q k.now) l.rows) (λ q. get_by (λ k. bytes_eq q k.now) l.blocks) (λ q. option_map (λ ps. map par_of ps.now) (get_by (λ k. bytes_eq q k.now) l.dims)) l.sizes
      (map line_of (take l.statement-index l.statements)) l.fills.items l.links.items l.counts.items;
}
