-- The labels before have their sizes.
use Rattle.std.proofs.Common.{map}
use Rattle.std.specs.HashMap.{get_by}
use Rattle.std.specs.Str.{bytes_eq}
use Rattle.storage_rules.specs.Reach.{AreLabelSizes}
use Rattle.storage_rules.proofs.blocks.sizes_of.Given as goal

abbrev pub invariant-loop-k : goal.invariant-loop-k
invariant-loop-k l = AreLabelSizes l.seats l.sizes (map (λ k. k.now) l.labels) l.k (λ q. get_by (λ k. bytes_eq q k.now) l.all)
