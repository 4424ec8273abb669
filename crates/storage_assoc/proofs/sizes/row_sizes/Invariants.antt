-- The names before have their sizes.
use Rattle.std.proofs.Common.{◌≡◌, ◌++◌, take, map, replicate}
use Rattle.f66_program.specs.Association.{size_in}
use Rattle.f66_mentions.specs.UnitViews.{context_in}
use Rattle.storage_assoc.specs.Listings.{capped}
use Rattle.storage_assoc.proofs.sizes.row_sizes.Given as goal

abbrev pub invariant-loop-name : goal.invariant-loop-name
invariant-loop-name l = l.sizes.items ≡ replicate l.blocks 0 ++ map (λ x. capped (size_in (context_in l.names) x.now)) (take l.name-index l.listed)
