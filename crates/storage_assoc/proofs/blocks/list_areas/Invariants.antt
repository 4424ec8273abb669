-- The blocks before are listed.
use Rattle.std.proofs.Common.{◌≡◌, ◌||◌, ℕ, List, take, map, Some}
use Rattle.std.specs.List.{list_any}
use Rattle.f66_tree.specs.Views.{area_of}
use Rattle.f66_program.specs.Association.{same_block}
use Rattle.storage_assoc.specs.Listings.{IsListing, has_name}
use Rattle.storage_assoc.proofs.blocks.list_areas.Given as goal

abbrev pub invariant-loop-area : goal.invariant-loop-area
invariant-loop-area l = IsListing 1 l.labels × ((q : List ℕ) → has_name l.labels q ≡ (has_name l.initial.labels q || list_any (λ a. same_block (Some q) a.name) (map area_of (take l.area-index l.areas))))
