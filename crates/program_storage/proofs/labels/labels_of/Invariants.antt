-- The blocks of the units before are listed.
use Rattle.std.proofs.Common.{◌≡◌, ℕ, List, take, map, Some}
use Rattle.std.specs.List.{list_any}
use Rattle.f66_tree.specs.Views.{routine_of}
use Rattle.f66_program.specs.Linking.{unit_names_block}
use Rattle.storage_assoc.specs.Listings.{IsListing, has_name}
use Rattle.program_storage.proofs.labels.labels_of.Given as goal

abbrev pub invariant-loop-unit : goal.invariant-loop-unit
invariant-loop-unit l = IsListing 1 l.labels × ((q : List ℕ) → has_name l.labels q ≡ list_any (unit_names_block (Some q)) (map routine_of (take l.unit-index l.units)))
