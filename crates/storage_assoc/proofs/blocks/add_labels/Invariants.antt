-- The blocks that the statements before name are listed.
use Rattle.std.proofs.Common.{◌≡◌, ◌||◌, ℕ, List, take, map, Some}
use Rattle.std.specs.List.{list_any}
use Rattle.f66_tree.specs.Views.{line_of}
use Rattle.f66_program.specs.Linking.{names_block}
use Rattle.storage_assoc.specs.Listings.{IsListing, has_name}
use Rattle.storage_assoc.proofs.blocks.add_labels.Given as goal

abbrev pub invariant-loop-statement : goal.invariant-loop-statement
invariant-loop-statement l = IsListing 1 l.labels × ((q : List ℕ) → has_name l.labels q ≡ (has_name l.initial.labels q || list_any (λ s. names_block (Some q) s.act) (map line_of (take l.statement-index l.statements))))
