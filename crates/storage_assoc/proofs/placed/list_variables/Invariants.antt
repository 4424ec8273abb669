-- The variables before are listed.
use Rattle.std.proofs.Common.{◌≡◌, ◌||◌, ◌&&◌, not, ℕ, List, take, map}
use Rattle.std.specs.List.{list_any}
use Rattle.f66_tree.specs.Views.{header_of}
use Rattle.f66_program.specs.Mentions.{is_dummy, is_variable}
use Rattle.f66_mentions.specs.UnitViews.{mention_of}
use Rattle.storage_assoc.specs.Listings.{IsListing, has_name}
use Rattle.storage_assoc.proofs.placed.list_variables.Given as goal

abbrev pub invariant-loop-mention : goal.invariant-loop-mention
invariant-loop-mention l =
    IsListing l.first l.listing
    × ((q : List ℕ) → has_name l.listing q ≡ (has_name l.initial.listing q || (not (is_dummy q (header_of l.names.unit.now.header)) && list_any (is_variable q) (map mention_of (take l.mention-index l.mentions)))))
