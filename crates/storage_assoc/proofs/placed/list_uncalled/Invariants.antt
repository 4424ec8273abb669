-- The names of the declarations before are listed.
use Rattle.std.proofs.Common.{◌≡◌, ◌||◌, ◌&&◌, not, ℕ, List, take, map}
use Rattle.std.specs.HashMap.{get_by}
use Rattle.std.specs.List.{list_any}
use Rattle.std.specs.Str.{bytes_eq}
use Rattle.f66_tree.specs.Views.{declared_of, header_of}
use Rattle.f66_program.specs.Mentions.{is_dummy}
use Rattle.storage_assoc.specs.Listings.{IsListing, has_name}
use Rattle.storage_assoc.specs.Placing.{is_none}
use Rattle.storage_assoc.proofs.placed.list_uncalled.Given as goal

abbrev pub invariant-loop-declared : goal.invariant-loop-declared
invariant-loop-declared l =
    IsListing l.first l.listing
    × ((q : List ℕ) → has_name l.listing q ≡ (has_name l.initial.listing q || (not (is_dummy q (header_of l.names.unit.now.header))
    && (is_none (get_by (λ k. bytes_eq q k.now) l.called) && list_any (λ d. bytes_eq q d.name) (map declared_of (take l.declared-index l.list))))))
