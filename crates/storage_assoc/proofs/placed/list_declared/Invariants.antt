-- The names that the statements before declare are listed.
use Rattle.std.proofs.Common.{◌≡◌, ◌||◌, ◌&&◌, not, ℕ, List, take, map}
use Rattle.std.specs.HashMap.{get_by}
use Rattle.std.specs.List.{list_any}
use Rattle.std.specs.Str.{bytes_eq}
use Rattle.f66_tree.specs.Views.{header_of, line_of}
use Rattle.f66_program.specs.Mentions.{declares, is_dummy}
use Rattle.storage_assoc.specs.Listings.{IsListing, has_name}
use Rattle.storage_assoc.specs.Placing.{is_none}
use Rattle.storage_assoc.proofs.placed.list_declared.Given as goal

abbrev pub invariant-loop-statement : goal.invariant-loop-statement
invariant-loop-statement l =
    IsListing l.first l.listing
    × ((q : List ℕ) → has_name l.listing q ≡ (has_name l.initial.listing q || (not (is_dummy q (header_of l.names.unit.now.header))
    && (is_none (get_by (λ k. bytes_eq q k.now) l.called) && list_any (λ s. declares q s.act) (map line_of (take l.statement-index l.names.unit.now.statements.items))))))
