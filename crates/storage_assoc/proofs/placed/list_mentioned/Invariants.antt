-- The variables of the statements before are listed, and what they call is noted.
use Rattle.std.proofs.Common.{◌≡◌, ◌||◌, ◌&&◌, not, ℕ, List, take, map, Some, None}
use Rattle.std.specs.Prelude.{if◌then◌else◌}
use Rattle.std.specs.HashMap.{get_by}
use Rattle.std.specs.Option.{option_or}
use Rattle.std.specs.Str.{bytes_eq}
use Rattle.f66_tree.specs.Views.{header_of, line_of}
use Rattle.f66_program.specs.Mentions.{is_dummy, is_function, is_variable, mentioned}
use Rattle.f66_mentions.specs.UnitViews.{context_in}
use Rattle.storage_assoc.specs.Listings.{IsListing, has_name}
use Rattle.storage_assoc.proofs.placed.list_mentioned.Given as goal

abbrev pub invariant-loop-statement : goal.invariant-loop-statement
invariant-loop-statement l =
    IsListing l.first l.listing
    × ((q : List ℕ) → has_name l.listing q ≡ (has_name l.initial.listing q || (not (is_dummy q (header_of l.names.unit.now.header)) && mentioned (is_variable q) (context_in l.names) (map line_of (take l.statement-index l.names.unit.now.statements.items)))))
    × ((q : List ℕ) → get_by (λ k. bytes_eq q k.now) l.called ≡ option_or (get_by (λ k. bytes_eq q k.now) l.initial.called) (if mentioned (is_function q) (context_in l.names) (map line_of (take l.statement-index l.names.unit.now.statements.items)) then Some tt else None))
