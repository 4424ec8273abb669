-- The tables have what the statements before say.
use Rattle.std.proofs.Common.{◌≡◌, ℕ, List, take, map}
use Rattle.std.specs.HashMap.{get_by}
use Rattle.std.specs.Option.{option_map}
use Rattle.std.specs.Str.{bytes_eq}
use Rattle.rule_table.specs.Words.{first_place, find_map}
use Rattle.f66_tree.specs.Views.{par_of}
use Rattle.f66_names.specs.ActViews.{acts_of}
use Rattle.unit_rules.specs.Bounds.{sizes_given}
use Rattle.unit_rules.specs.Storage.{commons, gives_sizes, block_in}
use Rattle.unit_rules.proofs.tables.tables_of.Given as goal

abbrev pub invariant-loop-i : goal.invariant-loop-i
invariant-loop-i l =
    ((q : List ℕ) → get_by (λ k. bytes_eq q k.now) l.commons ≡ first_place (commons q) (acts_of (take l.i l.sayings)))
    × ((q : List ℕ) → get_by (λ k. bytes_eq q k.now) l.blocks ≡ find_map (block_in q) (acts_of (take l.i l.sayings)))
    × ((q : List ℕ) → get_by (λ k. bytes_eq q k.now) l.sized ≡ first_place (gives_sizes q) (acts_of (take l.i l.sayings)))
    × ((q : List ℕ) → option_map (λ ns. map par_of ns.now) (get_by (λ k. bytes_eq q k.now) l.sizes) ≡ find_map (sizes_given q) (acts_of (take l.i l.sayings)))
