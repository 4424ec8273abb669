-- The tables have what the statements before declare.
use Rattle.std.proofs.Common.{◌≡◌, ℕ, List, take}
use Rattle.std.specs.HashMap.{get_by}
use Rattle.std.specs.Str.{bytes_eq}
use Rattle.rule_table.specs.Words.{first_place, find_map}
use Rattle.f66_names.specs.ActViews.{acts_of}
use Rattle.f66_names.specs.Declaring.{types, sizes, type_given, count_in}
use Rattle.f66_names.proofs.tables.tables_of.Given as goal

abbrev pub invariant-loop-i : goal.invariant-loop-i
invariant-loop-i l =
    ((q : List ℕ) → get_by (λ k. bytes_eq q k.now) l.words ≡ find_map (type_given q) (acts_of (take l.i l.sayings)))
    × ((q : List ℕ) → get_by (λ k. bytes_eq q k.now) l.counts ≡ find_map (count_in q) (acts_of (take l.i l.sayings)))
    × ((q : List ℕ) → get_by (λ k. bytes_eq q k.now) l.typed ≡ first_place (types q) (acts_of (take l.i l.sayings)))
    × ((q : List ℕ) → get_by (λ k. bytes_eq q k.now) l.sized ≡ first_place (sizes q) (acts_of (take l.i l.sayings)))
