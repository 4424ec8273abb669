-- The numbers of the areas before are noted.
use Rattle.std.proofs.Common.{◌≡◌, ℕ, List, take, map}
use Rattle.std.specs.HashMap.{get_by}
use Rattle.std.specs.List.{flat_map}
use Rattle.std.specs.Option.{option_or}
use Rattle.std.specs.Str.{bytes_eq}
use Rattle.rule_table.specs.Words.{find_map}
use Rattle.f66_tree.specs.Views.{area_of}
use Rattle.f66_names.specs.Declaring.{count_by}
use Rattle.f66_names.proofs.tables.note_areas.Given as goal

abbrev pub invariant-loop-area : goal.invariant-loop-area
invariant-loop-area l = (q : List ℕ) → get_by (λ k. bytes_eq q k.now) l.table ≡ option_or (get_by (λ k. bytes_eq q k.now) l.initial.table) (find_map (count_by q) (flat_map (λ a. a.list) (map area_of (take l.area-index l.areas))))
