-- Those before are noted.
use Rattle.std.proofs.Common.{◌≡◌, ℕ, List, take, map}
use Rattle.std.specs.HashMap.{get_by}
use Rattle.std.specs.Option.{option_or}
use Rattle.std.specs.Str.{bytes_eq}
use Rattle.rule_table.specs.Words.{find_map}
use Rattle.f66_tree.specs.Views.{area_of}
use Rattle.unit_rules.specs.Storage.{block_by}
use Rattle.unit_rules.proofs.tables.note_areas.Given as goal

abbrev pub invariant-loop-area : goal.invariant-loop-area
invariant-loop-area l = (q : List ℕ) → get_by (λ k. bytes_eq q k.now) l.table ≡ option_or (get_by (λ k. bytes_eq q k.now) l.initial.table) (find_map (block_by q) (map area_of (take l.area-index l.areas)))
