-- The dummies before are noted.
use Rattle.std.proofs.Common.{◌≡◌, ℕ, List, take, Some, None}
use Rattle.std.specs.Prelude.{if◌then◌else◌}
use Rattle.std.specs.HashMap.{get_by}
use Rattle.std.specs.List.{list_any}
use Rattle.std.specs.Str.{bytes_eq}
use Rattle.f66_mentions.proofs.dummies.dummy_table.Given as goal

abbrev pub invariant-loop-name : goal.invariant-loop-name
invariant-loop-name l = (q : List ℕ) → get_by (λ k. bytes_eq q k.now) l.table ≡ if list_any (bytes_eq q) (take l.name-index l.list) then Some tt else None
