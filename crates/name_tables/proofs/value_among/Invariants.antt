-- The table has of the name what its entries from here on have.
use Rattle.std.proofs.Common.{◌≡◌}
use Rattle.std.specs.HashMap.{get_by}
use Rattle.std.specs.Map.{lookup}
use Rattle.std.specs.Str.{bytes_eq}
use Rattle.name_tables.proofs.value_among.Given as goal

abbrev pub invariant-loop-key : goal.invariant-loop-key
invariant-loop-key g l =
    (goal.iterator-loop-key g).can_next l.key-iterator ×
    (goal.iterator-loop-key g).is_finite l.key-iterator ×
    (get_by (λ k. bytes_eq l.name k.now) l.table ≡ lookup (λ k. bytes_eq l.name k.now) l.key-iterator)
