-- The names before are noted, and none of them stands twice.
use Rattle.std.proofs.Common.{◌≡◌, ℕ, List, map, take, false, is_some}
use Rattle.std.specs.HashMap.{get_by}
use Rattle.std.specs.List.{list_any}
use Rattle.std.specs.Str.{bytes_eq}
use Rattle.rule_table.specs.Words.{repeats}
use Rattle.unit_rules.proofs.again.repeats.Given as goal

abbrev pub invariant-loop-declared : goal.invariant-loop-declared
invariant-loop-declared l =
    ((q : List ℕ) → is_some (get_by (λ k. bytes_eq q k.now) l.seen) ≡ list_any (bytes_eq q) (map (λ d. d.now.name) (take l.declared-index l.list)))
    × (repeats (map (λ d. d.now.name) (take l.declared-index l.list)) ≡ false)
