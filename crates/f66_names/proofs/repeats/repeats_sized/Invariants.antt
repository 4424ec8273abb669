-- The names before that have dimensions are noted, and none of them stands twice.
use Rattle.std.proofs.Common.{◌≡◌, ℕ, List, take, filter, map, false, is_some}
use Rattle.std.specs.HashMap.{get_by}
use Rattle.std.specs.List.{list_any}
use Rattle.std.specs.Str.{bytes_eq}
use Rattle.rule_table.specs.Words.{repeats}
use Rattle.f66_names.specs.Declaring.{is_sized}
use Rattle.f66_tree.specs.Views.{declared_of}
use Rattle.f66_names.proofs.repeats.repeats_sized.Given as goal

abbrev pub invariant-loop-declared : goal.invariant-loop-declared
invariant-loop-declared l =
    ((q : List ℕ) → is_some (get_by (λ k. bytes_eq q k.now) l.seen) ≡ list_any (bytes_eq q) (map (λ d. d.name) (filter (λ d. is_sized (declared_of d)) (take l.declared-index l.list))))
    × (repeats (map (λ d. d.name) (filter (λ d. is_sized (declared_of d)) (take l.declared-index l.list))) ≡ false)
