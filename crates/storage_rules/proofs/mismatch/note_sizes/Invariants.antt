-- The sizes of the blocks before are noted.
use Rattle.std.proofs.Common.{◌≡◌, ℕ, List, None, map, take}
use Rattle.std.specs.Prelude.{if◌then◌else◌}
use Rattle.std.specs.HashMap.{get_by}
use Rattle.std.specs.List.{list_any}
use Rattle.std.specs.Option.{option_or}
use Rattle.std.specs.Str.{bytes_eq}
use Rattle.storage_rules.proofs.mismatch.note_sizes.Given as goal

abbrev pub invariant-loop-label : goal.invariant-loop-label
invariant-loop-label l =
    (q : List ℕ) → get_by (λ k. bytes_eq q k.now) l.firsts
    ≡ option_or (get_by (λ k. bytes_eq q k.now) l.initial.firsts) (if list_any (bytes_eq q) (map (λ k. k.now) (take l.label-index l.blocks.labels.items)) then get_by (λ k. bytes_eq q k.now) l.blocks.sizes else None)
