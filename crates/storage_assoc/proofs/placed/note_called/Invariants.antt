-- The names that are called before are noted.
use Rattle.std.proofs.Common.{◌≡◌, ℕ, List, take, map, Some, None}
use Rattle.std.specs.Prelude.{if◌then◌else◌}
use Rattle.std.specs.HashMap.{get_by}
use Rattle.std.specs.List.{list_any}
use Rattle.std.specs.Option.{option_or}
use Rattle.std.specs.Str.{bytes_eq}
use Rattle.f66_program.specs.Mentions.{is_function}
use Rattle.f66_mentions.specs.UnitViews.{mention_of}
use Rattle.storage_assoc.proofs.placed.note_called.Given as goal

abbrev pub invariant-loop-mention : goal.invariant-loop-mention
invariant-loop-mention l = (q : List ℕ) → get_by (λ k. bytes_eq q k.now) l.called ≡ option_or (get_by (λ k. bytes_eq q k.now) l.initial.called) (if list_any (is_function q) (map mention_of (take l.mention-index l.mentions)) then Some tt else None)
