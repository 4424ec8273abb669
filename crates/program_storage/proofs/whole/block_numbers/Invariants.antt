-- The labels before have their numbers.
use Rattle.std.proofs.Common.{◌≡◌, ◌∷◌, take, map}
use Rattle.std.specs.HashMap.{get_by}
use Rattle.std.specs.Str.{bytes_eq}
use Rattle.storage_assoc.specs.Lists.{row_by}
use Rattle.program_storage.proofs.whole.block_numbers.Given as goal

abbrev pub invariant-loop-label : goal.invariant-loop-label
invariant-loop-label l = l.numbers.items ≡ 0 ∷ map (λ q. row_by (λ q. get_by (λ k. bytes_eq q k.now) l.blocks) q.now) (take l.label-index l.labels)
