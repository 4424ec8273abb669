-- The letters before have the type.
use Rattle.std.proofs.Common.{◌≡◌, ◌+◌, ◌<◌, ℕ, nat_le, nat_lt, ◌&&◌, Some, if◌then◌else◌}
use Rattle.efl_bindings.specs.Bindings.{letter_in}
use Rattle.efl_bindings.proofs.letters.Letters.give.Given as goal

abbrev pub invariant-loop-letter : goal.invariant-loop-letter
invariant-loop-letter l =
    ((c : ℕ) → letter_in l.self c ≡ (if nat_le l.first c && nat_lt c l.letter then Some l.kind else letter_in l.fn.self c)) × (l.last + 1 < l.first → l.letter ≡ l.first)
