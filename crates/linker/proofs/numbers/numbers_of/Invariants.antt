-- The units before have their numbers.
use Rattle.std.proofs.Common.{◌≡◌, ℕ, List, take, map}
use Rattle.std.specs.HashMap.{get_by}
use Rattle.std.specs.Str.{bytes_eq}
use Rattle.f66_tree.specs.Views.{routine_of}
use Rattle.f66_program.specs.Calls.{unit_named}
use Rattle.linker.proofs.numbers.numbers_of.Given as goal

abbrev pub invariant-loop-number : goal.invariant-loop-number
invariant-loop-number l = (q : List ℕ) → get_by (λ k. bytes_eq q k.now) l.numbers ≡ unit_named q (map routine_of (take l.number l.units))
