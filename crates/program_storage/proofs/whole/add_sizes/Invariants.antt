-- The sizes before are added.
use Rattle.std.proofs.Common.{◌≡◌, ◌++◌, take}
use Rattle.program_storage.proofs.whole.add_sizes.Given as goal

abbrev pub invariant-loop-size : goal.invariant-loop-size
invariant-loop-size l = l.sizes.items ≡ l.initial.sizes.items ++ take l.size-index l.more
