-- Those before have their entries.
use Rattle.std.proofs.Common.{◌≡◌, ◌++◌, drop}
use Rattle.code_emit.specs.Entries.{entries_from}
use Rattle.code_emit.proofs.entries.entries_of.Given as goal

abbrev pub invariant-loop-size : goal.invariant-loop-size
invariant-loop-size l = l.entries.items ++ entries_from l.at (drop l.size-index l.sizes) ≡ entries_from 0 l.sizes
