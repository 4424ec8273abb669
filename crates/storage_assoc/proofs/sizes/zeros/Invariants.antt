-- There are as many zeros as turns.
use Rattle.std.proofs.Common.{◌≡◌, replicate}
use Rattle.storage_assoc.proofs.sizes.zeros.Given as goal

abbrev pub invariant-loop-row : goal.invariant-loop-row
invariant-loop-row l = l.all.items ≡ replicate l._row 0
