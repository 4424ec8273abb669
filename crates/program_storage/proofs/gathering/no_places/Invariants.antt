-- There are as many zeros as turns.
use Rattle.std.proofs.Common.{◌≡◌, replicate}
use Rattle.program_storage.proofs.gathering.no_places.Given as goal

abbrev pub invariant-loop-block : goal.invariant-loop-block
invariant-loop-block l = l.sizes.items ≡ replicate l._block 0
