-- The rows before are swept, and the island is the last.
use Rattle.offset_classes.proofs.NumberLemmas.{InSweep}
use Rattle.offset_classes.proofs.numbers.sweep.Given as goal

abbrev pub invariant-loop-row : goal.invariant-loop-row
invariant-loop-row l = InSweep l.rows l.sizes l.firsts.items l.row-index l.island
