-- The cells up to here hold nothing.
use Rattle.runner.specs.Runners.{AreEmpty}
use Rattle.runner.proofs.runner.empty_cells.Given as goal

abbrev pub invariant-loop-made : goal.invariant-loop-made
invariant-loop-made l = AreEmpty l.cells.items l.made
