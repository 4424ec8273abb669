-- No unit before gives a name once more.
use Rattle.linker.specs.CallViews.{units_in}
use Rattle.linker.specs.Repeats.{AreClearBefore}
use Rattle.linker.proofs.duplicates.first_repeat.Given as goal

abbrev pub invariant-loop-number : goal.invariant-loop-number
invariant-loop-number l = AreClearBefore (units_in l.calls) l.number
