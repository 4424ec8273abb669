-- The ranges before have come.
use Rattle.std.proofs.Common.{drop}
use Rattle.efl_bindings.proofs.LetterLemmas.{RangesLeft}
use Rattle.efl_bindings.proofs.letters.give_all.Given as goal

abbrev pub invariant-loop-range : goal.invariant-loop-range
invariant-loop-range l = RangesLeft l.kind l.fn.letters l.ranges l.letters (drop l.range-index l.ranges)
