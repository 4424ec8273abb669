-- As many numbers are added as turns are done.
use Rattle.program_storage.specs.Whole.{AreCountedOn}
use Rattle.program_storage.proofs.whole.count_on.Given as goal

abbrev pub invariant-loop-name : goal.invariant-loop-name
invariant-loop-name l = AreCountedOn l.initial.numbers.items l.first l.name l.numbers.items
