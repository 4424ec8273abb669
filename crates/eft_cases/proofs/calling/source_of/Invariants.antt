-- No piece so far is empty.
use Rattle.std.proofs.Common.{◌≡◌, true}
use Rattle.ports.specs.Left.{all_full}
use Rattle.eft_cases.proofs.calling.source_of.Given as goal

abbrev pub invariant-loop-piece : goal.invariant-loop-piece
invariant-loop-piece l = all_full l.full.items ≡ true
