-- There are as many zeros as turns.
use Rattle.std.proofs.Common.{◌≡◌, length}
use Rattle.offset_classes.proofs.numbers.zeros.Given as goal

abbrev pub invariant-loop-next : goal.invariant-loop-next
invariant-loop-next l = length l.all.items ≡ l._next
