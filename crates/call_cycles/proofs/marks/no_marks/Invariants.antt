-- There are as many entries as turns, none marked.
use Rattle.std.proofs.Common.{◌≡◌, ℕ, false, length}
use Rattle.call_cycles.specs.Cycles.{mark_at}
use Rattle.call_cycles.proofs.marks.no_marks.Given as goal

abbrev pub invariant-loop-node : goal.invariant-loop-node
invariant-loop-node l = record {
  many : length l.marks.items ≡ l._node;
  none : (x : ℕ) → mark_at l.marks.items x ≡ false;
}
