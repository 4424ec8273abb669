-- The digits so far stand at the end of the buffer.
use Rattle.std.proofs.Common.{◌≡◌, ◌≤◌, false, drop, length}
use Rattle.std.specs.Fmt.{digits, digits_onto}
use Rattle.eft_top.proofs.octal.octal_digits.Given as goal

abbrev pub invariant-loop-at : goal.invariant-loop-at
invariant-loop-at l = (l.at ≤ 64) × (length l.buffer ≡ 64) × (digits_onto l.at 8 false l.rest (drop l.at l.buffer) ≡ digits 8 false l.fn.number)

abbrev pub decreases-loop-at : goal.decreases-loop-at
decreases-loop-at l = l.at
