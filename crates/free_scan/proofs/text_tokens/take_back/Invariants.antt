-- The tokens that are still to be taken back stand before those that were.
use Rattle.std.proofs.Common.{◌≡◌, ◌++◌, length}
use Rattle.free_scan.proofs.text_tokens.take_back.Given as goal

abbrev pub invariant-loop-token : goal.invariant-loop-token
invariant-loop-token l = l.initial.line.items ++ l.initial.left.items ≡ l.line.items ++ l.left.items

abbrev pub decreases-loop-token : goal.decreases-loop-token
decreases-loop-token l = length l.line.items
