-- So many words more.
use Rattle.std.proofs.Common.{◌≡◌, ◌+◌, length}
use Rattle.runner.proofs.runner.grow.Given as goal

abbrev pub invariant-loop-made : goal.invariant-loop-made
invariant-loop-made l = length l.words.items ≡ length l.fn.words.items + l.made
