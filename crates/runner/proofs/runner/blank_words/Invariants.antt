-- So many words for each level up to here.
use Rattle.std.proofs.Common.{◌≡◌, ◌*◌, length}
use Rattle.runner.proofs.runner.blank_words.Given as goal

abbrev pub invariant-loop-level : goal.invariant-loop-level
invariant-loop-level l = length l.words.items ≡ l.level * l.each
