-- What holds at each turn of the loops of `steps_in`.
use Rattle.std.proofs.Common.{◌≡◌, drop}
use Rattle.eft_top.specs.Words.{steps_after}
use Rattle.eft_top.proofs.numbers.steps_in.Given as goal

abbrev pub invariant-loop-digit : goal.invariant-loop-digit
invariant-loop-digit l = steps_after 0 l.word ≡ steps_after l.steps (drop l.digit-index l.word)
