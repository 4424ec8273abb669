-- What holds at each turn of the loops of `read_operands`.
use Rattle.std.proofs.Common.{◌≡◌, drop, fold}
use Rattle.eft_top.specs.Words.{texts}
use Rattle.eft_top.specs.Reading.{start, read, reading_of}
use Rattle.eft_top.proofs.words.read_operands.Given as goal

abbrev pub invariant-loop-word : goal.invariant-loop-word
invariant-loop-word l = fold read start (texts l.words) ≡ fold read (reading_of l.reading) (texts (drop l.word-index l.words))
