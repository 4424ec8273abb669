-- I to N are integers.
use Rattle.std.proofs.Common.{refl}
use Rattle.efl_names.proofs.NameLemmas.{plain_integer, plain_below, plain_above}
use Rattle.efl_names.proofs.letters.plain.Goals as goal
use Rattle.efl_names.proofs.letters.plain.Goals.{else-letter-ge73-via-then-letter-ge73+else-letter-le78, else-letter-ge73-via-else-letter-ge73}

pub returns-then-letter-le78 : goal.returns-then-letter-le78
returns-then-letter-le78 c = λ f ss. plain_integer f ss c.args.letter _ c.if-letter-ge73.true c.if-letter-le78.true (record { made = (refl, refl); told = c.integer.ensures f })

pub returns-else-letter-ge73 : goal.returns-else-letter-ge73
returns-else-letter-ge73 c = λ f ss.
    elim c.else-letter-ge73.branch [
      | else-letter-ge73-via-then-letter-ge73+else-letter-le78 w ↦ plain_above f ss c.args.letter c.nothing.result w.if-letter-le78.false (c.nothing.ensures f ss)
      | else-letter-ge73-via-else-letter-ge73 w ↦ plain_below f ss c.args.letter c.nothing.result w.if-letter-ge73.false (c.nothing.ensures f ss)
    ]
