-- The letters before have their number.
use Rattle.std.proofs.Common.{take, reverse}
use Rattle.efl_scoped.specs.Seen.{table_of}
use Rattle.efl_variables.specs.Keys.{IsTextNumber}
use Rattle.efl_variables.proofs.keys.name_number.Given as goal

abbrev pub invariant-loop-letter : goal.invariant-loop-letter
invariant-loop-letter l = IsTextNumber (table_of l.initial.numbers) (reverse (take l.letter-index l.name)) (table_of l.numbers) l.number
