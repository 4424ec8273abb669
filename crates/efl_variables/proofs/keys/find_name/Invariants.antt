-- The letters before have this number.
use Rattle.std.proofs.Common.{◌≡◌, Some, take, reverse}
use Rattle.efl_scoped.specs.Seen.{table_of}
use Rattle.efl_variables.specs.Keys.{list_number}
use Rattle.efl_variables.proofs.keys.find_name.Given as goal

abbrev pub invariant-loop-letter : goal.invariant-loop-letter
invariant-loop-letter l = list_number (table_of l.numbers) (reverse (take l.letter-index l.name)) ≡ Some l.number
