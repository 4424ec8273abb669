-- What is asked of the numbers and names of a statement, in memory and as plain data.
use Rattle.stmt_faults.specs.declared.asking.Asked.{Asked}
use Rattle.stmt_faults.specs.declared.asking.Asked.TheVariants as memory
use Rattle.stmt_reader.specs.Faults as faults

abbrev pub asked_of : Asked → faults.Asked
asked_of memory.TooLarge = faults.too_large
asked_of memory.TooLong = faults.too_long
