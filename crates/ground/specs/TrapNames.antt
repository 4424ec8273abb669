-- The numbers and names of traps, as reports show them.
use Rattle.std.specs.Prelude.{ℕ, List, codes}
use Rattle.ground.specs.declared.trap.Trap.{Trap}
use Rattle.ground.specs.declared.trap.Trap.TheVariants.{Overflow, Division, Power, Subscript, Undefined, EndOfInput, BadField, BadCharacter, BadDo, BadBranch, ValueArgument, BadUnit, FormatMismatch, LongRecord}

abbrev pub trap_number : Trap → ℕ
trap_number Overflow = 1
trap_number Division = 2
trap_number Power = 3
trap_number Subscript = 4
trap_number Undefined = 5
trap_number EndOfInput = 6
trap_number BadField = 7
trap_number BadCharacter = 8
trap_number BadDo = 9
trap_number BadBranch = 10
trap_number ValueArgument = 11
trap_number BadUnit = 12
trap_number FormatMismatch = 13
trap_number LongRecord = 14

abbrev pub trap_word : Trap → List ℕ
trap_word Overflow = codes "Overflow"
trap_word Division = codes "Division"
trap_word Power = codes "Power"
trap_word Subscript = codes "Subscript"
trap_word Undefined = codes "Undefined"
trap_word EndOfInput = codes "EndOfInput"
trap_word BadField = codes "BadField"
trap_word BadCharacter = codes "BadCharacter"
trap_word BadDo = codes "BadDo"
trap_word BadBranch = codes "BadBranch"
trap_word ValueArgument = codes "ValueArgument"
trap_word BadUnit = codes "BadUnit"
trap_word FormatMismatch = codes "FormatMismatch"
trap_word LongRecord = codes "LongRecord"
