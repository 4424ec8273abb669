-- The lines that diag gets.
use Rattle.std.specs.Prelude.{ℕ, false, List, [], ◌∷◌, ◌++◌, codes, ◌==◌, if◌then◌else◌}
use Rattle.std.specs.Fmt.{decimal, digits}
use Rattle.ground.specs.declared.fault.Fault.{Fault}
use Rattle.ground.specs.declared.trap.Trap.{Trap}
use Rattle.ground.specs.FaultNames.{fault_number, fault_word}
use Rattle.ground.specs.TrapNames.{trap_number, trap_word}

-- a line of a file
abbrev pub at_line : List ℕ → ℕ → List ℕ
at_line file line = codes " at " ++ (file ++ (codes ":" ++ (decimal line ++ 10 ∷ [])))

-- the number of a limit; other faults have none
abbrev pub limit_part : ℕ → List ℕ
limit_part number = if number == 0 then [] else (codes " " ++ decimal number)

abbrev pub fault_head : Fault → List ℕ
fault_head fault = codes "fault " ++ (decimal (fault_number fault.kind) ++ (codes " " ++ (fault_word fault.kind ++ limit_part fault.number)))

-- a fault in the file of this name
abbrev pub fault_line : Fault → List ℕ → List ℕ
fault_line fault file = fault_head fault ++ at_line file fault.place.line

abbrev pub trap_head : Trap → List ℕ
trap_head trap = codes "trap " ++ (decimal (trap_number trap) ++ (codes " " ++ trap_word trap))

abbrev pub trap_line : Trap → List ℕ → ℕ → List ℕ
trap_line trap file line = trap_head trap ++ at_line file line

-- the number of a STOP in octal digits, as it was written but for zeros in front
abbrev pub stop_line : ℕ → List ℕ
stop_line n = codes "stop " ++ (digits 8 false n ++ 10 ∷ [])

abbrev pub limit_line : ℕ → List ℕ
limit_line n = codes "step limit " ++ (decimal n ++ 10 ∷ [])

-- how many statements began, and how many instructions were executed
abbrev pub counts_line : ℕ → ℕ → List ℕ
counts_line begun executed = codes "statements " ++ (decimal begun ++ (codes " instructions " ++ (decimal executed ++ 10 ∷ [])))

-- the lines that say all
abbrev pub usage_line : List ℕ
usage_line = codes "usage: eft cards|run|deck|listing|mill\n"

abbrev pub library_fault_line : List ℕ
library_fault_line = codes "library fault\n"

abbrev pub input_fault_line : List ℕ
input_fault_line = codes "input fault\n"

abbrev pub output_fault_line : List ℕ
output_fault_line = codes "output fault\n"

abbrev pub memory_line : List ℕ
memory_line = codes "out of memory\n"
