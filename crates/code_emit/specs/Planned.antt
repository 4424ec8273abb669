-- Code with its plans, as the machine has them.
use Rattle.stack_code.specs.StackMachine.{Program}
use Rattle.stack_code.specs.Views.{code_of}
use Rattle.code_emit.specs.declared.planned.PlannedCode.{PlannedCode}

abbrev pub program_in : PlannedCode → Program
program_in made = record { code = code_of made.ops.items; plans = made.plans.items }
