-- The exit code of each status.
use Rattle.std.specs.Prelude.{ℕ, ◌+◌}
use Rattle.ground.specs.TrapNames.{trap_number}
use Rattle.eft_top.specs.declared.status.Status.{Status}
use Rattle.eft_top.specs.declared.status.Status.TheVariants.{Done, Usage, SourceFault, LibraryFault, InputFault, OutputFault, StepLimit, Memory, Stopped, Trapped}

abbrev pub exit_code : Status → ℕ
exit_code Done = 0
exit_code Usage = 2
exit_code SourceFault = 3
exit_code LibraryFault = 4
exit_code InputFault = 5
exit_code OutputFault = 6
exit_code StepLimit = 7
exit_code Memory = 8
exit_code (Stopped n) = 9
exit_code (Trapped trap) = 10 + trap_number trap
