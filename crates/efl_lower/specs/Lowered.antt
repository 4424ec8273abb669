-- The units that a program of EFL becomes.
use Rattle.f66_program.specs.Linking.{Program}
use Rattle.efl_tree.specs.Syntax.{EflProgram}
use Rattle.efl_lowered.specs.Lowering.{units_of}
use Rattle.efl_naming.specs.Choice.{naming_of}

-- its units by the names that they get
abbrev pub made_of : EflProgram → Program
made_of p = record { units = units_of (naming_of p) p; finish = p.finish }
