-- What the names of a unit mean.
use Rattle.f66_tree.specs.Syntax.{Routine}
use Rattle.f66_tree.specs.Units.{Context}
use Rattle.f66_names.specs.Declaring.{context_by}
use Rattle.f66_soundness.specs.SoundUnits.{acts_in_unit}

-- what the names of a unit mean in it
abbrev pub context_of : Routine → Context
context_of u = context_by u.header (acts_in_unit u.lines)
