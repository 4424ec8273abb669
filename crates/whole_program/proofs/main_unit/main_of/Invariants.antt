-- None of the units before is a main.
use Rattle.std.specs.Prelude.{map}
use Rattle.f66_tree.specs.Views.{routine_of}
use Rattle.linker.specs.Mains.{HasNoMain}
use Rattle.whole_program.proofs.main_unit.main_of.Given as goal

abbrev pub invariant-loop-number : goal.invariant-loop-number
invariant-loop-number l = HasNoMain (map routine_of l.units) l.number
