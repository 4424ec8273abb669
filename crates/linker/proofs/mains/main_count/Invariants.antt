-- One of the units before is a main, or none is.
use Rattle.std.specs.Prelude.{map, MatchBool}
use Rattle.f66_tree.specs.Views.{routine_of}
use Rattle.linker.specs.Mains.{HasOneMain, HasNoMain}
use Rattle.linker.proofs.mains.main_count.Given as goal

abbrev pub invariant-loop-unit : goal.invariant-loop-unit
invariant-loop-unit l = MatchBool l.found (HasOneMain (map routine_of l.units) l.unit-index) (HasNoMain (map routine_of l.units) l.unit-index)
