-- What the units before say is there.
use Rattle.std.proofs.Common.{◌≡◌, map, take}
use Rattle.f66_tree.specs.Views.{routine_of}
use Rattle.rat_tree.specs.Views.{rat_routine_of}
use Rattle.rat_said.specs.Said.{said_routine}
use Rattle.rat_link.proofs.checking.said_units.Given as goal

abbrev pub invariant-loop-unit : goal.invariant-loop-unit
invariant-loop-unit l = map routine_of l.said.items ≡ map said_routine (map rat_routine_of (take l.unit-index l.units))
