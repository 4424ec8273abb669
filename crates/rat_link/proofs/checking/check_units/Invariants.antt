-- What the units before say in brief is there, and none has a fault.
use Rattle.std.proofs.Common.{◌≡◌, ◌<◌, ℕ, map, take, Some}
use Rattle.std.specs.List.{slice_get}
use Rattle.f66_tree.specs.Views.{routine_of}
use Rattle.rat_tree.specs.Syntax.{RatRoutine}
use Rattle.rat_tree.specs.Views.{rat_routine_of}
use Rattle.rat_said.specs.Said.{said_routine}
use Rattle.rat_link.specs.Briefs.{AreBriefs}
use Rattle.rat_link.specs.Linking.{IsClean}
use Rattle.rat_link.proofs.checking.check_units.Given as goal

abbrev pub invariant-loop-unit : goal.invariant-loop-unit
invariant-loop-unit l = record {
  briefs : AreBriefs (map said_routine (map rat_routine_of (take l.unit-index l.units))) (map routine_of l.briefs.items);
  clean : (v : ℕ) (u : RatRoutine) → v < l.unit-index → slice_get (map rat_routine_of l.units) v ≡ Some u → IsClean u;
}
