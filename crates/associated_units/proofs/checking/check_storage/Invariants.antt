-- The units before are fit.
use Rattle.std.proofs.Common.{◌≡◌, ◌<◌, ℕ, map, Some}
use Rattle.std.specs.List.{slice_get}
use Rattle.f66_tree.specs.Syntax.{Routine}
use Rattle.f66_tree.specs.Views.{routine_of}
use Rattle.associated_units.specs.Fit.{IsFit}
use Rattle.associated_units.proofs.checking.check_storage.Given as goal

abbrev pub invariant-loop-unit : goal.invariant-loop-unit
invariant-loop-unit l = (v : ℕ) (r : Routine) → v < l.unit-index → slice_get (map routine_of l.units) v ≡ Some r → IsFit r
