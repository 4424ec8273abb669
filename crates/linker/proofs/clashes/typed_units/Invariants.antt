-- The units before have their tables.
use Rattle.std.proofs.Common.{◌≡◌, take, map}
use Rattle.f66_tree.specs.Views.{routine_of}
use Rattle.linker.specs.TypeViews.{routine_typed}
use Rattle.linker.proofs.clashes.typed_units.Given as goal

abbrev pub invariant-loop-unit : goal.invariant-loop-unit
invariant-loop-unit l = map routine_typed l.all.items ≡ map routine_of (take l.unit-index l.units)
