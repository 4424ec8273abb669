-- So far the names before are listed.
use Rattle.std.proofs.Common.{◌≡◌, ◌++◌, drop, map}
use Rattle.f66_tree.specs.Views.{declared_of}
use Rattle.efl_lowered.specs.Lowering.{declared_scalar}
use Rattle.efl_units.proofs.type_lines.scalars.Given as goal

abbrev pub invariant-loop-name : goal.invariant-loop-name
invariant-loop-name l = map declared_of l.list.items ++ map declared_scalar (drop l.name-index l.names) ≡ map declared_scalar l.names
