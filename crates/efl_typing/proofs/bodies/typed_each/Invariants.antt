-- The bodies before are made.
use Rattle.std.proofs.Common.{◌≤◌, map, length}
use Rattle.efl_tree.specs.Views.{procedure_of}
use Rattle.efl_typing.proofs.BodyLemmas.{BodiesSo}
use Rattle.efl_typing.proofs.bodies.typed_each.Given as goal

abbrev pub invariant-loop-unit : goal.invariant-loop-unit
invariant-loop-unit l = record {
  within : l.unit ≤ length l.list;
  so : BodiesSo (map procedure_of l.list) l.procedures l.variables l.unit l.bodies.items;
}
