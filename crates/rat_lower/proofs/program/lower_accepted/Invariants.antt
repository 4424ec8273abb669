-- The units before are served.
use Rattle.std.proofs.Common.{◌≡◌, length}
use Rattle.std.specs.Vec.Iter.{into_iter_items, into_iter_len}
use Rattle.rat_lower.proofs.Serving.{UnitsSoFar}
use Rattle.rat_lower.proofs.program.lower_accepted.Given as goal

abbrev pub invariant-loop-unit : goal.invariant-loop-unit
invariant-loop-unit l = record {
  long : into_iter_len l.unit-iterator ≡ length (into_iter_items l.unit-iterator);
  so_far : UnitsSoFar l.fn.program.units.items (into_iter_items l.unit-iterator) l.fn.program.finish l.made.items;
}
