-- The procedures before are read.
use Rattle.std.proofs.Common.{◌≡◌, drop, map, length}
use Rattle.std.specs.Vec.Iter.{into_iter_items, into_iter_len}
use Rattle.efl_tree.specs.Views.{procedure_of}
use Rattle.efl_checks.proofs.ProcedureLemmas.{ProceduresLeft}
use Rattle.efl_checks.proofs.procedures.check_procedures.Given as goal

abbrev pub invariant-loop-unit : goal.invariant-loop-unit
invariant-loop-unit l = record {
  long : into_iter_len l.rest ≡ length (into_iter_items l.rest);
  left : ProceduresLeft l.fn.types (map procedure_of l.list) l.fn.outers.items l.units l.fn.walk l.types l.walk l.unit (map procedure_of (drop l.unit l.list)) (into_iter_items l.rest);
}
