-- The procedures before have come.
use Rattle.std.proofs.Common.{drop, map}
use Rattle.efl_tree.specs.Views.{procedure_of}
use Rattle.efl_blocks.proofs.ProcedureLemmas.{ProceduresLeft}
use Rattle.efl_blocks.proofs.procedures.open_procedures.Given as goal

abbrev pub invariant-loop-procedure : goal.invariant-loop-procedure
invariant-loop-procedure l = ProceduresLeft l.fn.types (map procedure_of l.list) l.types (map procedure_of (drop l.procedure-index l.list)) l.outers.items l.units
