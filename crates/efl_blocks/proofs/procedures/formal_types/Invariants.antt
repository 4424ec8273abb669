-- The formals before have their types.
use Rattle.std.proofs.Common.{drop}
use Rattle.efl_blocks.proofs.ProcedureLemmas.{TypesLeft}
use Rattle.efl_blocks.proofs.procedures.formal_types.Given as goal

abbrev pub invariant-loop-formal : goal.invariant-loop-formal
invariant-loop-formal l = TypesLeft l.block l.formals (drop l.formal-index l.formals) l.all.items
