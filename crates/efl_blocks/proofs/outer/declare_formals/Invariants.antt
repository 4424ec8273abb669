-- The formals before have come.
use Rattle.std.proofs.Common.{drop}
use Rattle.efl_blocks.proofs.OuterLemmas.{FormalsLeft}
use Rattle.efl_blocks.proofs.outer.declare_formals.Given as goal

abbrev pub invariant-loop-formal : goal.invariant-loop-formal
invariant-loop-formal l = FormalsLeft l.letters l.fn.block l.formals l.block (drop l.formal-index l.formals)
