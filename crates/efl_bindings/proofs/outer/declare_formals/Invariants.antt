-- The formals before have come.
use Rattle.std.proofs.Common.{drop}
use Rattle.efl_bindings.proofs.OuterLemmas.{FormalsLeft}
use Rattle.efl_bindings.proofs.outer.declare_formals.Given as goal

abbrev pub invariant-loop-formal : goal.invariant-loop-formal
invariant-loop-formal l = FormalsLeft l.home l.letters l.fn.table l.formals l.table (drop l.formal-index l.formals)
