-- The formals' types in the outer block, and what it gives.
use Rattle.std.proofs.Common.{subst}
use Rattle.efl_scope.specs.Scopes.{outer}
use Rattle.efl_tree.specs.Views.{procedure_of}
use Rattle.efl_blocks.specs.ProcedureViews.{TakesFormals}
use Rattle.efl_blocks.proofs.procedures.signature.Goals as goal

pub returns : goal.returns
returns c = λ y is.
    let u = procedure_of c.args.procedure.now in
    let block = c.args.outer.now.block in
    let taken : TakesFormals block u.formals c.in_ok-formals.formals.items =
    subst (λ xs. TakesFormals block xs c.in_ok-formals.formals.items) c.deref.ensures.value c.in_ok-formals.ensures
    in (taken y (outer u) is.block, c.outcome_of-outcome.ensures)
