-- The letters and the outer block are those of the procedure.
use Rattle.std.proofs.Common.{subst}
use Rattle.std.proofs.lemmas.Result.{IfOk-weaker}
use Rattle.efl_tree.specs.Views.{procedure_of, decls_of}
use Rattle.efl_bindings.specs.Declarations.{ImpliesAll}
use Rattle.efl_typing.specs.Bodies.{IsBody, IsMade}
use Rattle.efl_typing.proofs.bodies.typed_body.Goals as goal

pub returns : goal.returns
returns c =
    let u = procedure_of c.args.procedure.now in
    let known = c.args.procedures.now in
    let letters = c.in_ok-letters.letters in
    let all = c.args.variables.now in
    IfOk-weaker c.typed_within.result (λ body. IsMade c.args.unit u known letters all c.in_ok-table.table body.items) (λ body. IsBody c.args.unit u known all body.items)
    (λ body made. made.is (subst (λ ds. ImpliesAll (decls_of ds) letters) c.deref.ensures.value c.in_ok-letters.ensures) c.in_ok-table.ensures) c.typed_within.ensures
