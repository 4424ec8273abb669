-- The statements begin in the outer block.
use Rattle.std.proofs.Common.{refl, subst}
use Rattle.std.proofs.lemmas.Result.{IfOk-weaker}
use Rattle.efl_tree.specs.Views.{procedure_of, stmts_of}
use Rattle.efl_typing.specs.Statements.{AreStatements}
use Rattle.efl_typing.specs.Bodies.{IsMade}
use Rattle.efl_typing.proofs.BodyLemmas.{alone_outermost, body_made}
use Rattle.efl_typing.proofs.bodies.typed_within.Goals as goal

pub returns : goal.returns
returns c =
    let n = c.args.unit in
    let u = procedure_of c.args.procedure.now in
    let known = c.args.procedures.now in
    let letters = c.args.letters.now in
    let all = c.args.variables.now in
    let table = c.args.table.now in
    let s = c.site_of-site.result in
    IfOk-weaker c.typed_statements.result (λ body. AreStatements (stmts_of c.deref.result.now) s body.items) (λ body. IsMade n u known letters all table body.items)
    (λ body typed. body_made n u table known letters all _ s body.items c.site_of-site.ensures (alone_outermost n table _ _ known letters all _ s c.site_of-site.ensures refl refl refl)
    (subst (λ ss. AreStatements (stmts_of ss) s body.items) c.deref.ensures.value typed))
    c.typed_statements.ensures
