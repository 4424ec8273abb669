-- The declarations, and then the statements.
use Rattle.std.proofs.Common.{refl, subst}
use Rattle.std.proofs.lemmas.Result.{on_ok_weaker}
use Rattle.efl_tree.specs.Views.{procedure_of, decls_of, stmts_of}
use Rattle.efl_expressions.specs.declared.names.Blocks.TheBlock.{Outside}
use Rattle.efl_blocks.specs.declared.homes.Position.TheBlock.{Top}
use Rattle.efl_blocks.specs.declared.homes.Homes.TheBlock as around
use Rattle.efl_declarations.specs.Checks.{ChecksDeclarations}
use Rattle.efl_checks.specs.Walks.{IsMade, ReadsInside}
use Rattle.efl_checks.proofs.ProcedureLemmas.{outer_read}
use Rattle.efl_checks.proofs.procedures.check_outer.Goals as goal

pub returns : goal.returns
returns c =
    let y = c.args.types.now in
    let z = c.check_declarations.new.types in
    let w = c.check_inside.new.types in
    let s = c.site_at-site.result in
    let block = c.args.block in
    let known = c.check_declarations.new.known in
    let own = c.args.own.now in
    let p = c.args.walk.now in
    let q = c.check_declarations.new.walk in
    let r = c.check_inside.new.walk in
    on_ok_weaker c.check_inside.result
    (λ reads. outer_read y z w s block known own p q r (procedure_of c.args.procedure.now) Top around.Outside
    (subst (λ xs. IsMade own Top xs Outside around.Outside s) c.deref.ensures.value c.site_at-site.ensures) refl (λ x. refl)
    (subst (λ ds. ChecksDeclarations y block s p (decls_of ds) z known q) c.deref-2.ensures.value c.in_ok-check_declarations.ensures)
    (subst (λ ss. ReadsInside z known s q (stmts_of ss) w r) c.deref-3.ensures.value reads))
    c.check_inside.ensures
