-- One declaration more.
use Rattle.std.proofs.Common.{◌+◌, drop, subst}
use Rattle.std.proofs.lemmas.List.{drop_all}
use Rattle.efl_tree.specs.Views.{decl_of, decls_of}
use Rattle.efl_scope.proofs.TreeLemmas.{drop_next}
use Rattle.efl_declarations.proofs.CheckLemmas.{DeclarationsLeft, declarations_begun, declaration_passed, declarations_ended}
use Rattle.efl_declarations.proofs.declarations.check_declarations.Goals as goal

pub loop-declaration-init : goal.loop-declaration-init
loop-declaration-init c = declarations_begun c.args.types.now c.args.known.now c.args.site.now c.args.walk.now (decls_of c.args.list.now)

pub loop-declaration-preserved : goal.loop-declaration-preserved
loop-declaration-preserved c =
    let l = c.loop-declaration in
    let list = c.args.list.now in
    let d = c.declaration-item.result in
    let y = c.args.types.now in
    let known = c.args.known.now in
    let s = c.args.site.now in
    let old = c.args.walk.now in
    let next = c.check_declaration.new in
    declaration_passed y l.types next.types known l.known next.known s old l.walk next.walk (decls_of list) (decl_of d) (decls_of (drop (l.declaration-index + 1) list))
    (subst (λ xs. DeclarationsLeft y known s old (decls_of list) l.types l.known l.walk (decls_of xs)) (drop_next list l.declaration-index d c.loop-declaration-test.true c.declaration-item.is) l.invariant)
    c.in_ok-check_declaration.ensures

pub returns : goal.returns
returns c =
    let l = c.loop-declaration in
    let list = c.args.list.now in
    let y = c.args.types.now in
    let known = c.args.known.now in
    let s = c.args.site.now in
    let old = c.args.walk.now in
    declarations_ended y l.types known l.known s old l.walk (decls_of list)
    (subst (λ xs. DeclarationsLeft y known s old (decls_of list) l.types l.known l.walk (decls_of xs)) (drop_all l.declaration-index list c.loop-declaration-test.false) l.invariant)
