-- One declaration more.
use Rattle.std.proofs.Common.{◌+◌, drop, subst}
use Rattle.std.proofs.lemmas.List.{drop_all}
use Rattle.efl_tree.specs.Views.{decl_of, decls_of}
use Rattle.efl_scope.proofs.TreeLemmas.{drop_next}
use Rattle.efl_blocks.proofs.DeclaredLemmas.{DeclarationsLeft, declarations_begun, declaration_passed, declarations_ended}
use Rattle.efl_blocks.proofs.declared.declare_all.Goals as goal

pub loop-declaration-init : goal.loop-declaration-init
loop-declaration-init c = declarations_begun c.args.types.now c.args.known.now c.args.beyond.now (decls_of c.args.list.now) c.new-block.result c.new-block.ensures

pub loop-declaration-preserved : goal.loop-declaration-preserved
loop-declaration-preserved c =
    let l = c.loop-declaration in
    let list = c.args.list.now in
    let d = c.declaration-item.result in
    let y = c.args.types.now in
    let known = c.args.known.now in
    let beyond = c.args.beyond.now in
    let next = c.declare.new in
    declaration_passed y l.types next.types known l.known next.known l.block next.block beyond (decls_of list) (decl_of d) (decls_of (drop (l.declaration-index + 1) list))
    (subst (λ xs. DeclarationsLeft y known beyond (decls_of list) l.types l.known (decls_of xs) l.block) (drop_next list l.declaration-index d c.loop-declaration-test.true c.declaration-item.is) l.invariant)
    c.in_ok-declare.ensures

pub returns : goal.returns
returns c =
    let l = c.loop-declaration in
    let list = c.args.list.now in
    let y = c.args.types.now in
    let known = c.args.known.now in
    let beyond = c.args.beyond.now in
    declarations_ended y l.types known l.known beyond (decls_of list) l.block
    (subst (λ xs. DeclarationsLeft y known beyond (decls_of list) l.types l.known (decls_of xs) l.block) (drop_all l.declaration-index list c.loop-declaration-test.false) l.invariant)
