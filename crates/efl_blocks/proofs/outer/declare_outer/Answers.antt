-- One declaration more.
use Rattle.std.proofs.Common.{◌+◌, drop, subst}
use Rattle.std.proofs.lemmas.List.{drop_all}
use Rattle.efl_tree.specs.Views.{decl_of, decls_of}
use Rattle.efl_scope.proofs.TreeLemmas.{drop_next}
use Rattle.efl_blocks.proofs.OuterLemmas.{OuterLeft, outer_begun, outer_passed, outer_ended}
use Rattle.efl_blocks.proofs.outer.declare_outer.Goals as goal

pub loop-declaration-init : goal.loop-declaration-init
loop-declaration-init c = outer_begun c.args.types.now c.args.known.now c.args.block.now c.args.letters.now (decls_of c.args.list.now)

pub loop-declaration-preserved : goal.loop-declaration-preserved
loop-declaration-preserved c =
    let l = c.loop-declaration in
    let list = c.args.list.now in
    let d = c.declaration-item.result in
    let y = c.args.types.now in
    let known = c.args.known.now in
    let old = c.args.block.now in
    let before = c.args.letters.now in
    let next = c.declare_one.new in
    outer_passed y l.types next.types known l.known next.known old l.block next.block before l.letters next.letters (decls_of list) (decl_of d)
    (decls_of (drop (l.declaration-index + 1) list))
    (subst (λ xs. OuterLeft y known old before (decls_of list) l.types l.known l.block l.letters (decls_of xs)) (drop_next list l.declaration-index d c.loop-declaration-test.true c.declaration-item.is) l.invariant)
    c.in_ok-declare_one.ensures

pub returns : goal.returns
returns c =
    let l = c.loop-declaration in
    let list = c.args.list.now in
    let y = c.args.types.now in
    let known = c.args.known.now in
    let old = c.args.block.now in
    let before = c.args.letters.now in
    outer_ended y l.types known l.known old l.block before l.letters (decls_of list)
    (subst (λ xs. OuterLeft y known old before (decls_of list) l.types l.known l.block l.letters (decls_of xs)) (drop_all l.declaration-index list c.loop-declaration-test.false) l.invariant)
